-- Drawn numbers from a place on: the draw there, and the rest. The code needs none of this; it says how the definition goes down
-- a list.
use Rattle.std.proofs.Common.{◌≡◌, ℕ, ◌+◌, ◌<◌, ◌≤◌, Bool, true, false, ◌&&◌, ltb, List, length, get_or, drop, sym, refl, ◌∙◌, add-one, drop-cons, le-ltb, lt-ltb}
use Rattle.model.specs.Universal.{prime}
use Rattle.groupings.specs.UniversalFit.{drawn_fit}
use Rattle.groupings.specs.Universal.{no_draw}
use Rattle.groupings.specs.declared.universal.Draw.{Draw}

abbrev draw_fit : Draw → Bool
draw_fit d = ltb d.a prime && ltb d.b prime

pub rest_fit : (ds : List Draw) (i : ℕ) → i < length ds → drawn_fit (drop i ds) ≡ draw_fit (get_or ds i no_draw) && drawn_fit (drop (i + 1) ds)
rest_fit ds i h = rw (add-one, drop-cons ds i no_draw)

and_false : (a b c : Bool) → b ≡ false → (a && b) && c ≡ false
and_false true b c e = rw e refl
and_false false b c e = refl

-- the draw at a place is fit
pub fit_more : (ds : List Draw) (i : ℕ) → i < length ds → (get_or ds i no_draw).a < prime → (get_or ds i no_draw).b < prime → drawn_fit (drop (i + 1) ds) ≡ drawn_fit (drop i ds)
fit_more ds i h ha hb = sym (rest_fit ds i h ∙ rw (lt-ltb (get_or ds i no_draw).a prime ha, lt-ltb (get_or ds i no_draw).b prime hb) refl)

-- one of the two numbers at a place is not
pub unfit_a : (ds : List Draw) (i : ℕ) → i < length ds → prime ≤ (get_or ds i no_draw).a → drawn_fit (drop i ds) ≡ false
unfit_a ds i h ha = rest_fit ds i h ∙ rw (le-ltb (get_or ds i no_draw).a prime ha) refl

pub unfit_b : (ds : List Draw) (i : ℕ) → i < length ds → prime ≤ (get_or ds i no_draw).b → drawn_fit (drop i ds) ≡ false
unfit_b ds i h hb = rest_fit ds i h ∙ and_false (ltb (get_or ds i no_draw).a prime) (ltb (get_or ds i no_draw).b prime) _ (le-ltb (get_or ds i no_draw).b prime hb)
