-- Universal groupings: how one is made, and what it means.
use Rattle.std.specs.Prelude.{◌≡◌, ℕ, List, Some, None, Ok, Err, Option, Result, slice_index_or, refl}
use Rattle.std.proofs.Common.{ap}
use Rattle.model.specs.Grouping.{Groups}
use Rattle.model.specs.Universal.{universal}
use Rattle.refusal.specs.Checks.{accepted}
use Rattle.refusal.specs.declared.Refusal.{Refusal}
use Rattle.groupings.specs.declared.universal.Draw.{Draw}
use Rattle.groupings.specs.declared.universal.Universal.{Universal}
use Rattle.groupings.specs.UniversalFit.{universal_refusal}

abbrev pub universal_unless : (rows width : ℕ) (drawn : List Draw) (refused : Option Refusal) → universal_refusal rows width drawn ≡ refused → Result Universal Refusal
universal_unless rows width drawn None e = Ok (record { rows = rows; width = width; drawn = drawn; fit = ap accepted e })
universal_unless rows width drawn (Some refusal) e = Err refusal

-- the grouping with these parameters, or the first refusal that applies
abbrev pub new_universal : ℕ → ℕ → List Draw → Result Universal Refusal
new_universal rows width drawn = universal_unless rows width drawn (universal_refusal rows width drawn) refl

abbrev pub no_draw : Draw
no_draw = record { a = 0; b = 0 }

abbrev pub universal_groups : Universal → Groups
universal_groups u = universal u.rows u.width (λ row. (slice_index_or u.drawn row no_draw).a) (λ row. (slice_index_or u.drawn row no_draw).b)
