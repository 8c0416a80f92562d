-- The list of a board in balance has room where a report asks for it: at most k groups of a row hold more than t.
use Rattle.std.proofs.Common.{◌≡◌, ℕ, zero, suc, ◌+◌, ◌*◌, ◌<◌, ◌≤◌, min, Bool, true, false, cond, ltb, List, [], ◌∷◌, ◌++◌, length, Some, None, Option, refl, ⊎_elim, le_trans, arith}
use Rattle.std.proofs.lemmas.List.{length_push}
use Rattle.std.proofs.lemmas.Bool.{cases_eq, eqb-true, ltb-true}
use Rattle.refusal.specs.declared.Refusal.{Refusal}
use Rattle.refusal.specs.Checks.{check}
use Rattle.model.specs.Counting.{among, sum_below, count_below, steps_below, first_below, or_else}
use Rattle.model.specs.Plan.{Plan}
use Rattle.model.specs.Board.{Board, cell}
use Rattle.model.specs.Level.{fit_level, threshold, most_in_row, room}
use Rattle.model.specs.Balance.{fault, row_fault}
use Rattle.model.specs.Report.{with_code, decoded, found, sifted, row_list, hot_list}
use Rattle.model.proofs.Counting.{count_at_most}
use Rattle.model.proofs.Sums.{count_by, count_is_sum, sum_most}
use Rattle.model.proofs.Level.{few_groups}

-- ---- no fault

or_none : {A : Type 0} (x y : Option A) → or_else x y ≡ None → (x ≡ None) × (y ≡ None)
or_none None y h = (refl, h)
or_none (Some a) y h = absurd (let w : ◌≡◌ {A = ℕ} 0 1 = cc in omega arith)

pub none_first : {A : Type 0} (n : ℕ) (f : ℕ → Option A) → first_below n f ≡ None → (i : ℕ) → i < n → f i ≡ None
unfolding first_below
none_first zero f h i l = absurd (omega arith)
none_first (suc n) f h i l =
    let p = or_none (first_below n f) (f n) h in
    ⊎_elim (λ (e : i ≡ n). rw e p.1) (λ (d : i ≡ n → ⊥). none_first n f p.0 i (omega arith)) (cases_eq i n)

check_none : (passed : Bool) (refusal : Refusal) (others : Option Refusal) → check passed refusal others ≡ None → (passed ≡ true) × (others ≡ None)
check_none true refusal others h = (refl, h)
check_none false refusal others h = absurd (let w : ◌≡◌ {A = ℕ} 0 1 = cc in omega arith)

-- ---- growth

module _ (f : List ℕ → ℕ → List ℕ) (q : ℕ → ℕ) (up : (out : List ℕ) (i : ℕ) → length (f out i) ≤ length out + q i) where
  pub steps_most : (n : ℕ) (out : List ℕ) → length (steps_below n f out) ≤ length out + sum_below n q
  unfolding steps_below
  steps_most zero out = omega arith
  steps_most (suc n) out = omega (arith, up (steps_below n f out) n, steps_most n out)

module _ (f : List ℕ → ℕ → List ℕ) (up : (out : List ℕ) (i : ℕ) → length out ≤ length (f out i)) where
  pub steps_more : (i n : ℕ) (out : List ℕ) → i ≤ n → length (steps_below i f out) ≤ length (steps_below n f out)
  unfolding steps_below
  steps_more i zero out l = let e : i ≡ 0 = omega arith in rw e (omega arith)
  steps_more i (suc n) out l =
      ⊎_elim
      (λ (e : i ≡ suc n). rw e (omega arith))
      (λ (d : i ≡ suc n → ⊥). le_trans (steps_more i n out (omega arith)) (up (steps_below n f out) n))
      (cases_eq i (suc n))

abbrev one_if : Bool → ℕ
one_if b = cond b 1 0

with_code_most : (out : List ℕ) (o : Option ℕ) → length (with_code out o) ≤ length out + 1
with_code_most out None = omega arith
with_code_most out (Some c) = go (among out c)
  where
    go : (b : Bool) → length (cond b out (out ++ c ∷ [])) ≤ length out + 1
    go true = omega arith
    go false = omega (arith, length_push out c)

with_code_more : (out : List ℕ) (o : Option ℕ) → length out ≤ length (with_code out o)
with_code_more out None = omega arith
with_code_more out (Some c) = go (among out c)
  where
    go : (b : Bool) → length out ≤ length (cond b out (out ++ c ∷ []))
    go true = omega arith
    go false = omega (arith, length_push out c)

module _ {K : Type 0} (P : Plan K) (b : List ℕ) (t : ℕ) where
  -- a group whose count is at most t yields nothing
  one_group : (r g : ℕ) (out : List ℕ) → length (with_code out (found P b t r g)) ≤ length out + cond (ltb t (cell P b r g 0)) 1 0
  unfolding found
  one_group r g out = go (ltb t (cell P b r g 0))
    where
      go : (h : Bool) → length (with_code out (cond h (sifted P b t r g (decoded t (cell P b r g) P.kind.bits)) None)) ≤ length out + cond h 1 0
      go true = with_code_most out _
      go false = omega arith

  -- how many groups of a row are above t
  abbrev pub hot_groups : ℕ → ℕ
  hot_groups r = count_below P.groups.width (λ g. ltb t (cell P b r g 0))

  row_most : (out : List ℕ) (r : ℕ) → length (row_list P b t out r) ≤ length out + hot_groups r
  unfolding row_list
  row_most out r =
      rw (count_is_sum P.groups.width (λ g. ltb t (cell P b r g 0)))
      (steps_most (λ o g. with_code o (found P b t r g)) (λ g. cond (ltb t (cell P b r g 0)) 1 0) (λ o g. one_group r g o) P.groups.width out)

  row_more : (out : List ℕ) (r : ℕ) → length out ≤ length (row_list P b t out r)
  unfolding row_list steps_below
  row_more out r = steps_more (λ o g. with_code o (found P b t r g)) (λ o g. with_code_more o (found P b t r g)) 0 P.groups.width out (omega arith)

  -- the list while row r is at its group g
  unfoldable pub so_far : ℕ → ℕ → List ℕ
  so_far r g = steps_below g (λ o i. with_code o (found P b t r i)) (steps_below r (λ o i. row_list P b t o i) [])

  pub so_far_least : (r g : ℕ) → r < P.groups.rows → g ≤ P.groups.width → length (so_far r g) ≤ length (hot_list P b t)
  unfolding so_far hot_list steps_below row_list
  so_far_least r g lr lg =
      le_trans (steps_more (λ o i. with_code o (found P b t r i)) (λ o i. with_code_more o (found P b t r i)) g P.groups.width _ lg)
      (whole (steps_more (λ o i. row_list P b t o i) (λ o i. row_more o i) (suc r) P.groups.rows [] lr))
    where
      whole : length (steps_below (suc r) (λ o i. row_list P b t o i) []) ≤ length (steps_below P.groups.rows (λ o i. row_list P b t o i) []) →
          length (steps_below P.groups.width (λ o i. with_code o (found P b t r i)) (steps_below r (λ o i. row_list P b t o i) [])) ≤ length (steps_below P.groups.rows (λ o i. row_list P b t o i) [])
      whole h = h

module _ {K : Type 0} (P : Plan K) (b : Board) (k : ℕ) (level : fit_level k ≡ true) (none : fault P b ≡ None) where
  row_sum : (r : ℕ) → r < P.groups.rows → sum_below P.groups.width (λ g. cell P b.cells r g 0) ≡ b.total
  unfolding fault row_fault
  row_sum r l =
      let f = none_first P.groups.rows (row_fault P b) (check_none _ _ _ none).1 r l in
      eqb-true _ _ (check_none _ _ _ (or_none _ _ f).1).0

  few_hot : (r : ℕ) → r < P.groups.rows → hot_groups P b.cells (threshold b.total k) r ≤ min (most_in_row k) P.groups.width
  few_hot r l =
      let t : ℕ = threshold b.total k in
      let a : hot_groups P b.cells t r * (t + 1) ≤ b.total =
      omega (arith, row_sum r l, count_by P.groups.width (λ g. ltb t (cell P b.cells r g 0)) (λ g. cell P b.cells r g 0) (t + 1) (λ g _ h. omega (arith, ltb-true t (cell P b.cells r g 0) h))) in
      omega (arith, few_groups b.total k (hot_groups P b.cells t r) level a, count_at_most P.groups.width (λ g. ltb t (cell P b.cells r g 0)))

  -- the list of a board in balance fits where a report asks for room
  pub list_fits : length (hot_list P b.cells (threshold b.total k)) ≤ room P.groups k
  unfolding hot_list
  list_fits =
      let t : ℕ = threshold b.total k in
      let m : ℕ = min (most_in_row k) P.groups.width in
      le_trans (steps_most (λ o r. row_list P b.cells t o r) (hot_groups P b.cells t) (λ o r. row_most P b.cells t o r) P.groups.rows [])
      (omega (arith, sum_most P.groups.rows (hot_groups P b.cells t) m few_hot))
