-- Where no net count is negative and their sum is below 2^63, totals and cells are plain sums and nothing wraps.
use Rattle.std.proofs.Common.{◌≡◌, ℕ, zero, suc, ◌+◌, ◌-◌, ◌<◌, ◌≤◌, Bool, true, false, cond, ◌&&◌, eqb, ℤ, pos, negsuc, ◌+ℤ◌, nat_abs, ◌≤ℤ◌, Some, None, Ok, Option, sym, refl, ap, ◌∙◌, ap₂, arith, w64}
use mathlib.Core.Path.{fun_ext}
use Rattle.std.proofs.lemmas.Int.{ints, clamps, to_z_pos}
use Rattle.std.proofs.lemmas.Bool.{eq-eqb}
use Rattle.model.specs.Counting.{sum_below, sum_where, integer_sum_where, least_to}
use Rattle.model.specs.Words.{signed}
use Rattle.model.specs.Plan.{Plan, PlanLaws, run, place, group_of, counts_in}
use Rattle.model.specs.Board.{cell, count_in_row, estimated, estimate_outcome}
use Rattle.model.specs.NetCounts.{Net, of_key, by_code, accompanies, company, least_company}
use Rattle.model.specs.Guarantee.{PlainCounts}
use Rattle.model.proofs.Wrapping.{wrap, wrap_small}
use Rattle.model.proofs.IntegerSums.{integer_same, integer_pos}
use Rattle.model.proofs.Sums.{of_le, of_apart}
use Rattle.model.proofs.Places.{place_below, counts_at_place}
use Rattle.model.proofs.BoardOf.{cells_of, board_of, cell_at, is_fit}

pub least_shift : (m : ℕ) (x : ℤ) (f g : ℕ → ℤ) → ((r : ℕ) → r ≤ m → f r ≡ x +ℤ g r) → least_to m f ≡ x +ℤ least_to m g
unfolding least_to
least_shift zero x f g h = h 0 (omega arith)
least_shift (suc m) x f g h =
    let a : least_to m f ≡ x +ℤ least_to m g = least_shift m x f g (λ r l. h r (omega arith)) in
    let b : f (suc m) ≡ x +ℤ g (suc m) = h (suc m) (omega arith) in
    omega (arith, ints, clamps)

module _ {K : Type 0} (P : Plan K) where
  -- ---- net counts as naturals

  abbrev pub plain : Net K → ℕ → ℕ
  plain net c = nat_abs (by_code P net c)

  module _ (net : Net K) (n : ℕ) (plain_counts : PlainCounts P net n) where
    plain_at : (o : Option K) → of_key net o ≡ pos (nat_abs (of_key net o))
    plain_at None = refl
    plain_at (Some k) = go (net k) (plain_counts.none_negative k)
      where
        go : (z : ℤ) → pos 0 ≤ℤ z → z ≡ pos (nat_abs z)
        go (pos a) h = refl
        go (negsuc a) h = absurd (omega (arith, ints))

    pub plain_is : (c : ℕ) → by_code P net c ≡ pos (plain net c)
    plain_is c = plain_at (P.kind.key c)

    pub total_plain : sum_below P.kind.codes (plain net) ≡ n
    total_plain =
        let e : pos (sum_below P.kind.codes (plain net)) ≡ pos n =
        sym (integer_pos P.kind.codes (plain net)) ∙ sym (integer_same P.kind.codes _ _ (λ c _. plain_is c)) ∙ plain_counts.sum_is in
        omega (arith, ints)

    pub of_plain : (q : ℕ → Bool) → integer_sum_where P.kind.codes q (by_code P net) ≡ pos (sum_where P.kind.codes q (plain net))
    of_plain q = integer_same P.kind.codes _ _ (λ c _. ap (λ z. cond (q c) z (pos 0)) (plain_is c) ∙ cond_pos (q c) (plain net c)) ∙ integer_pos P.kind.codes (λ c. cond (q c) (plain net c) 0)
      where
        cond_pos : (b : Bool) (x : ℕ) → cond b (pos x) (pos 0) ≡ pos (cond b x 0)
        cond_pos true x = refl
        cond_pos false x = refl

    pub of_below : (q : ℕ → Bool) → sum_where P.kind.codes q (plain net) ≤ n
    of_below q = omega (arith, of_le P.kind.codes q (plain net), total_plain)

    pub total_is : (board_of P net).total ≡ n
    total_is = ap wrap plain_counts.sum_is ∙ wrap_small n (omega (arith, plain_counts.sum_below_2_63))

    -- what a cell holds
    pub cell_is : (r g l : ℕ) → r < P.groups.rows → g < P.groups.width → l < run P →
        cell P (cells_of P net) r g l ≡ sum_where P.kind.codes (λ c. eqb (group_of P r c) g && counts_in P c l) (plain net)
    cell_is r g l a b d =
        let q : ℕ → Bool = λ c. eqb (group_of P r c) g && counts_in P c l in
        cell_at P net (place P r g l) (place_below P r g l a b d)
        ∙ ap (λ t. wrap (integer_sum_where P.kind.codes t (by_code P net))) (fun_ext (λ c. counts_at_place P r g l c b d))
        ∙ ap wrap (of_plain q) ∙ wrap_small (sum_where P.kind.codes q (plain net)) (omega (arith, of_below q, plain_counts.sum_below_2_63))

    and_true : (b : Bool) → (b && true) ≡ b
    and_true true = refl
    and_true false = refl

    -- the sum over the others in a code's group in row r
    abbrev pub rest : ℕ → ℕ → ℕ
    rest x r = sum_where P.kind.codes (accompanies P r x) (plain net)

    pub group_is : (r g : ℕ) → r < P.groups.rows → g < P.groups.width →
        cell P (cells_of P net) r g 0 ≡ sum_where P.kind.codes (λ c. eqb (group_of P r c) g) (plain net)
    group_is r g a b = cell_is r g 0 a b (omega arith) ∙ ap (λ q. sum_where P.kind.codes q (plain net)) (fun_ext (λ c. and_true (eqb (group_of P r c) g)))

    pub company_is : (k : K) (r : ℕ) → company P net k r ≡ pos (rest (P.kind.code k) r)
    company_is k r = of_plain (accompanies P r (P.kind.code k))

    module _ (laws : PlanLaws P) where
      pub code_plain : (k : K) → pos (plain net (P.kind.code k)) ≡ net k
      code_plain k = sym (plain_is (P.kind.code k)) ∙ ap (of_key net) (laws.kind_lawful.code_gives_its_key k)

      pub count_is : (x r : ℕ) → x < P.kind.codes → r < P.groups.rows → count_in_row P (cells_of P net) x r ≡ plain net x + rest x r
      count_is x r c a =
          group_is r (group_of P r x) a (laws.groups_lawful.group_below_width r x)
          ∙ of_apart P.kind.codes x (λ d. eqb (group_of P r d) (group_of P r x)) (plain net) c (eq-eqb _ _ refl)

      pub count_small : (x r : ℕ) → r < P.groups.rows → count_in_row P (cells_of P net) x r ≤ n
      count_small x r a = omega (arith, group_is r (group_of P r x) a (laws.groups_lawful.group_below_width r x), of_below (λ c. eqb (group_of P r c) (group_of P r x)))

      pub signed_is : (x r : ℕ) → r < P.groups.rows → signed (count_in_row P (cells_of P net) x r) ≡ pos (count_in_row P (cells_of P net) x r)
      signed_is x r a = to_z_pos w64 _ (omega (arith, count_small x r a, plain_counts.sum_below_2_63))

      pub estimated_is : (k : K) → estimated P (cells_of P net) (P.kind.code k) ≡ net k +ℤ least_company P net k
      unfolding estimated
      estimated_is k =
          least_shift (P.groups.rows - 1) (net k) _ (company P net k)
          (λ r l. let a : r < P.groups.rows = omega (arith, laws.groups_lawful.at_least_1_row) in
          signed_is (P.kind.code k) r a ∙ ap pos (count_is (P.kind.code k) r (laws.kind_lawful.code_below_codes k) a)
          ∙ ap₂ ◌+ℤ◌ (code_plain k) (sym (company_is k r)))

      pub estimates_are : (k : K) → estimate_outcome P (board_of P net) k ≡ Ok (net k +ℤ least_company P net k)
      estimates_are k = rw (is_fit P net None) (ap Ok (estimated_is k))
