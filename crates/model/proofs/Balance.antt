-- A board with plain counts is in balance, and its reports are accepted just when their level and list are fit.
use Rattle.std.proofs.Common.{◌≡◌, ℕ, zero, suc, ◌^◌, ◌<◌, ◌≤◌, Bool, true, false, ◌&&◌, eqb, ltb, leb, List, is_ok, None, Ok, Decides, Option, Result, sym, refl, ◌∙◌, ap₂, arith}
use Rattle.std.proofs.lemmas.Bool.{cond-true, eq-eqb, lt-ltb, le-leb, leb-true, and_parts}
use Rattle.refusal.specs.declared.Refusal.{Refusal}
use Rattle.refusal.specs.declared.Refusal.TheVariants.{LevelOutOfRange, ListTooShort}
use Rattle.refusal.specs.Checks.{check}
use Rattle.model.specs.Counting.{sum_below, or_else, first_below}
use Rattle.model.specs.Plan.{Plan, PlanLaws, run, group_of, counts_in}
use Rattle.model.specs.Board.{unless, cell}
use Rattle.model.specs.Level.{fit_level, threshold, room}
use Rattle.model.specs.Balance.{cell_fault, row_fault, fault}
use Rattle.model.specs.Report.{hot_list, report_outcome}
use Rattle.model.specs.NetCounts.{Net}
use Rattle.model.specs.Guarantee.{PlainCounts}
use Rattle.model.proofs.BoardOf.{cells_of, board_of, is_sized, is_of_plan}
use Rattle.model.proofs.Sums.{sum_same, of_le_of, of_groups}
use Rattle.model.proofs.PlainCounts.{plain, total_is, total_plain, cell_is, group_is, of_below}

pub first_none : {A : Type 0} (n : ℕ) (f : ℕ → Option A) → ((i : ℕ) → i < n → f i ≡ None) → first_below n f ≡ None
unfolding first_below
first_none zero f h = refl
first_none (suc n) f h = ap₂ or_else (first_none n f (λ i l. h i (omega arith))) (h n (omega arith))

module _ {K : Type 0} (P : Plan K) (laws : PlanLaws P) (net : Net K) (n : ℕ) (plain_counts : PlainCounts P net n) where
  cell_in_balance : (r g l : ℕ) → r < P.groups.rows → g < P.groups.width → l < run P → cell_fault r g l (cell P (cells_of P net) r g 0) (cell P (cells_of P net) r g l) ≡ None
  cell_in_balance r g l a b d =
      let q : ℕ → Bool = λ c. eqb (group_of P r c) g && counts_in P c l in
      let e = cell_is P net n plain_counts r g l a b d in
      let e0 = group_is P net n plain_counts r g a b in
      let small : cell P (cells_of P net) r g l < 2 ^ 63 = omega (arith, of_below P net n plain_counts q, plain_counts.sum_below_2_63) in
      let under : cell P (cells_of P net) r g l ≤ cell P (cells_of P net) r g 0 =
      omega (arith, of_le_of P.kind.codes q (λ c. eqb (group_of P r c) g) (plain P net) (λ c _ h. (and_parts _ _ h).0)) in
      cond-true (ltb _ (2 ^ 63)) _ _ (lt-ltb _ (2 ^ 63) small) ∙ cond-true (leb _ _) _ _ (le-leb _ _ under)

  row_in_balance : (r : ℕ) → r < P.groups.rows → row_fault P (board_of P net) r ≡ None
  unfolding row_fault
  row_in_balance r a =
      let sums : sum_below P.groups.width (λ g. cell P (cells_of P net) r g 0) ≡ (board_of P net).total =
      sum_same P.groups.width _ _ (λ g b. group_is P net n plain_counts r g a b)
      ∙ of_groups P.kind.codes P.groups.width (λ c. group_of P r c) (plain P net) (λ c _. laws.groups_lawful.group_below_width r c)
      ∙ total_plain P net n plain_counts ∙ sym (total_is P net n plain_counts) in
      ap₂ or_else
      (first_none P.groups.width _ (λ g b. first_none (run P) _ (λ l d. cell_in_balance r g l a b d)))
      (cond-true (eqb _ _) _ _ (eq-eqb _ _ sums))

  pub balanced : fault P (board_of P net) ≡ None
  unfolding fault
  balanced =
      let small : (board_of P net).total < 2 ^ 63 = omega (arith, total_is P net n plain_counts, plain_counts.sum_below_2_63) in
      cond-true (ltb _ (2 ^ 63)) _ _ (lt-ltb _ (2 ^ 63) small)
      ∙ first_none P.groups.rows (row_fault P (board_of P net)) row_in_balance

  -- what a report answers
  abbrev answer : Bool → Bool → ℕ → Result (List ℕ) Refusal
  answer fits long k =
      unless (check fits LevelOutOfRange (check long ListTooShort None)) (hot_list P (cells_of P net) (threshold n k))

  answer_is : (k len : ℕ) → report_outcome P (board_of P net) k len ≡ answer (fit_level k) (leb (room P.groups k) len) k
  answer_is k len = rw (is_sized P net, is_of_plan P net, balanced, total_is P net n plain_counts) refl

  pub accepted_is : (k len : ℕ) → Decides (is_ok (report_outcome P (board_of P net) k len)) ((fit_level k ≡ true) × (room P.groups k ≤ len))
  accepted_is k len = rw (answer_is k len) (
    (λ h. go (fit_level k) (leb (room P.groups k) len) (λ e. e) (λ e. leb-true _ _ e) h),
    (λ h. rw (h.0, le-leb (room P.groups k) len h.1) refl),
  )
    where
      go : (a b : Bool) → (a ≡ true → fit_level k ≡ true) → (b ≡ true → room P.groups k ≤ len) → is_ok (answer a b k) ≡ true → (fit_level k ≡ true) × (room P.groups k ≤ len)
      go true true p q h = (p refl, q refl)
      go true false p q h = absurd (let w : ◌≡◌ {A = ℕ} 0 1 = cc in omega arith)
      go false b p q h = absurd (let w : ◌≡◌ {A = ℕ} 0 1 = cc in omega arith)

  pub list_is : (k len : ℕ) (out : List ℕ) → report_outcome P (board_of P net) k len ≡ Ok out → out ≡ hot_list P (cells_of P net) (threshold n k)
  list_is k len out e = go (fit_level k) (leb (room P.groups k) len) (sym (answer_is k len) ∙ e)
    where
      go : (a b : Bool) → answer a b k ≡ Ok out → out ≡ hot_list P (cells_of P net) (threshold n k)
      go true true h = cc
      go true false h = cc
      go false b h = cc
