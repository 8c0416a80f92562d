-- Every service is guaranteed: its boards are those that their net counts make, and those answer as promised.
use Rattle.std.proofs.Common.{◌≡◌, ℕ, ◌+◌, ◌*◌, ◌<◌, ◌≤◌, true, not, ◌&&◌, eqb, List, get_or, pos, ◌<ℤ◌, is_ok, Ok, sym, refl, ap, ⊎_elim, le_trans, arith}
use mathlib.Core.Path.{fun_ext}
use lib.Signed.{clash_ℤ}
use Rattle.std.proofs.lemmas.Int.{ints}
use Rattle.model.specs.Counting.{sum_where}
use Rattle.model.specs.Grouping.{Spread, shares}
use Rattle.model.specs.Plan.{Plan, PlanLaws}
use Rattle.model.specs.Board.{Board, count_in_row, estimated, estimate_outcome}
use Rattle.model.specs.Level.{fit_level, threshold, RowsEnough}
use Rattle.model.specs.Report.{hot_list, report_outcome}
use Rattle.model.specs.NetCounts.{Net, net_counts, company}
use Rattle.model.specs.Guarantee.{PlainCounts, Lists, EqualBoards, TrueReport, Guarantee, EveryServiceIsGuaranteed}
use Rattle.model.proofs.BoardOf.{cells_of, board_of}
use Rattle.model.proofs.Served.{served_is}
use Rattle.model.proofs.Sums.{of_apart, sum_from}
use Rattle.model.proofs.PlainCounts.{plain, total_plain, rest, company_is, estimates_are}
use Rattle.model.proofs.Balance.{accepted_is, list_is}
use Rattle.model.proofs.Level.{above_means, at_most_means, no_room}
use Rattle.model.proofs.Company.{some_low, met}
use Rattle.model.proofs.Report.{sound_list, hot_plain, low_listed, over}

module _ {K : Type 0} (P : Plan K) (laws : PlanLaws P) where
  equal_boards : (b other : Board) → b ≡ other → EqualBoards P b other
  equal_boards b other e = record {
    equal_totals = ap (λ (x : Board). x.total) e;
    equal_cells = ap (λ (x : Board). x.cells) e;
    equal_estimates = λ key. ap (λ x. estimate_outcome P x key) e;
    equal_reports = λ k places. ap (λ x. report_outcome P x k places) e;
  }

  equal_nets : (net other : Net K) → ((key : K) → net key ≡ other key) → board_of P net ≡ board_of P other
  equal_nets net other h = ap (board_of P) (fun_ext h)

  -- all codes are below the span, and two different ones below it share at most `spread` rows
  module _ (span spread : ℕ) (law : Spread P.groups span spread) (wide : P.kind.codes ≤ span) (net : Net K) (n : ℕ) (plain_counts : PlainCounts P net n) where
    listed_with_rows_enough : (k : ℕ) (x : K) → fit_level k ≡ true → RowsEnough P.groups.rows spread k → pos (threshold n k) <ℤ net x → Lists P (hot_list P (cells_of P net) (threshold n k)) x
    listed_with_rows_enough k x level rows hot =
        let t : ℕ = threshold n k in
        let c : ℕ = P.kind.code x in
        let N : ℕ = P.kind.codes in
        let T : ℕ = P.groups.rows in
        let under : c < N = laws.kind_lawful.code_below_codes x in
        let m : ℕ = sum_where N (λ d. true && not (eqb d c)) (plain P net) in
        ⊎_elim
        (λ (low : (r : ℕ) × (r < T) × (rest P net n plain_counts c r ≤ t)). low_listed P laws net n plain_counts x t low.0 low.1 hot low.2)
        (λ (high : (r : ℕ) → r < T → t < rest P net n plain_counts c r).
        let full : T * (t + 1) ≤ m * spread =
        le_trans (sum_from T (λ r. rest P net n plain_counts c r) (t + 1) (λ r l. omega (arith, high r l)))
        (met N T spread c (plain P net) (λ d r. shares P.groups d c r) under (λ d l a. law.codes_share_few_rows d c (omega arith) (omega arith) a)) in
        absurd (no_room T spread k n m (plain P net c) level laws.groups_lawful.at_least_1_row rows (hot_plain P laws net n plain_counts x t hot)
        (omega (arith, of_apart N c (λ _. true) (plain P net) under refl, total_plain P net n plain_counts))
        full))
        (some_low T (λ r. rest P net n plain_counts c r) t)

    pub reported : (k : ℕ) → fit_level k ≡ true → TrueReport P spread net (board_of P net) n k (hot_list P (cells_of P net) (threshold n k))
    reported k level =
        let t : ℕ = threshold n k in
        let out : List ℕ = hot_list P (cells_of P net) t in
        let f = sound_list P (cells_of P net) t in
        record {
          it_is_the_list_of_the_rules = refl;
          nothing_but_keys_is_listed = λ i l. let q = (f.each i l).key in (q.0, sym (laws.kind_lawful.key_has_its_code (get_or out i 0) q.0 q.1));
          no_key_is_listed_twice = f.once;
          no_cold_key_is_listed = λ x low at.
              let c : ℕ = P.kind.code x in
              let q : (i : ℕ) → i < P.groups.rows → t < count_in_row P (cells_of P net) c i = rw at.2 at (f.each at.0 at.1).counts in
              clash_ℤ (over P laws net n plain_counts x t q) (at_most_means n k (estimated P (cells_of P net) c) level low);
          hot_keys_with_little_company_in_some_row_are_listed = λ x r lr hot low. low_listed P laws net n plain_counts x t r lr (above_means n k (net x) level hot)
              (let e = company_is P net n plain_counts x r in let l = at_most_means n k (company P net x r) level low in omega (arith, ints));
          with_rows_enough_every_hot_key_is_listed = λ rows x hot. listed_with_rows_enough k x level rows (above_means n k (net x) level hot);
        }

    pub reports_are : (k places : ℕ) (list : List ℕ) → report_outcome P (board_of P net) k places ≡ Ok list → TrueReport P spread net (board_of P net) n k list
    reports_are k places list e =
        let a : is_ok (report_outcome P (board_of P net) k places) ≡ true = ap is_ok e in
        rw (list_is P laws net n plain_counts k places list e) (reported k ((accepted_is P laws net n plain_counts k places).0 a).0)

  pub every_service_is_guaranteed : (span spread : ℕ) → Spread P.groups span spread → P.kind.codes ≤ span → EveryServiceIsGuaranteed P spread
  every_service_is_guaranteed span spread law wide calls service = rw (fun_ext (served_is P laws.kind_lawful calls service)) guarantee
    where
      guarantee : Guarantee P spread (λ i. board_of P (net_counts P calls i)) (net_counts P calls)
      guarantee = record {
        equal_net_counts_give_equal_boards = λ i j h. equal_boards _ _ (equal_nets _ _ h);
        estimates_are_net_count_plus_least_company = λ i n plain_counts key. estimates_are P (net_counts P calls i) n plain_counts laws key;
        reports_are_accepted_just_when_level_and_list_are_fit = λ i n plain_counts k places. accepted_is P laws (net_counts P calls i) n plain_counts k places;
        reports_are_complete_and_without_duplicates_and_cold_keys = λ i n plain_counts k places list e.
            reports_are span spread law wide (net_counts P calls i) n plain_counts k places list e;
      }
