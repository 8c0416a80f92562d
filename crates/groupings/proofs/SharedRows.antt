-- Rows counted in their list.
use Rattle.std.proofs.Common.{◌≡◌, ℕ, zero, suc, ◌+◌, Bool, cond, map, sym, refl, ap, ◌∙◌, count_by, add-one, arith}
use Rattle.std.specs.List.{range_with_len}
use Rattle.std.proofs.lemmas.List.{map-id}
use Rattle.std.proofs.lemmas.List.FromFn.{sum_by-map-range_with_len_more}
use Rattle.model.specs.Counting.{count_below}

pub count_of_rows : (n : ℕ) (test : ℕ → Bool) → count_by test (range_with_len 0 n) ≡ count_below n test
count_of_rows zero test = refl
count_of_rows (suc n) test =
    ap (count_by test) (sym (map-id (range_with_len 0 (suc n))) ∙ ap (λ m. map (λ row. row) (range_with_len 0 m)) (sym (add-one n)))
    ∙ sum_by-map-range_with_len_more (λ row. cond (test row) 1 0) (λ row. row) 0 n n (omega arith)
    ∙ ap (λ m. m + cond (test n) 1 0) (ap (count_by test) (map-id (range_with_len 0 n)) ∙ count_of_rows n test)
