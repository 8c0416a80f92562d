-- A board whose cells are all 0 is newly opened.
use Rattle.std.proofs.Common.{◌≡◌, ℕ, List, length, replicate, ap, ◌∙◌, eq-eqb}
use Rattle.model.specs.Plan.{Plan, cell_count}
use Rattle.model.specs.Board.{Board, blank, open_outcome, left_by}

pub zeros_are_opened : {K : Type 0} (P : Plan K) (b : Board) (n : ℕ) (cells : List ℕ)
    → length b.cells ≡ n → n ≡ cell_count P → cells ≡ replicate (length b.cells) 0
    → record { plan = P.number; total = 0; cells = cells } ≡ left_by (open_outcome P b) b
unfolding blank
zeros_are_opened P b n cells brought sized zeros =
    rw (eq-eqb _ _ (brought ∙ sized)) (ap (λ cs. record { plan = P.number; total = 0; cells = cs }) (zeros ∙ ap (λ m. replicate m 0) (brought ∙ sized)))
