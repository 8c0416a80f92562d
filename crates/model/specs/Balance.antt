-- The balance of a board: the first fault that a report refuses.
use Rattle.std.specs.Prelude.{ℕ, ◌^◌, None, Option, ◌==◌, nat_le, nat_lt}
use Rattle.refusal.specs.declared.Refusal.{Refusal}
use Rattle.refusal.specs.declared.Refusal.TheVariants.{OutOfBalance}
use Rattle.refusal.specs.declared.Cause.TheVariants.{TotalTooLarge, CellTooLarge, CellAboveCount, RowSumDiffers}
use Rattle.refusal.specs.Checks.{check}
use Rattle.model.specs.Counting.{sum_below, or_else, first_below}
use Rattle.model.specs.Plan.{Plan, run}
use Rattle.model.specs.Board.{Board, cell}

-- one cell of a run, `count` being the run's cell 0
abbrev pub cell_fault : (row group l : ℕ) (count value : ℕ) → Option Refusal
cell_fault row group l count value =
    check (nat_lt value (2 ^ 63)) (OutOfBalance CellTooLarge row group l)
    (check (nat_le value count) (OutOfBalance CellAboveCount row group l)
    None)

-- the cells of one run, from cell 0 on, h l being cell l
abbrev pub run_fault : (row group : ℕ) (length : ℕ) (h : ℕ → ℕ) → Option Refusal
run_fault row group length h = first_below length (λ l. cell_fault row group l (h 0) (h l))

module _ {K : Type 0} (P : Plan K) where
  -- the groups of one row in turn, and then the sum of their counts
  unfoldable pub row_fault : Board → ℕ → Option Refusal
  row_fault b row =
      or_else
      (first_below P.groups.width (λ group. run_fault row group (run P) (cell P b.cells row group)))
      (check (sum_below P.groups.width (λ group. cell P b.cells row group 0) == b.total) (OutOfBalance RowSumDiffers row 0 0)
      None)

  -- the total, and then the rows in turn
  unfoldable pub fault : Board → Option Refusal
  fault b = check (nat_lt b.total (2 ^ 63)) (OutOfBalance TotalTooLarge 0 0 0) (first_below P.groups.rows (row_fault b))
