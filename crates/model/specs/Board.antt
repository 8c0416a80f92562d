-- Boards, and what each call that writes one leaves: a refusal, or the new board.
use Rattle.std.specs.Prelude.{ℕ, ◌-◌, Bool, cond, not, List, map, length, replicate, ℤ, Some, None, Ok, Err, Option, Result, ◌==◌, slice_index}
use Rattle.std.specs.List.{range_with_len}
use Rattle.refusal.specs.declared.Refusal.{Refusal}
use Rattle.refusal.specs.declared.Refusal.TheVariants.{WrongCellCount, WrongPlanNumber, ZeroWeight}
use Rattle.refusal.specs.declared.Side.TheVariants.{Written, Other}
use Rattle.refusal.specs.Checks.{check}
use Rattle.model.specs.Counting.{least_to}
use Rattle.model.specs.Words.{add, take_off, signed}
use Rattle.model.specs.Plan.{Plan, counts, group_of, cell_count, place, counts_at}

-- a head, which is a plan number and a total, with its cells
pub record Board : Type 0 where
  pub plan : ℕ
  pub total : ℕ
  pub cells : List ℕ

-- the first refusal, or the value where there is none
abbrev pub unless : {A : Type 0} → Option Refusal → A → Result A Refusal
unless None a = Ok a
unless (Some refusal) a = Err refusal

-- a group's run with a weight put in for a code: in each cell where the code counts
abbrev pub run_after : (ℕ → ℕ → ℕ) → (weight code : ℕ) → List ℕ → List ℕ
run_after op weight code cells =
    map (λ l. cond (counts code l) (op (slice_index cells l) weight) (slice_index cells l)) (range_with_len 0 (length cells))

module _ {K : Type 0} (P : Plan K) where
  -- whether the cells are as many as the plan says
  abbrev pub sized : Board → Bool
  sized b = length b.cells == cell_count P

  -- whether the head has the plan's number
  abbrev pub of_plan : Board → Bool
  of_plan b = b.plan == P.number

  abbrev pub open_refusal : Board → Option Refusal
  open_refusal b = check (sized b) (WrongCellCount (length b.cells) Written) None

  -- of the only board, before other checks
  abbrev pub board_refusal : Board → Option Refusal → Option Refusal
  board_refusal b others =
      check (sized b) (WrongCellCount (length b.cells) Written)
      (check (of_plan b) (WrongPlanNumber Written)
      others)

  abbrev pub update_refusal : Board → ℕ → Option Refusal
  update_refusal b weight = board_refusal b (check (not (weight == 0)) ZeroWeight None)

  -- of two boards, the one written to first
  abbrev pub join_refusal : Board → Board → Option Refusal
  join_refusal b other =
      check (sized b) (WrongCellCount (length b.cells) Written)
      (check (sized other) (WrongCellCount (length other.cells) Other)
      (check (of_plan b) (WrongPlanNumber Written)
      (check (of_plan other) (WrongPlanNumber Other)
      None)))

  -- a newly opened board
  unfoldable pub blank : Board
  blank = record { plan = P.number; total = 0; cells = replicate (cell_count P) 0 }

  -- a board with its total and each cell made from what they held, the cell's place being known
  unfoldable pub edited : (ℕ → ℕ) → (ℕ → ℕ → ℕ) → Board → Board
  edited total_after cell_after b = record {
    plan = b.plan;
    total = total_after b.total;
    cells = map (λ p. cell_after p (slice_index b.cells p)) (range_with_len 0 (cell_count P));
  }

  -- a key's weight, put in by `add` or `take_off`: to the total, and to each cell where the key counts
  abbrev pub updated : (ℕ → ℕ → ℕ) → ℕ → K → Board → Board
  updated op weight key b =
      edited (λ total. op total weight) (λ p cell. cond (counts_at P p (P.kind.code key)) (op cell weight) cell) b

  -- another board, put in by `add` or `take_off`: to the total, and each cell to the one at the same place
  abbrev pub joined : (ℕ → ℕ → ℕ) → Board → Board → Board
  joined op other b = edited (λ total. op total other.total) (λ p cell. op cell (slice_index other.cells p)) b

  abbrev pub open_outcome : Board → Result Board Refusal
  open_outcome b = unless (open_refusal b) blank

  abbrev pub insert_outcome : Board → K → ℕ → Result Board Refusal
  insert_outcome b key weight = unless (update_refusal b weight) (updated add weight key b)

  abbrev pub remove_outcome : Board → K → ℕ → Result Board Refusal
  remove_outcome b key weight = unless (update_refusal b weight) (updated take_off weight key b)

  abbrev pub merge_outcome : Board → Board → Result Board Refusal
  merge_outcome b other = unless (join_refusal b other) (joined add other b)

  abbrev pub subtract_outcome : Board → Board → Result Board Refusal
  subtract_outcome b other = unless (join_refusal b other) (joined take_off other b)

  -- what a cell of a group of a row holds
  abbrev pub cell : List ℕ → ℕ → ℕ → ℕ → ℕ
  cell cells row group l = slice_index cells (place P row group l)

  -- cell 0 of a code's group in a row
  abbrev pub count_in_row : List ℕ → ℕ → ℕ → ℕ
  count_in_row cells code row = cell cells row (group_of P row code) 0

  -- the least count of a code's groups over the rows, read as signed numbers
  unfoldable pub estimated : List ℕ → ℕ → ℤ
  estimated cells code = least_to (P.groups.rows - 1) (λ row. signed (count_in_row cells code row))

  abbrev pub estimate_outcome : Board → K → Result ℤ Refusal
  estimate_outcome b key = unless (board_refusal b None) (estimated b.cells (P.kind.code key))

-- what a call answers, and what board it leaves: after a refusal the one that it was given
abbrev pub answer_of : Result Board Refusal → Result (Unit {0}) Refusal
answer_of (Ok b) = Ok tt
answer_of (Err refusal) = Err refusal

abbrev pub left_by : Result Board Refusal → Board → Board
left_by (Ok b) before = b
left_by (Err refusal) before = before
