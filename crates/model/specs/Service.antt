-- A service: any list of calls on boards of one plan, and the boards after them.
use Rattle.std.specs.Prelude.{ℕ, ◌^◌, ◌<◌, cond, ◌≢◌, ◌⊎◌, List, [], ◌∷◌, length, Ok, Err, Result, ◌==◌}
use Rattle.std.specs.List.{AllByRecursion}
use Rattle.refusal.specs.declared.Refusal.{Refusal}
use Rattle.model.specs.Plan.{Plan, cell_count}
use Rattle.model.specs.Board.{Board, blank, open_outcome, insert_outcome, remove_outcome, merge_outcome, subtract_outcome}

-- what a call brings: a board of the service, by its number, or some head and cells that are unfit for it
pub data Brought : Type 0 where
  board : ℕ → Brought
  unfit : Board → Brought

-- the calls of a service: merge and subtract write to the board brought first; a report brings a level and the length
-- of its list
pub data Call (K : Type 0) : Type 0 where
  open_call : Brought → Call K
  insert_call : Brought → K → ℕ → Call K
  remove_call : Brought → K → ℕ → Call K
  merge_call : Brought → Brought → Call K
  subtract_call : Brought → Brought → Call K
  estimate_call : Brought → K → Call K
  report_call : Brought → ℕ → ℕ → Call K

-- the same but for what stands at number i
abbrev pub put : {A : Type 0} → (ℕ → A) → ℕ → A → ℕ → A
put all i a j = cond (j == i) a (all j)

-- the head and cells that a call brings
abbrev pub brought : (ℕ → Board) → Brought → Board
brought boards (board i) = boards i
brought boards (unfit b) = b

-- the boards of the service after a call with this outcome
abbrev pub written : (ℕ → Board) → Brought → Result Board Refusal → ℕ → Board
written boards (board i) (Ok b) = put boards i b
written boards (board i) (Err refusal) = boards
written boards (unfit b) outcome = boards

module _ {K : Type 0} (P : Plan K) where
  abbrev pub after_call : (ℕ → Board) → Call K → ℕ → Board
  after_call boards (open_call x) = written boards x (open_outcome P (brought boards x))
  after_call boards (insert_call x key weight) = written boards x (insert_outcome P (brought boards x) key weight)
  after_call boards (remove_call x key weight) = written boards x (remove_outcome P (brought boards x) key weight)
  after_call boards (merge_call x y) = written boards x (merge_outcome P (brought boards x) (brought boards y))
  after_call boards (subtract_call x y) = written boards x (subtract_outcome P (brought boards x) (brought boards y))
  after_call boards (estimate_call x key) = boards
  after_call boards (report_call x k places) = boards

  abbrev pub after_calls : (ℕ → Board) → List (Call K) → ℕ → Board
  after_calls boards [] = boards
  after_calls boards (call ∷ calls) = after_calls (after_call boards call) calls

  -- the boards after these calls, from newly opened ones; a moment of a service is the end of some list of calls
  abbrev pub served : List (Call K) → ℕ → Board
  served calls = after_calls (λ _. blank P) calls

  -- ---- which calls a service may have

  -- what is no board of the service gets 7, the only check of an open
  abbrev pub Gets7 : Brought → Type 0
  Gets7 (board i) = Unit {0}
  Gets7 (unfit b) = length b.cells ≢ cell_count P

  -- what is no board of the service gets 7 or 8
  abbrev pub Gets7Or8 : Brought → Type 0
  Gets7Or8 (board i) = Unit {0}
  Gets7Or8 (unfit b) = (length b.cells ≢ cell_count P) ⊎ (b.plan ≢ P.number)

  abbrev pub Different : Brought → Brought → Type 0
  Different (board i) (board j) = i ≢ j
  Different (board i) (unfit b) = Unit {0}
  Different (unfit b) y = Unit {0}

  -- weights are numbers of 32 bits; merge and subtract bring different boards
  abbrev pub OfService : Call K → Type 0
  OfService (open_call x) = Gets7 x
  OfService (insert_call x key weight) = Gets7Or8 x × (weight < 2 ^ 32)
  OfService (remove_call x key weight) = Gets7Or8 x × (weight < 2 ^ 32)
  OfService (merge_call x y) = Gets7Or8 x × Gets7Or8 y × Different x y
  OfService (subtract_call x y) = Gets7Or8 x × Gets7Or8 y × Different x y
  OfService (estimate_call x key) = Gets7Or8 x
  OfService (report_call x k places) = Gets7Or8 x

  abbrev pub IsService : List (Call K) → Type 0
  IsService calls = AllByRecursion OfService calls
