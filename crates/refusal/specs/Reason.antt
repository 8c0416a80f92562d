-- What a refusal says: its number, and the values in its brackets.
use Rattle.std.specs.Prelude.{ℕ, List, [], ◌∷◌, ◌++◌, take, decimal}
use Rattle.std.specs.List.{flat_map}
use Rattle.refusal.specs.declared.Side.{Side}
use Rattle.refusal.specs.declared.Side.TheVariants.{Written, Other}
use Rattle.refusal.specs.declared.Cause.{Cause}
use Rattle.refusal.specs.declared.Cause.TheVariants.{TotalTooLarge, CellTooLarge, CellAboveCount, RowSumDiffers}
use Rattle.refusal.specs.declared.Refusal.{Refusal}
use Rattle.refusal.specs.declared.Refusal.TheVariants.{RowsOutOfRange, WidthNotAllowed, DrawnNumberTooLarge, SpanOutOfRange, KeyOutOfRange, SpanBelowCodes, WrongCellCount, WrongPlanNumber, ZeroWeight, LevelOutOfRange, ListTooShort, OutOfBalance, BufferTooShort, MessageMisshapen, PlanFieldDiffers, SectionUnsound, WrongLineForm}
use Rattle.refusal.specs.declared.values.Values.{Values}

pub record Reason : Type 0 where
  pub number : ℕ
  pub values : List ℕ

abbrev pub says : ℕ → List ℕ → Reason
says n vs = record { number = n; values = vs }

-- 0 for the board written to or the only one, 1 for the other
abbrev pub side_number : Side → ℕ
side_number Written = 0
side_number Other = 1

abbrev pub cause_number : Cause → ℕ
cause_number TotalTooLarge = 1
cause_number CellTooLarge = 2
cause_number CellAboveCount = 3
cause_number RowSumDiffers = 4

abbrev pub reason : Refusal → Reason
reason RowsOutOfRange = says 1 []
reason WidthNotAllowed = says 2 []
reason DrawnNumberTooLarge = says 3 []
reason SpanOutOfRange = says 4 []
reason KeyOutOfRange = says 5 []
reason SpanBelowCodes = says 6 []
reason (WrongCellCount brought board) = says 7 (brought ∷ side_number board ∷ [])
reason (WrongPlanNumber board) = says 8 (side_number board ∷ [])
reason ZeroWeight = says 9 []
reason LevelOutOfRange = says 10 []
reason ListTooShort = says 11 []
reason (OutOfBalance cause row group cell) = says 12 (cause_number cause ∷ row ∷ group ∷ cell ∷ [])
reason (BufferTooShort needed) = says 13 (needed ∷ [])
reason (MessageMisshapen bit) = says 14 (bit ∷ [])
reason (PlanFieldDiffers bit) = says 15 (bit ∷ [])
reason (SectionUnsound row bit) = says 16 (row ∷ bit ∷ [])
reason (WrongLineForm line) = says 17 (line ∷ [])

-- what `values` answers, as a list
abbrev pub listed : Values → List ℕ
listed v = take v.count v.places

-- each number after a space
abbrev pub spaced : List ℕ → List ℕ
spaced vs = flat_map (λ v. 32 ∷ decimal v) vs

-- the number and the values in decimal, parted by single spaces
abbrev pub spelt : Reason → List ℕ
spelt r = decimal r.number ++ spaced r.values
