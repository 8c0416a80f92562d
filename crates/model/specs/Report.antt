-- The report of a board: which codes it lists.
use Rattle.std.specs.Prelude.{ℕ, zero, suc, ◌+◌, ◌-◌, ◌^◌, Bool, true, false, cond, ◌&&◌, ltb, List, [], ◌∷◌, ◌++◌, length, drop, is_some, Some, None, Ok, Err, Option, Result, ◌==◌, nat_le, nat_lt}
use Rattle.refusal.specs.declared.Refusal.{Refusal}
use Rattle.refusal.specs.declared.Refusal.TheVariants.{LevelOutOfRange, ListTooShort}
use Rattle.refusal.specs.Checks.{check}
use Rattle.model.specs.Counting.{among, all_below, steps_below}
use Rattle.model.specs.Plan.{Plan, group_of}
use Rattle.model.specs.Board.{Board, unless, board_refusal, cell, count_in_row}
use Rattle.model.specs.Level.{fit_level, threshold, room}
use Rattle.model.specs.Balance.{fault}

-- a bit is plain where one of the two counts is above t and the other is not: 1 where that of the ones is
abbrev pub plain_bit : (t ones noughts : ℕ) → Option Bool
plain_bit t ones noughts = cond (nat_lt t ones) (cond (nat_lt t noughts) None (Some true)) (cond (nat_lt t noughts) (Some false) None)

-- a code with its bit worth 2^l
abbrev pub with_bit : (l code : ℕ) → Option Bool → Option ℕ
with_bit l code None = None
with_bit l code (Some bit) = Some (code + cond bit (2 ^ l) 0)

abbrev pub next_bit : (t : ℕ) (h : ℕ → ℕ) (l : ℕ) → Option ℕ → Option ℕ
next_bit t h l None = None
next_bit t h l (Some code) = with_bit l code (plain_bit t (h (suc l)) (h 0 - h (suc l)))

-- the code that the lowest bits of a run give, h l being its cell l: none where a bit is not plain
unfoldable pub decoded : (t : ℕ) (h : ℕ → ℕ) (bits : ℕ) → Option ℕ
decoded t h zero = Some 0
decoded t h (suc l) = next_bit t h l (decoded t h l)

-- a list with one more code, unless it has that already
abbrev pub with_code : List ℕ → Option ℕ → List ℕ
with_code list None = list
with_code list (Some code) = cond (among list code) list (list ++ code ∷ [])

module _ {K : Type 0} (P : Plan K) where
  -- whether a code has a key
  abbrev pub has_key : ℕ → Bool
  has_key code = is_some (P.kind.key code)

  -- whether the count of a code's group is above t in every row
  abbrev pub above_in_every_row : List ℕ → ℕ → ℕ → Bool
  above_in_every_row cells t code = all_below P.groups.rows (λ row. ltb t (count_in_row P cells code row))

  -- a code read from a group is kept if a key has it, that is its group in this row, and it is above t in every row
  abbrev pub kept : List ℕ → (t row group code : ℕ) → Bool
  kept cells t row group code = has_key code && (group_of P row code == group && above_in_every_row cells t code)

  abbrev pub sifted : List ℕ → (t row group : ℕ) → Option ℕ → Option ℕ
  sifted cells t row group None = None
  sifted cells t row group (Some code) = cond (kept cells t row group code) (Some code) None

  -- what a group yields; one whose count is at most t yields nothing
  unfoldable pub found : List ℕ → (t row group : ℕ) → Option ℕ
  found cells t row group =
      cond (nat_lt t (cell P cells row group 0)) (sifted cells t row group (decoded t (cell P cells row group) P.kind.bits)) None

  -- the list after all groups of a row, from the list before
  unfoldable pub row_list : List ℕ → ℕ → List ℕ → ℕ → List ℕ
  row_list cells t before row = steps_below P.groups.width (λ list group. with_code list (found cells t row group)) before

  unfoldable pub hot_list : List ℕ → ℕ → List ℕ
  hot_list cells t = steps_below P.groups.rows (λ list row. row_list cells t list row) []

  -- of a report of level k with a list of so many places
  abbrev pub report_refusal : Board → (k places : ℕ) → Option Refusal
  report_refusal b k places =
      board_refusal P b
      (check (fit_level k) LevelOutOfRange
      (check (nat_le (room P.groups k) places) ListTooShort
      (fault P b)))

  -- the codes that it lists, or a refusal
  abbrev pub report_outcome : Board → (k places : ℕ) → Result (List ℕ) Refusal
  report_outcome b k places = unless (report_refusal b k places) (hot_list b.cells (threshold b.total k))

-- a report answers how many it lists
abbrev pub listed_count : Result (List ℕ) Refusal → Result ℕ Refusal
listed_count (Ok codes) = Ok (length codes)
listed_count (Err refusal) = Err refusal

-- what the lent list holds then: the codes, and in its further places what it held
abbrev pub list_left : Result (List ℕ) Refusal → List ℕ → List ℕ
list_left (Ok codes) before = codes ++ drop (length codes) before
list_left (Err refusal) before = before
