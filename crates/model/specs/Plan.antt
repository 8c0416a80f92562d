-- A plan, and the place of each cell of its boards.
use Rattle.std.specs.Prelude.{ℕ, zero, suc, ◌+◌, ◌*◌, ◌/◌, ◌%◌, ◌^◌, Bool, true, ◌&&◌, ◌==◌}
use Rattle.model.specs.Kind.{Kind, KindLaws}
use Rattle.model.specs.Grouping.{Groups, GroupsLaws}

-- a plan number, a kind of key, and rows of groups
pub record Plan (K : Type 0) : Type 0 where
  pub number : ℕ
  pub kind : Kind K
  pub groups : Groups

pub record PlanLaws {K : Type 0} (P : Plan K) : Type 0 where
  pub kind_lawful : KindLaws P.kind
  pub groups_lawful : GroupsLaws P.groups

abbrev pub plan_of : {K : Type 0} → ℕ → Kind K → Groups → Plan K
plan_of number kind groups = record { number = number; kind = kind; groups = groups }

-- in cell 0 of a run every code counts, in cell l + 1 those whose bit worth 2^l is 1
abbrev pub counts : ℕ → ℕ → Bool
counts code zero = true
counts code (suc l) = code / 2 ^ l % 2 == 1

module _ {K : Type 0} (P : Plan K) where
  -- the group of a code in a row
  abbrev pub group_of : ℕ → ℕ → ℕ
  group_of row code = P.groups.group row code

  -- how many cells the run of one group has: its count, and one for each bit
  abbrev pub run : ℕ
  run = P.kind.bits + 1

  -- whether a code counts in a cell of its group's run
  abbrev pub counts_in : ℕ → ℕ → Bool
  counts_in = counts

  -- how many cells a board has
  abbrev pub cell_count : ℕ
  cell_count = P.groups.rows * P.groups.width * run

  -- cells stand by row, then group, then cell
  abbrev pub place : ℕ → ℕ → ℕ → ℕ
  place row group cell = (row * P.groups.width + group) * run + cell

  abbrev pub row_of : ℕ → ℕ
  row_of p = p / run / P.groups.width

  abbrev pub group_at : ℕ → ℕ
  group_at p = p / run % P.groups.width

  abbrev pub cell_of : ℕ → ℕ
  cell_of p = p % run

-- whether a code counts in the cell at place p
unfoldable pub counts_at : {K : Type 0} → Plan K → ℕ → ℕ → Bool
counts_at P p code = group_of P (row_of P p) code == group_at P p && counts_in P code (cell_of P p)
