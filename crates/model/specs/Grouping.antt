-- A grouping: rows of groups, and the law that bounds how many rows two codes share.
use Rattle.std.specs.Prelude.{◌≡◌, ℕ, ◌^◌, ◌<◌, ◌≤◌, Bool, cond, ◌&&◌, ◌≢◌, ◌⊎◌, List, map, ◌==◌, nat_lt}
use Rattle.std.specs.List.{range_with_len}
use Rattle.model.specs.Counting.{count_below}

-- What a grouping means: how many rows, how many groups in a row, and the group for each row and code.
pub record Groups : Type 0 where
  pub rows : ℕ
  pub width : ℕ
  pub group : ℕ → ℕ → ℕ

pub record GroupsLaws (g : Groups) : Type 0 where
  pub at_least_1_row : 1 ≤ g.rows
  pub at_most_16_rows : g.rows ≤ 16
  pub at_least_1_group : 1 ≤ g.width
  pub at_most_4096_groups : g.width ≤ 4096
  pub group_below_width : (row code : ℕ) → g.group row code < g.width
  pub group_0_outside : (row code : ℕ) → (g.rows ≤ row) ⊎ (2 ^ 30 ≤ code) → g.group row code ≡ 0

-- whether a row is used and a code below 2^30
abbrev pub is_inside : (rows row code : ℕ) → Bool
is_inside rows row code = nat_lt row rows && nat_lt code (2 ^ 30)

-- a rule for groups, kept to what is inside: any other row or code has group 0
abbrev pub inside : ℕ → (ℕ → ℕ → ℕ) → ℕ → ℕ → ℕ
inside rows rule row code = cond (is_inside rows row code) (rule row code) 0

-- the groups of a code, row by row
abbrev pub groups_of : Groups → ℕ → List ℕ
groups_of g code = map (λ row. g.group row code) (range_with_len 0 g.rows)

-- whether two codes share their group in a row
abbrev pub shares : Groups → ℕ → ℕ → ℕ → Bool
shares g code other row = g.group row code == g.group row other

-- in how many rows two codes share a group
abbrev pub shared_rows : Groups → ℕ → ℕ → ℕ
shared_rows g code other = count_below g.rows (shares g code other)

-- the law of a span and a spread: two different codes below the span share a group in at most `spread` rows
pub record Spread (g : Groups) (span spread : ℕ) : Type 0 where
  pub spread_at_most_rows : spread ≤ g.rows
  pub codes_share_few_rows : (code other : ℕ) → code < span → other < span → code ≢ other → shared_rows g code other ≤ spread

-- what the law shuts out: where each row has all codes below the span in one group, the spread can only be the number
-- of rows
abbrev pub OneGroupNeedsEveryRow : Groups → ℕ → ℕ → Type 0
OneGroupNeedsEveryRow g span spread =
    2 ≤ span → ((row code : ℕ) → row < g.rows → code < span → g.group row code ≡ g.group row 0) → spread ≡ g.rows
