-- Levels: which are fit, what is above one, and how long a list they ask for.
use Rattle.std.specs.Prelude.{ℕ, ◌+◌, ◌*◌, ◌/◌, ◌≤◌, min, Bool, ◌&&◌, ℤ, pos, ◌*ℤ◌, ◌≤ℤ◌, ◌<ℤ◌, nat_le}
use Rattle.model.specs.Grouping.{Groups}

-- 1 to 4,095
abbrev pub fit_level : ℕ → Bool
fit_level k = nat_le 1 k && nat_le k 4095

-- n/(k+1) with its fraction dropped
abbrev pub threshold : ℕ → ℕ → ℕ
threshold n k = n / (k + 1)

-- z is above n/(k+1), fraction and all: z × (k+1) > n
abbrev pub Above : ℕ → ℕ → ℤ → Type 0
Above n k z = pos n <ℤ (z *ℤ pos (k + 1))

-- z is at most n/(k+1): z × (k+1) ≤ n
abbrev pub AtMost : ℕ → ℕ → ℤ → Type 0
AtMost n k z = (z *ℤ pos (k + 1)) ≤ℤ pos n

-- so many rows that every key above n/(k+1) has a row with little company
abbrev pub RowsEnough : (rows spread k : ℕ) → Type 0
RowsEnough rows spread k = spread * k ≤ rows

-- the most groups of one row that can hold more than n/(k+1)
abbrev pub most_in_row : ℕ → ℕ
most_in_row k = k

-- how long a list has to be
abbrev pub room : Groups → ℕ → ℕ
room groups k = groups.rows * min (most_in_row k) groups.width
