-- How many rows a grouping may have.
use Rattle.std.specs.Prelude.{ℕ, Bool, ◌&&◌, nat_le}

abbrev pub rows_fit : ℕ → Bool
rows_fit rows = nat_le 1 rows && nat_le rows 16
