-- The universal grouping: each row has two drawn numbers.
use Rattle.std.specs.Prelude.{ℕ, ◌+◌, ◌*◌, ◌%◌, ◌^◌}
use Rattle.model.specs.Grouping.{Groups, inside}

-- 2^31 - 1, which the drawn numbers of every used row are below
abbrev pub prime : ℕ
prime = 2147483647

-- the group of a code in a row with drawn numbers a and b
abbrev pub universal_group : ℕ → ℕ → ℕ → ℕ → ℕ
universal_group width a b code = (a * code + b) % prime % width

-- the codes that the law speaks of are all codes that have groups
abbrev pub universal_span : ℕ
universal_span = 2 ^ 30

abbrev pub universal : (rows width : ℕ) (a b : ℕ → ℕ) → Groups
universal rows width a b = record { rows = rows; width = width; group = inside rows (λ row code. universal_group width (a row) (b row) code) }
