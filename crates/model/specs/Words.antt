-- Sums modulo 2^64, and a number of 64 bits read as signed.
use Rattle.std.specs.Prelude.{ℕ, ◌+◌, ◌-◌, ◌%◌, ◌^◌, ℤ}
use Rattle.std.specs.Int.{w64}
use Rattle.std.proofs.Common.{to_z}

abbrev pub add : ℕ → ℕ → ℕ
add a b = (a + b) % 2 ^ 64

abbrev pub take_off : ℕ → ℕ → ℕ
take_off a b = (a + (2 ^ 64 - b)) % 2 ^ 64

-- 2^63 and more stand for the negative numbers from -2^63 up
abbrev pub signed : ℕ → ℤ
signed n = to_z w64 n
