-- A kind of key.
use Rattle.std.specs.Prelude.{◌≡◌, ℕ, ◌^◌, ◌<◌, ◌≤◌, Some, Option}

-- What a kind means: how many bits its codes have, the number that all codes are below, the code of each key, and the
-- key of each code that has one.
pub record Kind (K : Type 0) : Type 0 where
  pub bits : ℕ
  pub codes : ℕ
  pub code : K → ℕ
  pub key : ℕ → Option K

pub record KindLaws {K : Type 0} (kind : Kind K) : Type 0 where
  pub bits_at_most_30 : kind.bits ≤ 30
  pub codes_fit_the_bits : kind.codes ≤ 2 ^ kind.bits
  pub code_below_codes : (k : K) → kind.code k < kind.codes
  pub code_gives_its_key : (k : K) → kind.key (kind.code k) ≡ Some k
  pub key_has_its_code : (c : ℕ) (k : K) → kind.key c ≡ Some k → kind.code k ≡ c
