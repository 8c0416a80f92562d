-- Worked numbers of keys and groupings, each through the call that makes what it speaks of.
use Rattle.std.specs.Prelude.{◌≡◌, ℕ, [], ◌∷◌, replicate, Ok, Err, Result}
use Rattle.refusal.specs.declared.Refusal.{Refusal}
use Rattle.refusal.specs.Reason.{reason}
use Rattle.model.specs.Grouping.{groups_of}
use Rattle.model.specs.Polynomial.{polynomial_spread}
use Rattle.keys.specs.Station.{new_station, station_kind}
use Rattle.keys.specs.Pair.{new_pair, pair_kind}
use Rattle.groupings.specs.declared.universal.Universal.{Universal}
use Rattle.groupings.specs.Universal.{new_universal, universal_groups}
use Rattle.groupings.specs.Polynomial.{new_polynomial, polynomial_groups}

-- what is made fulfils this
abbrev Made : {A : Type 0} → Result A Refusal → (A → Type 0) → Type 0
Made (Ok a) fulfils = fulfils a
Made (Err refusal) fulfils = ⊥

-- refused by this number
abbrev Refused : {A : Type 0} → ℕ → Result A Refusal → Type 0
Refused number (Ok a) = ⊥
Refused number (Err refusal) = (reason refusal).number ≡ number

-- a universal grouping whose rows all have the drawn numbers a and b
abbrev universal_with : (rows width a b : ℕ) → Result Universal Refusal
universal_with rows width a b = new_universal rows width (replicate 16 (record { a = a; b = b }))

pub record WorkedNumbers : Type 0 where
  pub the_last_station_is_a_key : Made (new_station 999999999) (λ s. station_kind.code s ≡ 999999999)
  pub the_number_after_it_is_refused : Refused 5 (new_station 1000000000)
  pub pair_17_204_has_code_17204 : Made (new_pair 17 204) (λ p. pair_kind.code p ≡ 17204)
  pub sixteen_rows_are_accepted :
      Made (new_polynomial 16 61 1000000) (λ p. (polynomial_groups p).rows ≡ 16) × Made (universal_with 16 7 5 3) (λ u. (universal_groups u).rows ≡ 16)
  pub seventeen_rows_are_refused : Refused 1 (new_polynomial 17 61 1000000) × Refused 1 (universal_with 17 7 5 3)
  pub universal_group_of_10 : Made (universal_with 1 7 5 3) (λ u. (universal_groups u).group 0 10 ≡ 4)
  pub universal_group_past_the_prime : Made (universal_with 1 7 2147483646 2) (λ u. (universal_groups u).group 0 1 ≡ 1)
  pub four_digits_below_a_million : Made (new_polynomial 6 61 1000000) (λ p. p.digits ≡ 4)
  pub six_rows_have_spread_3 : Made (new_polynomial 6 61 1000000) (λ p. polynomial_spread p.rows p.width p.span ≡ 3)
  pub three_digits_below_a_thousand_million : Made (new_polynomial 6 1021 1000000000) (λ p. p.digits ≡ 3)
  pub groups_of_17204 :
      Made (new_polynomial 6 61 1000000) (λ p. groups_of (polynomial_groups p) 17204 ≡ 2 ∷ 44 ∷ 33 ∷ 30 ∷ 35 ∷ 48 ∷ [])
  pub groups_of_400005 :
      Made (new_polynomial 6 61 1000000) (λ p. groups_of (polynomial_groups p) 400005 ≡ 28 ∷ 44 ∷ 36 ∷ 10 ∷ 33 ∷ 50 ∷ [])
