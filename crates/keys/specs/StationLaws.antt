-- The laws of the kind of stations.
use Rattle.std.specs.Prelude.{◌≡◌, ℕ, Bool, true, false, ltb, Some, nat_lt, refl}
use Rattle.std.proofs.Common.{ap, arith, ltb-true, ltb-false}
use Rattle.std.proofs.Math.Bridge.{le_prop}
use Rattle.model.specs.Kind.{KindLaws}
use Rattle.keys.specs.Station.{station_if, station, station_kind}
use Rattle.keys.specs.declared.station.Station.{Station}

given_back : (s : Station) (b : Bool) (h : ltb s.number 1000000000 ≡ b) → station_if s.number b h ≡ Some s
given_back s true h = ap Some (λ i. record { number = s.number; below = le_prop (ltb-true _ _ h) s.below i })
given_back s false h = absurd (omega (arith, ltb-false _ _ h))

-- a station is the one with its number
pub station_of_number : (s : Station) → station s.number ≡ Some s
station_of_number s = given_back s (nat_lt s.number 1000000000) refl

number_of_station : (n : ℕ) (b : Bool) (h : ltb n 1000000000 ≡ b) (s : Station) → station_if n b h ≡ Some s → s.number ≡ n
number_of_station n true h s e = cc
number_of_station n false h s e = absurd (let z : ◌≡◌ {A = ℕ} 0 1 = cc in omega arith)

pub station_laws : KindLaws station_kind
station_laws =
    record {
      bits_at_most_30 = omega arith;
      codes_fit_the_bits = omega arith;
      code_below_codes = λ s. s.below;
      code_gives_its_key = station_of_number;
      key_has_its_code = λ n s e. number_of_station n (nat_lt n 1000000000) refl s e;
    }
