-- Stations: a number from 0 to 999,999,999, which is its code.
use Rattle.std.specs.Prelude.{◌≡◌, ℕ, Bool, true, false, Some, None, Option, Result, nat_lt, refl}
use Rattle.std.proofs.Common.{ltb-true}
use Rattle.std.specs.Option.{ok_or}
use Rattle.model.specs.Kind.{Kind}
use Rattle.refusal.specs.declared.Refusal.{Refusal}
use Rattle.refusal.specs.declared.Refusal.TheVariants.{KeyOutOfRange}
use Rattle.keys.specs.declared.station.Station.{Station}

abbrev pub station_if : (number : ℕ) (below : Bool) → nat_lt number 1000000000 ≡ below → Option Station
station_if number true h = Some (record { number = number; below = ltb-true number 1000000000 h })
station_if number false h = None

-- the station with this number, if it is one
abbrev pub station : ℕ → Option Station
station number = station_if number (nat_lt number 1000000000) refl

abbrev pub new_station : ℕ → Result Station Refusal
new_station number = ok_or (station number) KeyOutOfRange

abbrev pub station_kind : Kind Station
station_kind = record { bits = 30; codes = 1000000000; code = λ s. s.number; key = station }
