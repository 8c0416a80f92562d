-- Keys typed on lines.
use Rattle.std.specs.Prelude.{ℕ, ◌+◌, List, take, drop, Some, None, Err, Option, Result}
use Rattle.std.specs.Option.{option_zip}
use Rattle.refusal.specs.declared.Refusal.{Refusal}
use Rattle.refusal.specs.declared.Refusal.TheVariants.{WrongLineForm}
use Rattle.keys.specs.declared.station.Station.{Station}
use Rattle.keys.specs.declared.pair.Pair.{Pair}
use Rattle.keys.specs.Station.{new_station}
use Rattle.keys.specs.Pair.{new_pair}
use Rattle.listing.specs.Text.{place, decimal_number}

-- a key, or why a line has none
abbrev pub TypedKey : Type 0 → Type 0
TypedKey K = Result K Refusal

abbrev pub station_from : ℕ → Option ℕ → Result Station Refusal
station_from line (Some number) = new_station number
station_from line None = Err (WrongLineForm line)

-- a station's number
abbrev pub station_line : ℕ → List ℕ → Result Station Refusal
station_line line text = station_from line (decimal_number text)

-- the numbers before and after the first space, if both are there
abbrev pub two_numbers : List ℕ → Option (ℕ × ℕ)
two_numbers text = option_zip (decimal_number (take (place 32 text) text)) (decimal_number (drop (place 32 text + 1) text))

abbrev pub pair_from : ℕ → Option (ℕ × ℕ) → Result Pair Refusal
pair_from line (Some (source, destination)) = new_pair source destination
pair_from line None = Err (WrongLineForm line)

-- source and destination, parted by the first space
abbrev pub pair_line : ℕ → List ℕ → Result Pair Refusal
pair_line line text = pair_from line (two_numbers text)
