use Rattle.std.proofs.Common.{sym}
use Rattle.keys.specs.StationLaws.{station_of_number}
use Rattle.keys.proofs.station.key.StationKey.from_code.Goals as goal

pub returns : goal.returns
returns c = sym (station_of_number _)
