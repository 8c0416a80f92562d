use Rattle.std.proofs.Common.{sym}
use Rattle.groupings.proofs.UniversalFit.{new_universal_is}
use Rattle.groupings.proofs.universal.Universal.new.Goals as goal

pub returns : goal.returns
returns c = sym (new_universal_is _)
