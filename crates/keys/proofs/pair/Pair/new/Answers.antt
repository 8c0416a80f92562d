use Rattle.std.proofs.Common.{sym, ap}
use Rattle.std.specs.Option.{ok_or}
use Rattle.refusal.specs.declared.Refusal.TheVariants.{KeyOutOfRange}
use Rattle.keys.specs.PairLaws.{pair_of_regions}
use Rattle.keys.proofs.pair.Pair.new.Goals as goal

pub returns : goal.returns
returns c = sym (ap (λ o. ok_or o KeyOutOfRange) (pair_of_regions _))
