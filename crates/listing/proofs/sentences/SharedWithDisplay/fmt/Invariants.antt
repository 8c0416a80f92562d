use Rattle.std.proofs.Common.{take}
use Rattle.std.specs.Fmt.{IsPlainFormatter, HasWritten}
use Rattle.listing.specs.Description.{shared_with}
use Rattle.listing.proofs.sentences.SharedWithDisplay.fmt.Given as goal

-- the sentences of the others so far have been written
abbrev pub invariant-loop-other : goal.invariant-loop-other
invariant-loop-other g l =
    IsPlainFormatter l.initial.f
    → HasWritten g.W.Write.write_str_gives l.initial.f (shared_with (g.G.Grouping.groups l.self.grouping.now) (g.G.Grouping.spread l.self.grouping.now) l.self.code (take l.other-index l.other-items)) l.f
