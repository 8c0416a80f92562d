use Rattle.std.proofs.Common.{map}
use Rattle.std.specs.Fmt.{IsPlainFormatter, HasWritten}
use Rattle.std.specs.List.{range_with_len}
use Rattle.refusal.specs.Reason.{spaced}
use Rattle.listing.proofs.sentences.KeySentenceDisplay.fmt.Given as goal

-- after the code, the groups of the rows so far have been written
abbrev pub invariant-loop-row : goal.invariant-loop-row
invariant-loop-row g l =
    IsPlainFormatter l.initial.f
    → HasWritten g.W.Write.write_str_gives l.initial.f (spaced (map (λ row. (g.G.Grouping.groups l.self.grouping.now).group row l.self.code) (range_with_len 0 l.row))) l.f
