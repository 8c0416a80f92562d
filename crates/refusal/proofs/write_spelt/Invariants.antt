use Rattle.std.proofs.Common.{take}
use Rattle.std.specs.Fmt.{IsPlainFormatter, HasWritten}
use Rattle.refusal.specs.Reason.{spaced}
use Rattle.refusal.proofs.write_spelt.Given as goal

-- after the number, the values so far have been written
abbrev pub invariant-loop-value : goal.invariant-loop-value
invariant-loop-value g l = IsPlainFormatter l.initial.f → HasWritten g.W.Write.write_str_gives l.initial.f (spaced (take l.value-index l.values)) l.f
