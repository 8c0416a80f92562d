use Rattle.std.proofs.Common.{◌<◌}
use Rattle.model.proofs.PolynomialTurn.{Summed}
use Rattle.groupings.proofs.polynomial.grouping.PolynomialGrouping.group.Given as goal

abbrev pub invariant-loop-place : goal.invariant-loop-place
invariant-loop-place l = Summed l.self.width l.row l.code l._place l.sum l.power l.rest × (l.sum < l.self.width) × (l.power < l.self.width)
