use Rattle.std.proofs.Common.{◌≡◌, ◌∙◌, arith}
use Rattle.model.specs.Grouping.{shared_rows}
use Rattle.model.proofs.Spread.{one_group_needs_every_row}
use Rattle.groupings.proofs.SharedRows.{count_of_rows}
use Rattle.groupings.proofs.shared_rows.Goals as goal

pub returns-clause-at_most_spread : goal.returns-clause-at_most_spread
returns-clause-at_most_spread g c hc ho ne =
    let grouping = c.args.grouping.now in
    let value : c.count_shared.result ≡ shared_rows (g.G.Grouping.groups grouping) c.args.code c.args.other = c.count_shared.ensures ∙ count_of_rows _ _ in
    omega (arith, value, (g.met.G.Grouping.apart grouping).codes_share_few_rows c.args.code c.args.other hc ho ne)

pub returns-clause-one_group_needs_every_row : goal.returns-clause-one_group_needs_every_row
returns-clause-one_group_needs_every_row g c =
    let grouping = c.args.grouping.now in
    one_group_needs_every_row (g.G.Grouping.groups grouping) (g.G.Grouping.span grouping) (g.G.Grouping.spread grouping) (g.met.G.Grouping.apart grouping)
