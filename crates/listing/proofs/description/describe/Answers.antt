use Rattle.std.proofs.Common.{string_bytes, arith}
use Rattle.std.proofs.lemmas.Grind.{common_steps}
use Rattle.listing.proofs.Adding.{described}
use Rattle.listing.proofs.description.describe.Goals as goal

pub returns-clause-described : goal.returns-clause-described
returns-clause-described g c =
    let kind = g.K.Key.kind in
    let typed = g.K.Typed.typed in
    let groups = g.G.Grouping.groups c.args.grouping.now in
    let spread = g.G.Grouping.spread c.args.grouping.now in
    grind (
      arith,
      common_steps,
      described kind typed groups spread c.args.input.now (string_bytes c.write_lines.new.out) (string_bytes c.write.new.self) (string_bytes c.write-2.new.self) c.len-keys.result c.in_ok-count.count,
    )
