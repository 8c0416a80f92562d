use Rattle.std.proofs.Common.{rules}
use Rattle.std.proofs.Output.{has_written_append}
use Rattle.listing.specs.Description.{all_shared}
use Rattle.listing.proofs.Adding.{all_shared_more}
use Rattle.listing.proofs.sentences.AllSharedDisplay.fmt.Goals as goal

pub loop-codes-preserved : goal.loop-codes-preserved
loop-codes-preserved g c = λ plain.
    let groups = g.G.Grouping.groups c.args.self.now.grouping.now in
    let spread = g.G.Grouping.spread c.args.self.now.grouping.now in
    let before = c.loop-codes.invariant plain in (
      _,
      has_written_append _ _ _ _ _ _ before.1 (search rules),
      all_shared_more groups spread before.0 c.loop-codes.codes.now (all_shared groups spread c.args.self.now.codes.now) c.in-len1-up.len_at_least before.2,
    )
