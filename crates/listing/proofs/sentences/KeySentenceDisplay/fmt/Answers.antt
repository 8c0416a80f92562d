use Rattle.std.proofs.Common.{rules, sym}
use Rattle.std.proofs.Output.{has_written_append, has_written_of_eq}
use Rattle.listing.proofs.Adding.{groups_more}
use Rattle.listing.proofs.sentences.KeySentenceDisplay.fmt.Goals as goal

pub loop-row-preserved : goal.loop-row-preserved
loop-row-preserved g c = λ plain.
    has_written_of_eq _ _ _ _ _ (sym (groups_more (λ row. (g.G.Grouping.groups c.args.self.now.grouping.now).group row c.args.self.now.code) c.loop-row.row))
    (has_written_append _ _ _ _ _ _ (c.loop-row.invariant plain) (search rules))
