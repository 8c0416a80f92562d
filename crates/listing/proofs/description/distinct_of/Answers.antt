use Rattle.std.proofs.Common.{vec_items, ◌∙◌, arith}
use Rattle.std.proofs.lemmas.Grind.{common_steps}
use Rattle.listing.proofs.Distinct.{one_code_more}
use Rattle.listing.proofs.description.distinct_of.Goals.{then-not-contains+in_ok-push, else-not-contains}
use Rattle.listing.proofs.description.distinct_of.Goals as goal

pub loop-code-preserved : goal.loop-code-preserved
loop-code-preserved c =
    one_code_more (vec_items c.loop-code.once) (vec_items c.if-not-contains.once) c.args.codes.now c.loop-code.code-index c.loop-code-test.true
    (elim c.if-not-contains.branch [
      | then-not-contains+in_ok-push w ↦ grind (arith, common_steps)
      | else-not-contains w ↦ grind (arith, common_steps)
    ])
    ∙ c.loop-code.invariant
