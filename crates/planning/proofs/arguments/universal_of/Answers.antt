use Rattle.std.proofs.Common.{ℕ, ◌+◌, ◌*◌, length, get_or, sym, ap, ◌∙◌, arith, eq-eqb, length-drop}
use Rattle.groupings.specs.Universal.{new_universal}
use Rattle.planning.specs.Arguments.{chosen_by, universal_from}
use Rattle.planning.specs.declared.arguments.Chosen.TheVariants.{ByDraws}
use Rattle.planning.proofs.arguments.universal_of.Goals as goal

pub returns : goal.returns
unfolding universal_from
returns c =
    let numbers = c.args.numbers.now in
    rw (eq-eqb (length numbers) (2 * get_or numbers 0 0 + 2) (omega (arith, length-drop {A = ℕ})))
    (ap (chosen_by ByDraws) (sym c.in_ok-grouping.was ∙ c.new.ensures ∙ ap (new_universal (get_or numbers 0 0) (get_or numbers 1 0)) c.drawn_of.ensures))
