use Rattle.std.proofs.Common.{◌+◌, ◌*◌, get_or, rules, tests}
use Rattle.planning.specs.Arguments.{drawn_from}
use Rattle.planning.proofs.Numbers.{made_from_calls}
use Rattle.planning.proofs.arguments.drawn_of.Goals as goal

pub returns : goal.returns
unfolding drawn_from
returns c =
    let numbers = c.args.numbers.now in
    made_from_calls (λ row. record { a = get_or numbers (2 * row + 2) 0; b = get_or numbers (2 * row + 3) 0 }) c.from_fn.result 16 c.from_fn.ensures.items (λ i y q k called. search (rules, tests))
