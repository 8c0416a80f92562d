use Rattle.std.proofs.Common.{◌^◌, ◌≤◌, sym, rules}
use Rattle.groupings.specs.PolynomialFitLemmas.{new_polynomial_is, least_digits}
use Rattle.groupings.proofs.polynomial.Polynomial.new.Goals as goal

pub returns : goal.returns
returns c =
    let small : c.args.span ≤ 2 ^ 30 = search rules in
    record {
      made = sym (new_polynomial_is _);
      digits_are_least = least_digits c.args.width c.args.span _ (sym c.if-not-is_width.ensures) small c.digit_count-digits.ensures;
    }
