-- Polynomial groupings: how one is made, and what it means.
use Rattle.std.specs.Prelude.{◌≡◌, ℕ, Some, None, Ok, Err, Option, Result, refl}
use Rattle.std.proofs.Common.{ap}
use Rattle.model.specs.Grouping.{Groups}
use Rattle.model.specs.Polynomial.{polynomial, digit_count, LeastDigits}
use Rattle.refusal.specs.Checks.{accepted}
use Rattle.refusal.specs.declared.Refusal.{Refusal}
use Rattle.groupings.specs.declared.polynomial.Polynomial.{Polynomial}
use Rattle.groupings.specs.PolynomialFit.{polynomial_refusal}

abbrev pub polynomial_unless : (rows width span : ℕ) (refused : Option Refusal) → polynomial_refusal rows width span ≡ refused → Result Polynomial Refusal
polynomial_unless rows width span None e =
    Ok (record { rows = rows; width = width; span = span; digits = digit_count width span; fit = ap accepted e; counted = refl })
polynomial_unless rows width span (Some refusal) e = Err refusal

-- the grouping with these parameters, or the first refusal that applies
abbrev pub new_polynomial : ℕ → ℕ → ℕ → Result Polynomial Refusal
new_polynomial rows width span = polynomial_unless rows width span (polynomial_refusal rows width span) refl

abbrev pub polynomial_groups : Polynomial → Groups
polynomial_groups p = polynomial p.rows p.width p.span

-- a grouping that is made has the least number of digits that reaches its span
abbrev pub DigitsAreLeast : Result Polynomial Refusal → Type 0
DigitsAreLeast (Ok p) = LeastDigits p.width p.span p.digits
DigitsAreLeast (Err refusal) = Unit {0}
