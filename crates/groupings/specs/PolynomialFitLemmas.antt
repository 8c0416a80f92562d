-- What the parameters of a polynomial grouping fulfil, and that it is the one that they make.
use Rattle.std.specs.Prelude.{◌≡◌, ℕ, ◌^◌, ◌≤◌, true, ◌&&◌, Some, None, Ok, Option, nat_le, refl}
use Rattle.std.proofs.Common.{sym, ap, subst, arith}
use Rattle.std.proofs.Math.Bool.{Bool-set}
use mathlib.Core.HLevel.{is_prop→PathP}
use Rattle.std.proofs.Math.Nat.{ℕ_set}
use borrow.Author.Tests.{clash}
use Rattle.model.specs.Polynomial.{allowed_width, digit_count, LeastDigits}
use Rattle.model.proofs.Inverses.{width_at_least_31}
use Rattle.model.proofs.Digits.{digit_count_is_least}
use Rattle.refusal.specs.Checks.{accepted}
use Rattle.refusal.specs.declared.Refusal.{Refusal}
use Rattle.refusal.specs.declared.Refusal.TheVariants.{RowsOutOfRange, WidthNotAllowed, SpanOutOfRange}
use Rattle.refusal.proofs.Checks.{check_passed}
use Rattle.groupings.specs.PolynomialFit.{polynomial_fit, polynomial_refusal}
use Rattle.groupings.specs.Polynomial.{polynomial_unless, new_polynomial}
use Rattle.groupings.specs.declared.polynomial.Polynomial.{Polynomial}
use Rattle.groupings.specs.Ranges.{range_from_tests}

pub record Fit (rows width span : ℕ) : Type 0 where
  pub some_rows : 1 ≤ rows
  pub few_rows : rows ≤ 16
  pub a_width : allowed_width width ≡ true
  pub some_span : 1 ≤ span
  pub small_span : span ≤ 2 ^ 30

pub fit_parts : (rows width span : ℕ) → polynomial_fit rows width span ≡ true → Fit rows width span
fit_parts rows width span h =
    let r = check_passed (nat_le 1 rows && nat_le rows 16) RowsOutOfRange _ h in
    let w = check_passed (allowed_width width) WidthNotAllowed _ r.1 in
    let s = check_passed (nat_le 1 span && nat_le span (2 ^ 30)) SpanOutOfRange _ w.1 in
    let rs = range_from_tests 1 16 rows r.0 in
    let ss = range_from_tests 1 (2 ^ 30) span s.0 in
    record { some_rows = rs.0; few_rows = rs.1; a_width = w.0; some_span = ss.0; small_span = ss.1 }

made : (p : Polynomial) (refused : Option Refusal) (e : polynomial_refusal p.rows p.width p.span ≡ refused) → accepted refused ≡ true → polynomial_unless p.rows p.width p.span refused e ≡ Ok p
made p None e h =
    λ i. Ok (record {
      rows = p.rows;
      width = p.width;
      span = p.span;
      digits = sym p.counted i;
      fit = Bool-set (polynomial_fit p.rows p.width p.span) true (ap accepted e) p.fit i;
      counted = is_prop→PathP (λ j. sym p.counted j ≡ digit_count p.width p.span) (λ j. ℕ_set (sym p.counted j) (digit_count p.width p.span)) refl p.counted i;
    })
made p (Some refusal) e h = absurd (clash h)

-- a polynomial grouping is the one that its parameters make
pub new_polynomial_is : (p : Polynomial) → new_polynomial p.rows p.width p.span ≡ Ok p
new_polynomial_is p = made p (polynomial_refusal p.rows p.width p.span) refl p.fit

pub least_digits : (width span digits : ℕ) → allowed_width width ≡ true → span ≤ 2 ^ 30 → digits ≡ digit_count width span → LeastDigits width span digits
least_digits width span digits allowed small counted =
    let wide = width_at_least_31 width allowed in
    subst (LeastDigits width span) (sym counted) (digit_count_is_least width span (omega arith) small)
