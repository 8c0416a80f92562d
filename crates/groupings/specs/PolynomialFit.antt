-- Which parameters a polynomial grouping may have.
use Rattle.std.specs.Prelude.{ℕ, ◌^◌, Bool, ◌&&◌, None, Option, nat_le}
use Rattle.model.specs.Polynomial.{allowed_width}
use Rattle.refusal.specs.Checks.{check, accepted}
use Rattle.refusal.specs.declared.Refusal.{Refusal}
use Rattle.refusal.specs.declared.Refusal.TheVariants.{RowsOutOfRange, WidthNotAllowed, SpanOutOfRange}
use Rattle.groupings.specs.Rows.{rows_fit}

-- the first refusal that applies
abbrev pub polynomial_refusal : ℕ → ℕ → ℕ → Option Refusal
polynomial_refusal rows width span =
    check (rows_fit rows) RowsOutOfRange
    (check (allowed_width width) WidthNotAllowed
    (check (nat_le 1 span && nat_le span (2 ^ 30)) SpanOutOfRange
    None))

abbrev pub polynomial_fit : ℕ → ℕ → ℕ → Bool
polynomial_fit rows width span = accepted (polynomial_refusal rows width span)
