-- The polynomial grouping: a code's digits are the coefficients, and a row is the place where the polynomial is taken.
use Rattle.std.specs.Prelude.{ℕ, ◌-◌, ◌*◌, ◌/◌, ◌%◌, ◌^◌, ◌≤◌, min, Bool, List, [], ◌∷◌, nat_le}
use Rattle.model.specs.Counting.{among, sum_below, least_from}
use Rattle.model.specs.Grouping.{Groups, inside}

-- the widths that a polynomial grouping may have
abbrev pub widths : List ℕ
widths = 31 ∷ 61 ∷ 127 ∷ 251 ∷ 509 ∷ 1021 ∷ 2039 ∷ 4093 ∷ []

unfoldable pub allowed_width : ℕ → Bool
allowed_width width = among widths width

-- the digit at place j of a code in base `width`; the lowest has place 0
abbrev pub digit : ℕ → ℕ → ℕ → ℕ
digit width code j = code / width ^ j % width

-- how many digits are used: the least number of at least 1 whose power of the width reaches the span. A width of at
-- least 2 and a span of at most 2^30 need no more than 30.
unfoldable pub digit_count : ℕ → ℕ → ℕ
digit_count width span = least_from 30 1 (λ d. nat_le span (width ^ d))

-- (d0 + d1 × row + d2 × row^2 + ..) mod width, over the lowest digits of the code
abbrev pub polynomial_group : (width digits row code : ℕ) → ℕ
polynomial_group width digits row code = sum_below digits (λ j. digit width code j * row ^ j) % width

abbrev pub polynomial : (rows width span : ℕ) → Groups
polynomial rows width span = record { rows = rows; width = width; group = inside rows (polynomial_group width (digit_count width span)) }

-- one less than the digits, and no more than the rows
abbrev pub polynomial_spread : (rows width span : ℕ) → ℕ
polynomial_spread rows width span = min (digit_count width span - 1) rows

-- `digits` is the least number of at least 1 whose power of the width reaches the span
pub record LeastDigits (width span digits : ℕ) : Type 0 where
  pub at_least_1 : 1 ≤ digits
  pub reaches_the_span : span ≤ width ^ digits
  pub none_less : (d : ℕ) → 1 ≤ d → span ≤ width ^ d → digits ≤ d
