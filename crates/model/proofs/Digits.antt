-- The digits of a code as the coefficients of a polynomial, and how many there are.
use Rattle.std.proofs.Common.{◌≡◌, ℕ, zero, suc, ◌+◌, ◌*◌, ◌/◌, ◌%◌, ◌^◌, ◌<◌, ◌≤◌, leb, List, [], ◌∷◌, length, sym, refl, ap, ◌∙◌, ap₂, inl, inr, le_trans, lt_of_le_of_lt, lt_irrefl, mod-lt, div-lt_iff_lt-mul, eq-or-lt_of_le, one-mul, pow-suc, mul-one, div-one, add-one, arith, leb→le}
use native.Mathlib.Nat.{pow-succ', pow-zero, div-div-eq-div-mul, div-add-mod, pow-le-pow_left, pow-le-pow_right}
use lib.Dec.{nleb→lt}
use Rattle.model.specs.Counting.{sum_below}
use Rattle.model.specs.Polynomial.{digit, digit_count, LeastDigits}
use Rattle.model.proofs.Counting.{lt_or_le, sum_first, sum_times, least_passes, least_from_start, fails_below_least}
use Rattle.model.proofs.Remainders.{congruent_small}
use Rattle.model.proofs.Coefficients.{value, Same}

-- the n lowest digits of a code, the lowest first
abbrev pub lowest : ℕ → ℕ → ℕ → List ℕ
lowest w zero c = []
lowest w (suc n) c = c % w ∷ lowest w n (c / w)

pub length_lowest : (w n c : ℕ) → length (lowest w n c) ≡ n
length_lowest w zero c = refl
length_lowest w (suc n) c = ap suc (length_lowest w n (c / w))

digit_suc : (w c j : ℕ) → digit w c (suc j) ≡ digit w (c / w) j
digit_suc w c j = ap (λ v. v % w) (ap (λ v. c / v) (pow-succ' w j) ∙ sym (div-div-eq-div-mul c w (w ^ j)))

digit_zero : (w c : ℕ) → digit w c 0 ≡ c % w
digit_zero w c = ap (λ v. v % w) (ap (λ v. c / v) (pow-zero w) ∙ div-one c)

-- the sum of the digits times the powers of the row is the polynomial's value there
pub sum_is_value : (w n c row : ℕ) → sum_below n (λ j. digit w c j * row ^ j) ≡ value (lowest w n c) row
sum_is_value w zero c row = refl
sum_is_value w (suc n) c row =
    let ih : sum_below n (λ j. digit w (c / w) j * row ^ j) ≡ value (lowest w n (c / w)) row = sum_is_value w n (c / w) row in
    let tail : sum_below n (λ j. digit w c (suc j) * row ^ suc j) ≡ row * sum_below n (λ j. digit w (c / w) j * row ^ j) =
    sum_times n row (λ j. digit w c (suc j) * row ^ suc j) (λ j. digit w (c / w) j * row ^ j)
    (λ j. ap₂ (λ x y. x * y) (digit_suc w c j) (pow-succ' row j) ∙ omega arith) in
    let head : digit w c 0 * row ^ 0 ≡ c % w = ap₂ (λ x y. x * y) (digit_zero w c) (pow-zero row) ∙ mul-one (c % w) in
    sum_first n (λ j. digit w c j * row ^ j) ∙ ap₂ (λ x y. x + y) head (tail ∙ ap (λ v. row * v) ih)

-- codes below w ^ n with the same digits are equal
pub same_digits_same_code : (w n c d : ℕ) → 0 < w → c < w ^ n → d < w ^ n → Same w (lowest w n c) (lowest w n d) → c ≡ d
same_digits_same_code w zero c d pos hc hd s = omega (arith, pow-zero w)
same_digits_same_code w (suc n) c d pos hc hd s =
    let high : c / w ≡ d / w =
    same_digits_same_code w n (c / w) (d / w) pos ((div-lt_iff_lt-mul pos).1 (rw pow-suc at hc)) ((div-lt_iff_lt-mul pos).1 (rw pow-suc at hd)) s.1 in
    let low : c % w ≡ d % w = congruent_small w (c % w) (d % w) (mod-lt c pos) (mod-lt d pos) s.0 in
    sym (div-add-mod c w) ∙ ap₂ (λ x y. w * x + y) high low ∙ div-add-mod d w

-- the digit count is the least number that reaches the span
pub digits_reach : (w span : ℕ) → 2 ≤ w → span ≤ 2 ^ 30 → span ≤ w ^ digit_count w span
unfolding digit_count
digits_reach w span hw h =
    least_passes (λ d. leb span (w ^ d)) (λ d. span ≤ w ^ d) (λ d. leb→le span (w ^ d)) 30 1
    (le_trans (le_trans h (pow-le-pow_left hw 30)) (pow-le-pow_right {n = w} (omega arith) {i = 30} {j = 31} (omega arith)))

pub digits_at_least_1 : (w span : ℕ) → 1 ≤ digit_count w span
unfolding digit_count
digits_at_least_1 w span = least_from_start (λ d. leb span (w ^ d)) 30 1

fewer_fall_short : (w span d : ℕ) → 1 ≤ d → d < digit_count w span → w ^ d < span
unfolding digit_count
fewer_fall_short w span d low h = fails_below_least (λ d. leb span (w ^ d)) (λ d. w ^ d < span) (λ d. nleb→lt span (w ^ d)) 30 1 d low h

pub digit_count_is_least : (w span : ℕ) → 2 ≤ w → span ≤ 2 ^ 30 → LeastDigits w span (digit_count w span)
digit_count_is_least w span hw hs =
    record {
      at_least_1 = digits_at_least_1 w span;
      reaches_the_span = digits_reach w span hw hs;
      none_less = λ d pos reaches. elim (lt_or_le d (digit_count w span)) [
        | inl l ↦ absurd (lt_irrefl span (lt_of_le_of_lt reaches (fewer_fall_short w span d pos l)))
        | inr g ↦ g
      ];
    }

-- a number of digits that reaches the span where no lower one does is the digit count
pub digit_count_unique : (w span d : ℕ) → 2 ≤ w → span ≤ 2 ^ 30 → 1 ≤ d → span ≤ w ^ d → ((k : ℕ) → 1 ≤ k → k < d → w ^ k < span) → d ≡ digit_count w span
digit_count_unique w span d hw hs pos reaches lower =
    elim (eq-or-lt_of_le ((digit_count_is_least w span hw hs).none_less d pos reaches)) [
      | inl e ↦ sym e
      | inr l ↦ absurd (lt_irrefl span (lt_of_le_of_lt (digits_reach w span hw hs) (lower (digit_count w span) (digits_at_least_1 w span) l)))
    ]

pub power_1 : (w : ℕ) → w ≡ w ^ 1
power_1 w = sym (pow-suc w 0 ∙ ap (λ v. v * w) (pow-zero w) ∙ one-mul w)

pub power_more : (w d p : ℕ) → p ≡ w ^ d → p * w ≡ w ^ (d + 1)
power_more w d p e = rw add-one (ap (λ v. v * w) e ∙ sym (pow-suc w d))
