-- The digits that a span asks for, as those of its last code.
use Rattle.std.proofs.Common.{◌≡◌, ℕ, ◌+◌, ◌-◌, ◌*◌, ◌^◌, ◌<◌, ◌≤◌, max, refl, arith}
use native.Mathlib.Nat.{pow-le-pow_right, mul_comm}
use Rattle.model.specs.Polynomial.{digit_count}
use Rattle.model.proofs.Digits.{power_1, power_more, digit_count_unique}

-- r is one less than the digits of the last code below the span; a span of 1 or 2 asks for one digit
pub digits_of_the_last_code : (w span last r : ℕ) → 2 ≤ w → span ≤ 2 ^ 30 → last ≡ max (span - 1) 1 → w ^ r ≤ last → last < w * w ^ r → r + 1 ≡ digit_count w span
digits_of_the_last_code w span last r wide small e low high =
    let next : w ^ r * w ≡ w ^ (r + 1) = power_more w r (w ^ r) refl in
    digit_count_unique w span (r + 1) wide small (omega arith) (omega (arith, next, mul_comm w (w ^ r)))
    (λ k some less.
    let one : w ^ 1 ≤ w ^ r = pow-le-pow_right {n = w} (omega arith) {i = 1} {j = r} (omega arith) in
    let here : w ^ k ≤ w ^ r = pow-le-pow_right {n = w} (omega arith) {i = k} {j = r} (omega arith) in
    omega (arith, one, here, power_1 w))
