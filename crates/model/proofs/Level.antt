-- What is known of a fit level: its threshold against the exact fraction, its rows, its room.
use Rattle.std.proofs.Common.{◌≡◌, ℕ, ◌+◌, ◌*◌, ◌/◌, ◌<◌, ◌≤◌, true, ℤ, pos, negsuc, ◌*ℤ◌, ◌≤ℤ◌, ◌<ℤ◌, sym, ap, ◌∙◌, ⊎_elim, mul_assoc, mul_comm, add-mul, arith}
use native.Mathlib.Nat.{mod-add-div'}
use Rattle.std.proofs.lemmas.Int.{ints}
use Rattle.std.proofs.lemmas.Bool.{cases_lt}
use Rattle.std.proofs.lemmas.Nat.{mul-le, mod_below, le-div, div_below}
use Rattle.model.specs.Level.{fit_level, threshold, Above, AtMost, RowsEnough, most_in_row}

-- n is below (t + 1) times the divisor, and at least t times it
above_quotient : (n d : ℕ) → 0 < d → n < (n / d + 1) * d
above_quotient n d h = omega (arith, mod-add-div' n d, mod_below n d h, add-mul (n / d) 1 d)

under_quotient : (n d : ℕ) → n / d * d ≤ n
under_quotient n d = omega (arith, mod-add-div' n d)

-- a whole number z against a / d and against its whole part
over_floor : (a d : ℕ) (z : ℤ) → 0 < d → pos a <ℤ (z *ℤ pos d) → pos (a / d) <ℤ z
over_floor a d (pos z) h l =
    let m : a < z * d = omega (arith, ints) in
    let q : a / d < z = div_below a d z h m in
    omega (arith, ints)
over_floor a d (negsuc z) h l = absurd (omega (arith, ints))

under_floor : (a d : ℕ) (z : ℤ) → 0 < d → (z *ℤ pos d) ≤ℤ pos a → z ≤ℤ pos (a / d)
under_floor a d (pos z) h l =
    let m : z * d ≤ a = omega (arith, ints) in
    let q : z ≤ a / d = le-div z a d h m in
    omega (arith, ints)
under_floor a d (negsuc z) h l = omega (arith, ints)

pub above_means : (n k : ℕ) (z : ℤ) → fit_level k ≡ true → Above n k z → pos (threshold n k) <ℤ z
above_means n k z f h = over_floor n (k + 1) z (omega arith) h

pub at_most_means : (n k : ℕ) (z : ℤ) → fit_level k ≡ true → AtMost n k z → z ≤ℤ pos (threshold n k)
at_most_means n k z f h = under_floor n (k + 1) z (omega arith) h

-- T rows with more than t company each do not fit
pub no_room : (T s k n m v : ℕ) → fit_level k ≡ true → 1 ≤ T → RowsEnough T s k → threshold n k < v → m + v ≡ n → T * (threshold n k + 1) ≤ m * s → ⊥
no_room T s k n m v fits one rows hot split full =
    let t : ℕ = threshold n k in
    let few : n < (t + 1) * (k + 1) = above_quotient n (k + 1) (omega arith) in
    let u : ℕ = t + 1 in
    let a : m + 1 ≤ u * k = omega (arith, mul_comm (t + 1) (k + 1), add-mul k 1 (t + 1), mul_comm k (t + 1)) in
    let b : (m + 1) * s ≤ u * k * s = mul-le (m + 1) s (u * k) s a (omega arith) in
    let c : s * k * u ≤ T * u = mul-le (s * k) u T u rows (omega arith) in
    let d : u * k * s ≡ s * k * u = mul_comm (u * k) s ∙ ap (λ y. s * y) (mul_comm u k) ∙ sym (mul_assoc s k u) in
    let e : (m + 1) * s ≡ m * s + 1 * s = add-mul m 1 s in
    let z : s ≡ 0 = omega arith in
    let f : m * s ≡ 0 = ap (λ y. m * y) z ∙ omega arith in
    let g : 1 * u ≤ T * u = mul-le 1 u T u one (omega arith) in
    omega arith

-- c groups with more than t each, of n in all, are few
pub few_groups : (n k c : ℕ) → fit_level k ≡ true → c * (threshold n k + 1) ≤ n → c ≤ most_in_row k
few_groups n k c f h =
    let u : ℕ = threshold n k + 1 in
    ⊎_elim
    (λ (l : k < c).
    let m : (k + 1) * u ≤ c * u = mul-le (k + 1) u c u (omega arith) (omega arith) in
    absurd (omega (arith, above_quotient n (k + 1) (omega arith), mul_comm (k + 1) u)))
    (λ (l : c ≤ k). l)
    (cases_lt k c)
