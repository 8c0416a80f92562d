-- One turn of the loop that sums up a code's digits times the powers of the row.
use Rattle.std.proofs.Common.{◌≡◌, ℕ, ◌+◌, ◌*◌, ◌/◌, ◌%◌, ◌^◌, ◌<◌, sym, ap, ◌∙◌, ap₂, mod-eq_of_lt, pow-suc, div-one, add-one, arith}
use native.Mathlib.Nat.{pow-zero, div-div-eq-div-mul, mod-add-div', zero-mod}
use Rattle.model.specs.Counting.{sum_below}
use Rattle.model.specs.Polynomial.{digit}
use Rattle.model.proofs.Remainders.{remainders_from_congruent}

-- after j digits: their sum, the next power of the row, and the rest of the code
abbrev pub Summed : (w row code j sum power rest : ℕ) → Type 0
Summed w row code j sum power rest =
    (sum ≡ sum_below j (λ i. digit w code i * row ^ i) % w) × (power ≡ row ^ j % w) × (rest ≡ code / w ^ j)

pub summed_none : (w row code : ℕ) → 1 < w → Summed w row code 0 0 1 code
summed_none w row code h =
    (sym (zero-mod w), sym (ap (λ v. v % w) (pow-zero row) ∙ mod-eq_of_lt h), sym (ap (λ v. code / v) (pow-zero w) ∙ div-one code))

sum_mod : (w s d p : ℕ) → (s % w + d * (p % w)) % w ≡ (s + d * p) % w
sum_mod w s d p =
    remainders_from_congruent w (s % w + d * (p % w)) (s + d * p)
    (s / w + d * (p / w), 0, omega (arith, mod-add-div' s w, ap (λ v. d * v) (mod-add-div' p w)))

mul_mod : (w p x : ℕ) → (p % w) * x % w ≡ p * x % w
mul_mod w p x = remainders_from_congruent w ((p % w) * x) (p * x) ((p / w) * x, 0, omega (arith, ap (λ v. v * x) (mod-add-div' p w)))

pub summed_more : (w row code j sum power rest : ℕ) → Summed w row code j sum power rest
    → Summed w row code (j + 1) ((sum + rest % w * power) % w) (power * row % w) (rest / w)
summed_more w row code j sum power rest (s, p, r) =
    rw (add-one j) (
      ap₂ (λ x y. (x + y) % w) s (ap₂ (λ x y. x % w * y) r p) ∙ sum_mod w (sum_below j (λ i. digit w code i * row ^ i)) (digit w code j) (row ^ j),
      ap (λ x. x * row % w) p ∙ mul_mod w (row ^ j) row ∙ ap (λ x. x % w) (sym (pow-suc row j)),
      ap (λ x. x / w) r ∙ div-div-eq-div-mul code (w ^ j) w ∙ ap (λ x. code / x) (sym (pow-suc w j)),
    )
