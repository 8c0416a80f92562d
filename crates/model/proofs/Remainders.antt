-- Equal remainders modulo w, as an equation between sums, so that nothing is subtracted.
use Rattle.std.proofs.Common.{◌≡◌, ℕ, ◌+◌, ◌*◌, ◌/◌, ◌%◌, ◌<◌, sym, refl, ap, ◌∙◌, mod-eq_of_lt, arith}
use native.Mathlib.Nat.{add-mul-mod_self_right, mod-add-div'}

abbrev pub Congruent : ℕ → ℕ → ℕ → Type 0
Congruent w a b = (m : ℕ) × (n : ℕ) × (a + m * w ≡ b + n * w)

pub congruent_refl : (w a : ℕ) → Congruent w a a
congruent_refl w a = (0, 0, refl)

pub congruent_from_remainders : (w a b : ℕ) → a % w ≡ b % w → Congruent w a b
congruent_from_remainders w a b e = (b / w, a / w, omega (arith, mod-add-div' a w, mod-add-div' b w))

pub remainders_from_congruent : (w a b : ℕ) → Congruent w a b → a % w ≡ b % w
remainders_from_congruent w a b c = sym (add-mul-mod_self_right a c.0 w) ∙ ap (λ x. x % w) c.2 ∙ add-mul-mod_self_right b c.1 w

pub congruent_small : (w a b : ℕ) → a < w → b < w → Congruent w a b → a ≡ b
congruent_small w a b ha hb c = sym (mod-eq_of_lt ha) ∙ remainders_from_congruent w a b c ∙ mod-eq_of_lt hb

-- a + x * s and b + x * t are congruent, and so are s and t: then so are a and b
pub congruent_first : (w x a b s t : ℕ) → Congruent w (a + x * s) (b + x * t) → Congruent w s t → Congruent w a b
congruent_first w x a b s t (m, n, e) (k, l, d) = (m + x * l, n + x * k, omega (arith, ap (λ y. x * y) d))

-- d + t * y and e + t * z are congruent, and so are d and e, and t has the inverse u: then so are y and z
pub congruent_cancel : (w t u k d e y z : ℕ) → t * u ≡ 1 + k * w → Congruent w (d + t * y) (e + t * z) → Congruent w d e → Congruent w y z
congruent_cancel w t u k d e y z inv (m, n, p) (i, j, q) = (
  k * y + u * (m + j),
  k * z + u * (n + i),
  omega (arith, ap (λ v. v * y) inv, ap (λ v. v * z) inv, ap (λ v. u * v) p, ap (λ v. u * v) q),
)
