-- Each of 1 to 15 has an inverse modulo each of the widths: a test that is computed once over the list.
use Rattle.std.proofs.Common.{◌≡◌, ℕ, zero, suc, ◌+◌, ◌*◌, ◌/◌, ◌%◌, ◌<◌, ◌≤◌, Bool, true, false, ◌&&◌, ◌||◌, T, eqb, leb, List, [], ◌∷◌, sym, subst, inl, inr, eq-or-lt_of_le, arith, eqb→eq, leb→le}
use native.Mathlib.Nat.{div-add-mod}
use Rattle.model.specs.Counting.{among}
use Rattle.model.specs.Polynomial.{widths, allowed_width}
use Rattle.model.proofs.Coefficients.{Inverses}

abbrev some_below : ℕ → (ℕ → Bool) → Bool
some_below zero f = false
some_below (suc n) f = f n || some_below n f

abbrev every_below : ℕ → (ℕ → Bool) → Bool
every_below zero f = true
every_below (suc n) f = f n && every_below n f

found_here : (f : ℕ → Bool) (n : ℕ) (a b : Bool) → (T a → T (f n)) → (T b → (k : ℕ) × T (f k)) → T (a || b) → (k : ℕ) × T (f k)
found_here f n true b here rest t = (n, here tt)
found_here f n false b here rest t = rest t

found : (n : ℕ) (f : ℕ → Bool) → T (some_below n f) → (k : ℕ) × T (f k)
found zero f t = absurd t
found (suc n) f t = found_here f n (f n) (some_below n f) (λ h. h) (found n f) t

and_left : (a b : Bool) → T (a && b) → T a
and_left true b t = tt
and_left false b t = t

and_right : (a b : Bool) → T (a && b) → T b
and_right true b t = t
and_right false b t = absurd t

at_each : (n : ℕ) (f : ℕ → Bool) → T (every_below n f) → (k : ℕ) → k < n → T (f k)
at_each zero f t k h = absurd (omega arith)
at_each (suc n) f t k h =
    elim (eq-or-lt_of_le h) [
      | inl e ↦ (let here : n ≡ k = omega arith in subst (λ m. T (f m)) here (and_left (f n) (every_below n f) t))
      | inr l ↦ at_each n f (and_right (f n) (every_below n f) t) k (omega arith)
    ]

-- some k below t + 1 makes 1 + k * w a multiple of t + 1
abbrev invertible : ℕ → ℕ → Bool
invertible w t = some_below (suc t) (λ k. eqb ((1 + k * w) % suc t) 0)

inverses_by_test : (w : ℕ) → T (every_below 15 (invertible w)) → Inverses w 16
inverses_by_test w test zero pos h = absurd (omega arith)
inverses_by_test w test (suc t) pos h =
    let some = found (suc t) (λ k. eqb ((1 + k * w) % suc t) 0) (at_each 15 (invertible w) test t (omega arith)) in
    let k : ℕ = some.0 in
    let none : (1 + k * w) % suc t ≡ 0 = eqb→eq ((1 + k * w) % suc t) 0 some.1 in
    ((1 + k * w) / suc t, k, omega (arith, div-add-mod (1 + k * w) (suc t)))

-- a test passed by each number of a list is passed by a number that is among them
abbrev every_of : (ℕ → Bool) → List ℕ → Bool
every_of f [] = true
every_of f (x ∷ xs) = f x && every_of f xs

passed_among : (f : ℕ → Bool) (xs : List ℕ) (n : ℕ) → T (every_of f xs) → among xs n ≡ true → T (f n)
passed_among f [] n all h = absurd (subst T (sym h) tt)
passed_among f (x ∷ xs) n all h =
    first (eqb n x) (eqb→eq n x) (passed_among f xs n (and_right (f x) (every_of f xs) all)) h
  where
    first : (v : Bool) → (T v → n ≡ x) → (among xs n ≡ true → T (f n)) → (v || among xs n) ≡ true → T (f n)
    first true e rest t = subst (λ m. T (f m)) (sym (e tt)) (and_left (f x) (every_of f xs) all)
    first false e rest t = rest t

pub width_inverses : (w : ℕ) → allowed_width w ≡ true → Inverses w 16
unfolding allowed_width
width_inverses w h = inverses_by_test w (passed_among (λ v. every_below 15 (invertible v)) widths w tt h)

pub width_at_least_31 : (w : ℕ) → allowed_width w ≡ true → 31 ≤ w
unfolding allowed_width
width_at_least_31 w h = leb→le 31 w (passed_among (λ v. leb 31 v) widths w tt h)

pub width_at_most_4093 : (w : ℕ) → allowed_width w ≡ true → w ≤ 4093
unfolding allowed_width
width_at_most_4093 w h = leb→le w 4093 (passed_among (λ v. leb v 4093) widths w tt h)
