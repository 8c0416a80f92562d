-- Sums, counts and the least number that passes a test.
use Rattle.std.proofs.Common.{◌≡◌, ℕ, zero, suc, ◌+◌, ◌*◌, ◌<◌, ◌≤◌, Bool, true, false, cond, not, T, ◌⊎◌, refl, inl, inr, eq-or-lt_of_le, add-one, arith}
use native.Mathlib.Decide.{dec_lt}
use Rattle.model.specs.Counting.{sum_below, count_below, least_from}

pub lt_or_le : (a b : ℕ) → (a < b) ⊎ (b ≤ a)
lt_or_le a b = elim (dec_lt a b) [ yes h ↦ inl h | no h ↦ inr (omega arith) ]

pub sum_first : (n : ℕ) (f : ℕ → ℕ) → sum_below (suc n) f ≡ f 0 + sum_below n (λ j. f (suc j))
sum_first zero f = omega arith
sum_first (suc n) f = let ih : sum_below (suc n) f ≡ f 0 + sum_below n (λ j. f (suc j)) = sum_first n f in omega arith

pub sum_times : (n x : ℕ) (f g : ℕ → ℕ) → ((j : ℕ) → f j ≡ x * g j) → sum_below n f ≡ x * sum_below n g
sum_times zero x f g h = omega arith
sum_times (suc n) x f g h = let ih : sum_below n f ≡ x * sum_below n g = sum_times n x f g h in omega (arith, h n)

one_or_none_le : (b c : Bool) → (T b → T c) → cond b 1 0 ≤ cond c 1 0
one_or_none_le true true f = omega arith
one_or_none_le true false f = absurd (f tt)
one_or_none_le false true f = omega arith
one_or_none_le false false f = omega arith

-- a test that passes wherever another passes counts no less
pub count_mono : (n : ℕ) (f g : ℕ → Bool) → ((i : ℕ) → i < n → T (f i) → T (g i)) → count_below n f ≤ count_below n g
count_mono zero f g h = omega arith
count_mono (suc n) f g h =
    let here : cond (f n) 1 0 ≤ cond (g n) 1 0 = one_or_none_le (f n) (g n) (h n (omega arith)) in
    let rest : count_below n f ≤ count_below n g = count_mono n f g (λ i l. h i (omega arith)) in
    omega arith

pub count_at_most : (n : ℕ) (f : ℕ → Bool) → count_below n f ≤ n
count_at_most zero f = omega arith
count_at_most (suc n) f = go (f n) (count_at_most n f)
  where
    go : (v : Bool) → count_below n f ≤ n → count_below n f + cond v 1 0 ≤ suc n
    go true h = omega arith
    go false h = omega arith

pub count_of_all : (n : ℕ) (f : ℕ → Bool) → ((i : ℕ) → i < n → T (f i)) → count_below n f ≡ n
count_of_all zero f h = refl
count_of_all (suc n) f h = let ih : count_below n f ≡ n = count_of_all n f (λ i l. h i (omega arith)) in go (f n) (h n (omega arith)) ih
  where
    go : (v : Bool) → T v → count_below n f ≡ n → count_below n f + cond v 1 0 ≡ suc n
    go true t e = omega arith
    go false t e = absurd t

-- one number more
pub count_passes : (n : ℕ) (f : ℕ → Bool) → T (f n) → count_below (n + 1) f ≡ count_below n f + 1
count_passes n f t = rw (add-one n) (go (f n) t)
  where
    go : (v : Bool) → T v → count_below n f + cond v 1 0 ≡ count_below n f + 1
    go true h = refl
    go false h = absurd h

pub count_fails : (n : ℕ) (f : ℕ → Bool) → (T (f n) → ⊥) → count_below (n + 1) f ≡ count_below n f
count_fails n f no_pass = rw (add-one n) (go (f n) no_pass)
  where
    go : (v : Bool) → (T v → ⊥) → count_below n f + cond v 1 0 ≡ count_below n f
    go true h = absurd (h tt)
    go false h = omega arith

module _ (test : ℕ → Bool) where
  pick : (P : ℕ → Type 0) (d r : ℕ) (v : Bool) → (T v → P d) → P r → P (cond v d r)
  pick P d r true here rest = here tt
  pick P d r false here rest = rest

  -- what the least number fulfils, where some number within the steps passes
  pub least_passes : (P : ℕ → Type 0) → ((d : ℕ) → T (test d) → P d) → (steps start : ℕ) → P (steps + start) → P (least_from steps start test)
  least_passes P passes zero start h = let e : 0 + start ≡ start = omega arith in rw e at h
  least_passes P passes (suc steps) start h =
      let e : suc steps + start ≡ steps + suc start = omega arith in
      pick P start (least_from steps (suc start) test) (test start) (passes start)
      (least_passes P passes steps (suc start) (rw e at h))

  pub least_from_start : (steps start : ℕ) → start ≤ least_from steps start test
  least_from_start zero start = omega arith
  least_from_start (suc steps) start =
      let ih : suc start ≤ least_from steps (suc start) test = least_from_start steps (suc start) in
      pick (λ d. start ≤ d) start (least_from steps (suc start) test) (test start) (λ t. omega arith) (omega arith)

  below_one : (P : ℕ → Type 0) (d r k : ℕ) (v : Bool) → (T (not v) → P d) → (suc d ≤ k → k < r → P k) → d ≤ k → k < cond v d r → P k
  below_one P d r k true at_d up low h = absurd (omega arith)
  below_one P d r k false at_d up low h = elim (eq-or-lt_of_le low) [ inl e ↦ rw (← e) (at_d tt) | inr l ↦ up l h ]

  -- every number from the start to below the least one fails the test
  pub fails_below_least : (P : ℕ → Type 0) → ((d : ℕ) → T (not (test d)) → P d) → (steps start k : ℕ) → start ≤ k → k < least_from steps start test → P k
  fails_below_least P fails zero start k low h = absurd (omega arith)
  fails_below_least P fails (suc steps) start k low h =
      below_one P start (least_from steps (suc start) test) k (test start) (fails start)
      (fails_below_least P fails steps (suc start) k) low h
