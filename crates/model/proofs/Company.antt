-- Company over the rows: with rows enough, a hot key has a row where it is small.
use Rattle.std.proofs.Common.{◌≡◌, ℕ, zero, suc, ◌*◌, ◌<◌, ◌≤◌, Bool, true, false, cond, not, ◌&&◌, eqb, ◌⊎◌, refl, ap, inl, inr, ⊎_elim, mul_comm, arith}
use Rattle.std.proofs.lemmas.Nat.{mul-le}
use Rattle.std.proofs.lemmas.Bool.{eq-eqb, ne_eqb, cases_eq, cases_lt}
use Rattle.model.specs.Counting.{sum_below, sum_where, count_below}
use Rattle.model.proofs.Sums.{sum_same, sum_le, sum_zero, sum_by, sum_swap, count_is_sum}

-- one of them is at most t, or all are above
pub some_low : (n : ℕ) (h : ℕ → ℕ) (t : ℕ) → ((r : ℕ) × (r < n) × (h r ≤ t)) ⊎ ((r : ℕ) → r < n → t < h r)
some_low zero h t = inr (λ r l. absurd (omega arith))
some_low (suc n) h t =
    ⊎_elim
    (λ (a : (r : ℕ) × (r < n) × (h r ≤ t)). inl (a.0, (omega arith), a.2))
    (λ (a : (r : ℕ) → r < n → t < h r).
    ⊎_elim
    (λ (b : t < h n). inr (λ r l. ⊎_elim (λ (e : r ≡ n). rw e b) (λ (d : r ≡ n → ⊥). a r (omega arith)) (cases_eq r n)))
    (λ (b : h n ≤ t). inl (n, (omega arith), b))
    (cases_lt t (h n)))
    (some_low n h t)

-- the companies of x over T rows: each other is met in at most s of them
pub met : (N T s x : ℕ) (f : ℕ → ℕ) (q : ℕ → ℕ → Bool) → x < N → ((c : ℕ) → c < N → (c ≡ x → ⊥) → count_below T (q c) ≤ s) →
    sum_below T (λ r. sum_where N (λ c. q c r && not (eqb c x)) f) ≤ sum_where N (λ c. true && not (eqb c x)) f * s
met N T s x f q l h =
    rw (sum_swap T N (λ r c. cond (q c r && not (eqb c x)) (f c) 0), ← sum_by N (λ c. cond (true && not (eqb c x)) (f c) 0) s)
    (sum_le N _ _ (λ c lc. each c lc (cases_eq c x)))
  where
    gone : (b : Bool) (v : ℕ) → cond (b && false) v 0 ≡ 0
    gone true v = refl
    gone false v = refl

    weigh : (b : Bool) (v : ℕ) → cond (b && true) v 0 ≡ cond b 1 0 * v
    weigh true v = omega arith
    weigh false v = omega arith

    each : (c : ℕ) → c < N → (c ≡ x) ⊎ (c ≡ x → ⊥) → sum_below T (λ r. cond (q c r && not (eqb c x)) (f c) 0) ≤ cond (true && not (eqb c x)) (f c) 0 * s
    each c lc (inl e) = rw (eq-eqb c x e) (omega (arith, sum_same T _ (λ _. 0) (λ r _. gone (q c r) (f c)), sum_zero T))
    each c lc (inr d) =
        rw (ne_eqb c x d)
        (let a = sum_same T _ (λ r. cond (q c r) 1 0 * f c) (λ r _. weigh (q c r) (f c)) in
        let b = sum_by T (λ r. cond (q c r) 1 0) (f c) in
        let n = ap (λ y. y * f c) (count_is_sum T (q c)) in
        let m = mul-le (count_below T (q c)) (f c) s (f c) (h c lc d) (omega arith) in
        omega (arith, mul_comm s (f c)))
