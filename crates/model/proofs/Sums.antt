-- Sums of natural numbers over the numbers below a bound.
use Rattle.std.proofs.Common.{◌≡◌, ℕ, zero, suc, ◌+◌, ◌*◌, ◌<◌, ◌≤◌, Bool, true, false, cond, not, ◌&&◌, eqb, ◌⊎◌, sym, refl, ap, ◌∙◌, ap₂, inl, inr, ⊎_elim, add-mul, arith}
use Rattle.std.proofs.lemmas.Bool.{cond-true, cond-false, eq-eqb, ne_eqb, cases_eq}
use Rattle.model.specs.Counting.{sum_below, sum_where, count_below}

pub sum_same : (n : ℕ) (f g : ℕ → ℕ) → ((i : ℕ) → i < n → f i ≡ g i) → sum_below n f ≡ sum_below n g
sum_same zero f g h = refl
sum_same (suc n) f g h = ap₂ ◌+◌ (sum_same n f g (λ i l. h i (omega arith))) (h n (omega arith))

pub sum_le : (n : ℕ) (f g : ℕ → ℕ) → ((i : ℕ) → i < n → f i ≤ g i) → sum_below n f ≤ sum_below n g
sum_le zero f g h = omega arith
sum_le (suc n) f g h = omega (arith, sum_le n f g (λ i l. h i (omega arith)), h n (omega arith))

pub sum_zero : (n : ℕ) → sum_below n (λ _. 0) ≡ 0
sum_zero zero = refl
sum_zero (suc n) = omega (arith, sum_zero n)

pub sum_add : (n : ℕ) (f g : ℕ → ℕ) → sum_below n (λ i. f i + g i) ≡ sum_below n f + sum_below n g
sum_add zero f g = refl
sum_add (suc n) f g = omega (arith, sum_add n f g)

pub sum_by : (n : ℕ) (f : ℕ → ℕ) (m : ℕ) → sum_below n (λ i. f i * m) ≡ sum_below n f * m
sum_by zero f m = omega arith
sum_by (suc n) f m = omega (arith, sum_by n f m, add-mul (sum_below n f) (f n) m)

pub sum_swap : (n m : ℕ) (f : ℕ → ℕ → ℕ) → sum_below n (λ i. sum_below m (λ j. f i j)) ≡ sum_below m (λ j. sum_below n (λ i. f i j))
sum_swap zero m f = sym (sum_zero m)
sum_swap (suc n) m f = ap (λ x. x + sum_below m (λ j. f n j)) (sum_swap n m f) ∙ sym (sum_add m (λ j. sum_below n (λ i. f i j)) (λ j. f n j))

pub sum_past : (n x v : ℕ) → n ≤ x → sum_below n (λ i. cond (eqb i x) v 0) ≡ 0
sum_past n x v h = sum_same n _ (λ _. 0) (λ i l. cond-false (eqb i x) v 0 (ne_eqb i x (omega arith))) ∙ sum_zero n

pub sum_one : (n x v : ℕ) → x < n → sum_below n (λ i. cond (eqb i x) v 0) ≡ v
sum_one zero x v h = absurd (omega arith)
sum_one (suc n) x v h =
    ⊎_elim
    (λ (e : n ≡ x). omega (arith, sum_past n x v (omega arith), cond-true (eqb n x) v 0 (eq-eqb n x e)))
    (λ (d : n ≡ x → ⊥). omega (arith, sum_one n x v (omega arith), cond-false (eqb n x) v 0 (ne_eqb n x d)))
    (cases_eq n x)

-- at least m each
pub sum_from : (n : ℕ) (f : ℕ → ℕ) (m : ℕ) → ((i : ℕ) → i < n → m ≤ f i) → n * m ≤ sum_below n f
sum_from zero f m h = omega arith
sum_from (suc n) f m h = omega (arith, sum_from n f m (λ i l. h i (omega arith)), h n (omega arith), add-mul n 1 m)

-- ---- over those that pass

cond_le : (b : Bool) (x : ℕ) → cond b x 0 ≤ x
cond_le true x = omega arith
cond_le false x = omega arith

pub of_le : (n : ℕ) (q : ℕ → Bool) (f : ℕ → ℕ) → sum_where n q f ≤ sum_below n f
of_le n q f = sum_le n _ f (λ i _. cond_le (q i) (f i))

pub of_le_of : (n : ℕ) (q q' : ℕ → Bool) (f : ℕ → ℕ) → ((i : ℕ) → i < n → q i ≡ true → q' i ≡ true) → sum_where n q f ≤ sum_where n q' f
of_le_of n q q' f h = sum_le n _ _ (λ i l. go (q i) (q' i) (f i) (h i l))
  where
    go : (a b : Bool) (x : ℕ) → (a ≡ true → b ≡ true) → cond a x 0 ≤ cond b x 0
    go false b x h = omega arith
    go true b x h = rw (h refl) (omega arith)

pub of_same : (n : ℕ) (q q' : ℕ → Bool) (f : ℕ → ℕ) → ((i : ℕ) → i < n → q i ≡ q' i) → sum_where n q f ≡ sum_where n q' f
of_same n q q' f h = sum_same n _ _ (λ i l. ap (λ b. cond b (f i) 0) (h i l))

-- one of them, and the others
pub of_apart : (n x : ℕ) (q : ℕ → Bool) (f : ℕ → ℕ) → x < n → q x ≡ true → sum_where n q f ≡ f x + sum_where n (λ i. q i && not (eqb i x)) f
of_apart n x q f l h =
    sum_same n _ _ (λ i _. each i (cases_eq i x))
    ∙ sum_add n (λ i. cond (eqb i x) (f x) 0) (λ i. cond (q i && not (eqb i x)) (f i) 0)
    ∙ ap (λ y. y + sum_where n (λ i. q i && not (eqb i x)) f) (sum_one n x (f x) l)
  where
    alone : (b : Bool) (y : ℕ) → cond b y 0 ≡ cond (b && true) y 0
    alone true y = refl
    alone false y = refl

    each : (i : ℕ) → (i ≡ x) ⊎ (i ≡ x → ⊥) → cond (q i) (f i) 0 ≡ cond (eqb i x) (f x) 0 + cond (q i && not (eqb i x)) (f i) 0
    each i (inl e) = rw (e, h, eq-eqb x x refl) (omega arith)
    each i (inr d) = rw (ne_eqb i x d) (omega (arith, alone (q i) (f i)))

-- those that pass both, and those that pass the first alone
pub of_split : (n : ℕ) (q p : ℕ → Bool) (f : ℕ → ℕ) → sum_where n q f ≡ sum_where n (λ i. q i && p i) f + sum_where n (λ i. q i && not (p i)) f
of_split n q p f = sum_same n _ _ (λ i _. go (q i) (p i) (f i)) ∙ sum_add n (λ i. cond (q i && p i) (f i) 0) (λ i. cond (q i && not (p i)) (f i) 0)
  where
    go : (a b : Bool) (x : ℕ) → cond a x 0 ≡ cond (a && b) x 0 + cond (a && not b) x 0
    go true true x = omega arith
    go true false x = omega arith
    go false true x = omega arith
    go false false x = omega arith

-- each of the n counts in one group of W
pub of_groups : (n W : ℕ) (at : ℕ → ℕ) (f : ℕ → ℕ) → ((i : ℕ) → i < n → at i < W) → sum_below W (λ g. sum_where n (λ i. eqb (at i) g) f) ≡ sum_below n f
of_groups n W at f h = sum_swap W n (λ g i. cond (eqb (at i) g) (f i) 0) ∙ sum_same n _ f (λ i l. sum_same W _ _ (λ g _. flip (at i) g (f i)) ∙ sum_one W (at i) (f i) (h i l))
  where
    flip : (a b v : ℕ) → cond (eqb a b) v 0 ≡ cond (eqb b a) v 0
    flip a b v = ⊎_elim (λ (e : a ≡ b). rw e refl) (λ (d : a ≡ b → ⊥). rw (ne_eqb a b d, ne_eqb b a (λ x. d (sym x))) refl) (cases_eq a b)

pub count_is_sum : (n : ℕ) (test : ℕ → Bool) → count_below n test ≡ sum_below n (λ i. cond (test i) 1 0)
count_is_sum zero test = refl
count_is_sum (suc n) test = ap (λ x. x + cond (test n) 1 0) (count_is_sum n test)

-- each that passes is at least m
pub count_by : (n : ℕ) (test : ℕ → Bool) (f : ℕ → ℕ) (m : ℕ) → ((i : ℕ) → i < n → test i ≡ true → m ≤ f i) → count_below n test * m ≤ sum_below n f
count_by n test f m h = rw (count_is_sum n test, ← sum_by n (λ i. cond (test i) 1 0) m) (sum_le n _ f (λ i l. go (test i) (f i) (h i l)))
  where
    go : (b : Bool) (x : ℕ) → (b ≡ true → m ≤ x) → cond b 1 0 * m ≤ x
    go true x h = omega (arith, h refl)
    go false x h = omega arith

-- at most m each
pub sum_most : (n : ℕ) (f : ℕ → ℕ) (m : ℕ) → ((i : ℕ) → i < n → f i ≤ m) → sum_below n f ≤ n * m
sum_most zero f m h = omega arith
sum_most (suc n) f m h = omega (arith, sum_most n f m (λ i l. h i (omega arith)), h n (omega arith), add-mul n 1 m)
