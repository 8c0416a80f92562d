-- Sums of integers over the numbers below a bound.
use Rattle.std.proofs.Common.{◌≡◌, ℕ, zero, suc, ◌<◌, ◌≤◌, Bool, true, false, cond, eqb, ℤ, pos, ◌+ℤ◌, sym, refl, ap, ◌∙◌, ap₂, ⊎_elim, arith}
use lib.IntN.{+ℤ_idl, +ℤ_idr}
use Rattle.std.proofs.lemmas.Int.{ints}
use Rattle.std.proofs.lemmas.Bool.{cond-true, cond-false, eq-eqb, ne_eqb, cases_eq}
use Rattle.model.specs.Counting.{sum_below, integer_sum, integer_sum_where}
use Rattle.model.proofs.Wrapping.{Puts}

pub integer_same : (n : ℕ) (f g : ℕ → ℤ) → ((i : ℕ) → i < n → f i ≡ g i) → integer_sum n f ≡ integer_sum n g
unfolding integer_sum
integer_same zero f g h = refl
integer_same (suc n) f g h = ap₂ ◌+ℤ◌ (integer_same n f g (λ i l. h i (omega arith))) (h n (omega arith))

pub integer_zero : (n : ℕ) → integer_sum n (λ _. pos 0) ≡ pos 0
unfolding integer_sum
integer_zero zero = refl
integer_zero (suc n) = ap (λ z. z +ℤ pos 0) (integer_zero n)

pub integer_add : (n : ℕ) (f g : ℕ → ℤ) → integer_sum n (λ i. f i +ℤ g i) ≡ integer_sum n f +ℤ integer_sum n g
unfolding integer_sum
integer_add zero f g = refl
integer_add (suc n) f g = omega (arith, ints, integer_add n f g)

pub integer_sign : {op : ℕ → ℕ → ℕ} {sign : ℤ → ℤ} → Puts op sign → (n : ℕ) (f : ℕ → ℤ) → integer_sum n (λ i. sign (f i)) ≡ sign (integer_sum n f)
unfolding integer_sum
integer_sign puts zero f = sym puts.sign_zero
integer_sign {sign = sign} puts (suc n) f = ap (λ z. z +ℤ sign (f n)) (integer_sign puts n f) ∙ sym (puts.sign_add (integer_sum n f) (f n))

pub integer_pos : (n : ℕ) (g : ℕ → ℕ) → integer_sum n (λ i. pos (g i)) ≡ pos (sum_below n g)
unfolding integer_sum
integer_pos zero g = refl
integer_pos (suc n) g = ap (λ z. z +ℤ pos (g n)) (integer_pos n g)

-- one place holds z, and the others nothing
pub integer_past : (n x : ℕ) (z : ℤ) → n ≤ x → integer_sum n (λ i. cond (eqb i x) z (pos 0)) ≡ pos 0
integer_past n x z h = integer_same n (λ i. cond (eqb i x) z (pos 0)) (λ _. pos 0) (λ i l. cond-false (eqb i x) z (pos 0) (ne_eqb i x (omega arith))) ∙ integer_zero n

pub integer_one : (n x : ℕ) (z : ℤ) → x < n → integer_sum n (λ i. cond (eqb i x) z (pos 0)) ≡ z
unfolding integer_sum
integer_one zero x z h = absurd (omega arith)
integer_one (suc n) x z h =
    ⊎_elim
    (λ (e : n ≡ x).
    ap₂ ◌+ℤ◌ (integer_past n x z (omega arith)) (cond-true (eqb n x) z (pos 0) (eq-eqb n x e)) ∙ +ℤ_idl z)
    (λ (d : n ≡ x → ⊥).
    ap₂ ◌+ℤ◌ (integer_one n x z (omega arith)) (cond-false (eqb n x) z (pos 0) (ne_eqb n x d)) ∙ +ℤ_idr z)
    (cases_eq n x)

-- ---- over those that pass

cond_add : (b : Bool) (x y : ℤ) → cond b (x +ℤ y) (pos 0) ≡ cond b x (pos 0) +ℤ cond b y (pos 0)
cond_add true x y = refl
cond_add false x y = refl

cond_sign : {op : ℕ → ℕ → ℕ} {sign : ℤ → ℤ} → Puts op sign → (b : Bool) (x : ℤ) → cond b (sign x) (pos 0) ≡ sign (cond b x (pos 0))
cond_sign puts true x = refl
cond_sign puts false x = sym puts.sign_zero

cond_zero : (b : Bool) → cond b (pos 0) (pos 0) ≡ pos 0
cond_zero true = refl
cond_zero false = refl

pub of_add : (n : ℕ) (q : ℕ → Bool) (f g : ℕ → ℤ) → integer_sum_where n q (λ i. f i +ℤ g i) ≡ integer_sum_where n q f +ℤ integer_sum_where n q g
of_add n q f g =
    integer_same n _ _ (λ i _. cond_add (q i) (f i) (g i)) ∙ integer_add n (λ i. cond (q i) (f i) (pos 0)) (λ i. cond (q i) (g i) (pos 0))

pub of_sign : {op : ℕ → ℕ → ℕ} {sign : ℤ → ℤ} → Puts op sign → (n : ℕ) (q : ℕ → Bool) (f : ℕ → ℤ) → integer_sum_where n q (λ i. sign (f i)) ≡ sign (integer_sum_where n q f)
of_sign puts n q f = integer_same n _ _ (λ i _. cond_sign puts (q i) (f i)) ∙ integer_sign puts n (λ i. cond (q i) (f i) (pos 0))

pub of_zero : (n : ℕ) (q : ℕ → Bool) → integer_sum_where n q (λ _. pos 0) ≡ pos 0
of_zero n q = integer_same n _ _ (λ i _. cond_zero (q i)) ∙ integer_zero n

pub of_same : (n : ℕ) (q : ℕ → Bool) (f g : ℕ → ℤ) → ((i : ℕ) → f i ≡ g i) → integer_sum_where n q f ≡ integer_sum_where n q g
of_same n q f g h = integer_same n _ _ (λ i _. ap (λ z. cond (q i) z (pos 0)) (h i))

one_where : (q : ℕ → Bool) (x i : ℕ) (z : ℤ) → cond (q i) (cond (eqb i x) z (pos 0)) (pos 0) ≡ cond (eqb i x) (cond (q x) z (pos 0)) (pos 0)
one_where q x i z =
    ⊎_elim
    (λ (e : i ≡ x). rw e (rw (eq-eqb x x refl) refl))
    (λ (d : i ≡ x → ⊥). rw (ne_eqb i x d) (cond_zero (q i)))
    (cases_eq i x)

pub of_one : (n : ℕ) (q : ℕ → Bool) (x : ℕ) (z : ℤ) → x < n → integer_sum_where n q (λ i. cond (eqb i x) z (pos 0)) ≡ cond (q x) z (pos 0)
of_one n q x z h = integer_same n _ _ (λ i _. one_where q x i z) ∙ integer_one n x (cond (q x) z (pos 0)) h
