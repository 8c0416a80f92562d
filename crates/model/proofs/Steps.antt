-- Sums, tests and steps over one number more, as a loop takes them.
use Rattle.std.proofs.Common.{◌≡◌, ℕ, zero, suc, ◌+◌, ◌<◌, Bool, true, false, ◌&&◌, ℤ, Some, None, Option, sym, refl, ap, ◌∙◌, ⊎_elim, add-one, arith}
use Rattle.std.specs.Int.{int_min}
use Rattle.std.proofs.lemmas.Bool.{cases_eq}
use Rattle.model.specs.Counting.{sum_below, all_below, first_below, or_else, least_to, steps_below}

pub sum_more : (i : ℕ) (f : ℕ → ℕ) → sum_below (i + 1) f ≡ sum_below i f + f i
sum_more i f = rw add-one refl

pub all_more : (i : ℕ) (q : ℕ → Bool) → all_below (i + 1) q ≡ (all_below i q && q i)
unfolding all_below
all_more i q = rw add-one refl

pub first_more : {A : Type 0} (i : ℕ) (f : ℕ → Option A) → first_below (i + 1) f ≡ or_else (first_below i f) (f i)
unfolding first_below
first_more i f = rw add-one refl

pub least_more : (i : ℕ) (f : ℕ → ℤ) → least_to (i + 1) f ≡ int_min (least_to i f) (f (i + 1))
unfolding least_to
least_more i f = rw add-one refl

pub steps_next : {A : Type 0} (i : ℕ) (f : A → ℕ → A) (a : A) → steps_below (i + 1) f a ≡ f (steps_below i f a) i
unfolding steps_below
steps_next i f a = rw add-one refl

-- nothing done yet
pub all_of_none : (test : ℕ → Bool) → all_below 0 test ≡ true
unfolding all_below
all_of_none test = refl

pub first_of_none : {A : Type 0} (f : ℕ → Option A) → first_below 0 f ≡ None
unfolding first_below
first_of_none f = refl

pub no_steps : {A : Type 0} (f : A → ℕ → A) (a : A) → steps_below 0 f a ≡ a
unfolding steps_below
no_steps f a = refl

pub least_of_one : (f : ℕ → ℤ) → least_to 0 f ≡ f 0
unfolding least_to
least_of_one f = refl

-- one that fails settles it
pub one_fails : (n i : ℕ) (test : ℕ → Bool) → i < n → test i ≡ false → all_below n test ≡ false
unfolding all_below
one_fails zero i test l e = absurd (omega arith)
one_fails (suc n) i test l e =
    ⊎_elim
    (λ (same : i ≡ n). ap (λ b. all_below n test && b) (ap test (sym same) ∙ e) ∙ and_false (all_below n test))
    (λ (other : i ≡ n → ⊥). ap (λ b. b && test n) (one_fails n i test (omega arith) e))
    (cases_eq i n)
  where
    and_false : (b : Bool) → (b && false) ≡ false
    and_false true = refl
    and_false false = refl

-- the first answer is what one gives after others that give none
pub first_is : {A : Type 0} (n i : ℕ) (f : ℕ → Option A) (a : A) → i < n → first_below i f ≡ None → f i ≡ Some a → first_below n f ≡ Some a
unfolding first_below
first_is zero i f a l none e = absurd (omega arith)
first_is (suc n) i f a l none e =
    ⊎_elim
    (λ (same : i ≡ n). (rw (← same, none) e))
    (λ (other : i ≡ n → ⊥). ap (λ o. or_else o (f n)) (first_is n i f a (omega arith) none e))
    (cases_eq i n)

pub first_same : {A : Type 0} (n : ℕ) (f g : ℕ → Option A) → ((i : ℕ) → i < n → f i ≡ g i) → first_below n f ≡ first_below n g
unfolding first_below
first_same zero f g h = refl
first_same (suc n) f g h = ap (λ o. or_else o (f n)) (first_same n f g (λ i l. h i (omega arith))) ∙ ap (or_else (first_below n g)) (h n (omega arith))
