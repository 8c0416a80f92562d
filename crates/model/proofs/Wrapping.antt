-- An integer as a number of 64 bits, and what adding and taking off do to it.
use Rattle.std.proofs.Common.{◌≡◌, ℕ, suc, ◌+◌, ◌-◌, ◌*◌, ◌/◌, ◌%◌, ◌^◌, ◌<◌, ℤ, pos, negsuc, ◌+ℤ◌, neg_ℤ, sym, refl, ap, ◌∙◌, arith}
use native.Mathlib.Nat.{add-mul-mod_self_right}
use lib.IntN.{neg_ℤ-+ℤ, +ℤ_comm}
use borrow.Author.Differences.{up, down}
use Rattle.std.proofs.lemmas.Int.{ints}
use Rattle.std.proofs.lemmas.Nat.{mod-mul-add}
use Rattle.model.specs.Words.{add, take_off}

-- a whole number modulo 2^64
unfoldable pub wrap : ℤ → ℕ
wrap (pos n) = n % 2 ^ 64
wrap (negsuc n) = 2 ^ 64 - 1 - n % 2 ^ 64

abbrev pub pair_wrap : ℕ → ℕ → ℕ
pair_wrap a b = (a + (2 ^ 64 - 1) * b) % 2 ^ 64

-- a word by any two naturals whose difference the number is
pub wrap_of : (z : ℤ) (a b : ℕ) → up z + b ≡ a + down z → wrap z ≡ pair_wrap a b
unfolding wrap
wrap_of (pos n) a b h = let e : a ≡ n + b = omega arith in rw e (omega arith)
wrap_of (negsuc n) a b h =
    let e : b ≡ a + suc n = omega arith in
    let r : ℕ = 2 ^ 64 - 1 - n % 2 ^ 64 in
    let q : ℕ = a + (n - n / 2 ^ 64) in
    let x : a + (2 ^ 64 - 1) * b ≡ q * 2 ^ 64 + r = rw e (omega arith) in
    sym (ap (λ y. y % 2 ^ 64) x ∙ mod-mul-add q (2 ^ 64) r (omega arith))

pub wrap_is : (z : ℤ) → wrap z ≡ pair_wrap (up z) (down z)
wrap_is z = wrap_of z (up z) (down z) refl

pub wrap_add : (a b : ℤ) → wrap (pos (wrap a) +ℤ b) ≡ wrap (a +ℤ b)
wrap_add a b =
    wrap_of (pos (wrap a) +ℤ b) (wrap a + up b) (down b) (omega (arith, ints))
    ∙ (omega (arith, wrap_is a, wrap_is b, wrap_of (a +ℤ b) (up a + up b) (down a + down b) (omega (arith, ints))))

-- merge and subtract
pub wrap_plus : (a b : ℤ) → wrap (pos (wrap a) +ℤ pos (wrap b)) ≡ wrap (a +ℤ b)
wrap_plus a b =
    wrap_add a (pos (wrap b)) ∙ ap wrap (+ℤ_comm a (pos (wrap b))) ∙ wrap_add b a ∙ ap wrap (+ℤ_comm b a)

pub pair_shift : (a b q : ℕ) → pair_wrap a (b + q * 2 ^ 64) ≡ pair_wrap a b
pair_shift a b q =
    let e : a + (2 ^ 64 - 1) * (b + q * 2 ^ 64) ≡ a + (2 ^ 64 - 1) * b + ((2 ^ 64 - 1) * q) * 2 ^ 64 = omega arith in
    ap (λ x. x % 2 ^ 64) e ∙ add-mul-mod_self_right (a + (2 ^ 64 - 1) * b) ((2 ^ 64 - 1) * q) (2 ^ 64)

-- less what another word stands for
wrap_less : (a b : ℤ) → wrap (a +ℤ neg_ℤ (pos (wrap b))) ≡ wrap (a +ℤ neg_ℤ b)
unfolding wrap
wrap_less a (pos n) =
    let r : ℕ = n % 2 ^ 64 in
    let q : ℕ = n / 2 ^ 64 in
    let e : down a + n ≡ down a + r + q * 2 ^ 64 = omega arith in
    wrap_of (a +ℤ neg_ℤ (pos r)) (up a) (down a + r) (omega (arith, ints))
    ∙ sym (pair_shift (up a) (down a + r) q) ∙ ap (pair_wrap (up a)) (sym e)
    ∙ sym (wrap_of (a +ℤ neg_ℤ (pos n)) (up a) (down a + n) (omega (arith, ints)))
wrap_less a (negsuc n) =
    let r : ℕ = 2 ^ 64 - 1 - n % 2 ^ 64 in
    let q : ℕ = n / 2 ^ 64 + 1 in
    let e : down a + q * 2 ^ 64 ≡ down a + suc n + r = omega arith in
    let z : ℤ = a +ℤ neg_ℤ (pos r) in
    wrap_of z (up a + suc n) (down a + suc n + r) (omega (arith, ints))
    ∙ ap (pair_wrap (up a + suc n)) (sym e) ∙ pair_shift (up a + suc n) (down a) q
    ∙ sym (wrap_of (a +ℤ pos (suc n)) (up a + suc n) (down a) (omega (arith, ints)))

pub wrap_minus : (a b : ℤ) → wrap (pos (wrap a) +ℤ neg_ℤ (pos (wrap b))) ≡ wrap (a +ℤ neg_ℤ b)
wrap_minus a b = wrap_add a (neg_ℤ (pos (wrap b))) ∙ wrap_less a b

pub wrap_small : (n : ℕ) → n < 2 ^ 64 → wrap (pos n) ≡ n
unfolding wrap
wrap_small n h = omega arith

wrap_below : (z : ℤ) → wrap z < 2 ^ 64
unfolding wrap
wrap_below (pos n) = omega arith
wrap_below (negsuc n) = omega arith

-- a word that is put in, and the whole number that it stands for
pub record Puts (op : ℕ → ℕ → ℕ) (sign : ℤ → ℤ) : Type 0 where
  pub hom : (a b : ℤ) → op (wrap a) (wrap b) ≡ wrap (a +ℤ sign b)
  pub sign_zero : sign (pos 0) ≡ pos 0
  pub sign_add : (a b : ℤ) → sign (a +ℤ b) ≡ sign a +ℤ sign b

pub adds : Puts add (λ z. z)
unfolding wrap
adds = record { hom = wrap_plus; sign_zero = refl; sign_add = λ a b. refl }

take_is : (x y : ℕ) → y < 2 ^ 64 → take_off x y ≡ wrap (pos x +ℤ neg_ℤ (pos y))
take_is x y h =
    let a : ℕ = x + (2 ^ 64 - y) in
    let e : a + (2 ^ 64 - 1) * 0 ≡ a = omega arith in
    sym (wrap_of (pos x +ℤ neg_ℤ (pos y)) a (0 + 1 * 2 ^ 64) (omega (arith, ints)) ∙ pair_shift a 0 1 ∙ ap (λ z. z % 2 ^ 64) e)

pub takes : Puts take_off neg_ℤ
takes = record {
  hom = λ a b. take_is (wrap a) (wrap b) (wrap_below b) ∙ wrap_minus a b;
  sign_zero = refl;
  sign_add = neg_ℤ-+ℤ;
}
