-- What a group yields: a code above t whose company there is at most t.
use Rattle.std.proofs.Common.{◌≡◌, ℕ, zero, suc, ◌+◌, ◌-◌, ◌*◌, ◌/◌, ◌%◌, ◌^◌, ◌<◌, ◌≤◌, Bool, true, false, not, ◌&&◌, eqb, ltb, Some, sym, refl, ap, ◌∙◌, ⊎_elim, mod-eq_of_lt, one-add, arith}
use mathlib.Core.Path.{fun_ext}
use native.Mathlib.Nat.{mod-one}
use Rattle.std.proofs.lemmas.Nat.{mod-pow-add}
use Rattle.std.proofs.lemmas.Bool.{eqb-true, eqb-false, cases_eq, lt-ltb, le-ltb, and_parts, and_from}
use Rattle.model.specs.Counting.{sum_where, all_below}
use Rattle.model.specs.Plan.{Plan, run, counts_in}
use Rattle.model.specs.Report.{next_bit, decoded}
use Rattle.model.proofs.Sums.{of_apart, of_split, of_le_of}

pub all_pass : (n : ℕ) (q : ℕ → Bool) → ((i : ℕ) → i < n → q i ≡ true) → all_below n q ≡ true
unfolding all_below
all_pass zero q h = refl
all_pass (suc n) q h = and_from _ _ (all_pass n q (λ i l. h i (omega arith))) (h n (omega arith))

pub each_passes : (n : ℕ) (q : ℕ → Bool) → all_below n q ≡ true → (i : ℕ) → i < n → q i ≡ true
unfolding all_below
each_passes zero q h i l = absurd (omega arith)
each_passes (suc n) q h i l =
    let b = and_parts (all_below n q) (q n) h in
    ⊎_elim (λ (e : i ≡ n). rw e b.1) (λ (d : i ≡ n → ⊥). each_passes n q b.0 i (omega arith)) (cases_eq i n)

-- ---- one code among those of a group, by a bit

module _ (N x : ℕ) (Q : ℕ → Bool) (f : ℕ → ℕ) (under : x < N) (in' : Q x ≡ true) where
  abbrev others : ℕ
  others = sum_where N (λ c. Q c && not (eqb c x)) f

  holds_it : (q : ℕ → Bool) → q x ≡ true → f x ≤ sum_where N q f
  holds_it q h = omega (arith, of_apart N x q f under h)

  not_same : (c : ℕ) (b : Bool) → eqb c x ≡ b → (c ≡ x → ⊥) → not b ≡ true
  not_same c true e d = absurd (d (eqb-true c x e))
  not_same c false e d = refl

  lacks_it : (q : ℕ → Bool) → ((c : ℕ) → q c ≡ true → (Q c ≡ true) × (c ≡ x → ⊥)) → sum_where N q f ≤ others
  lacks_it q h = of_le_of N q (λ c. Q c && not (eqb c x)) f (λ c _ e. and_from _ _ (h c e).0 (not_same c (eqb c x) refl (h c e).1))

  not_yes : (b : Bool) → not b ≡ true → b ≡ true → ⊥
  not_yes true h e = let w : ◌≡◌ {A = ℕ} 0 1 = cc in omega arith
  not_yes false h e = let w : ◌≡◌ {A = ℕ} 0 1 = cc in omega arith

  module _ (bit : ℕ → Bool) where
    abbrev ones : ℕ
    ones = sum_where N (λ c. Q c && bit c) f

    abbrev noughts : ℕ
    noughts = sum_where N (λ c. Q c && not (bit c)) f

    one_yes : bit x ≡ true → (f x ≤ ones) × (noughts ≤ others)
    one_yes e = (
      holds_it (λ c. Q c && bit c) (and_from _ _ in' e),
      lacks_it (λ c. Q c && not (bit c)) (λ c h. let b = and_parts _ _ h in (b.0, λ s. not_yes (bit c) b.1 (rw s e))),
    )

    one_no : bit x ≡ false → (ones ≤ others) × (f x ≤ noughts)
    one_no e = (
      lacks_it (λ c. Q c && bit c) (λ c h. let b = and_parts _ _ h in (b.0, λ s. let w : ◌≡◌ {A = Bool} true false = sym b.1 ∙ ap bit s ∙ e in let v : ◌≡◌ {A = ℕ} 0 1 = cc in omega arith)),
      holds_it (λ c. Q c && not (bit c)) (and_from _ _ in' (rw e refl)),
    )

-- ---- the bits of x, one by one

low_bits : (x l b : ℕ) → x / 2 ^ l % 2 ≡ b → x % 2 ^ (suc l) ≡ b * 2 ^ l + x % 2 ^ l
low_bits x l b e = ap (λ j. x % 2 ^ j) (sym (one-add l)) ∙ mod-pow-add x 1 l ∙ ap (λ y. y * 2 ^ l + x % 2 ^ l) e

-- a run of cells over the codes below N with Q, in which x alone is above t
module _ {K : Type 0} (P : Plan K) (N x t : ℕ) (Q : ℕ → Bool) (f : ℕ → ℕ) (under : x < N) (in' : Q x ≡ true) (hot : t < f x) (rest : sum_where N (λ c. Q c && not (eqb c x)) f ≤ t)
    (h : ℕ → ℕ) (holds : (l : ℕ) → l < run P → h l ≡ sum_where N (λ c. Q c && counts_in P c l) f) where
  h0 : h 0 ≡ sum_where N Q f
  h0 = holds 0 (omega arith) ∙ ap (λ q. sum_where N q f) (fun_ext (λ c. and_true (Q c)))
    where
      and_true : (b : Bool) → (b && true) ≡ b
      and_true true = refl
      and_true false = refl

  bit_step : (l : ℕ) → l < P.kind.bits → (b : Bool) → counts_in P x (suc l) ≡ b → next_bit t h l (Some (x % 2 ^ l)) ≡ Some (x % 2 ^ (suc l))
  bit_step l lb true e =
      let bit : ℕ → Bool = λ c. counts_in P c (suc l) in
      let s = of_split N Q bit f in
      let o = one_yes N x Q f under in' bit e in
      let z = h0 in
      let a = holds (suc l) (omega arith) in
      let p : ltb t (h (suc l)) ≡ true = lt-ltb _ _ (omega arith) in
      let q : ltb t (h 0 - h (suc l)) ≡ false = le-ltb _ _ (omega arith) in
      let v = low_bits x l 1 (eqb-true _ _ e) in
      rw (p, q) (ap Some (omega arith))
  bit_step l lb false e =
      let bit : ℕ → Bool = λ c. counts_in P c (suc l) in
      let s = of_split N Q bit f in
      let o = one_no N x Q f under in' bit e in
      let z = h0 in
      let a = holds (suc l) (omega arith) in
      let p : ltb t (h (suc l)) ≡ false = le-ltb _ _ (omega arith) in
      let q : ltb t (h 0 - h (suc l)) ≡ true = lt-ltb _ _ (omega arith) in
      let n : x / 2 ^ l % 2 ≡ 0 = omega (arith, eqb-false (x / 2 ^ l % 2) 1 e) in
      let v = low_bits x l 0 n in
      rw (p, q) (ap Some (omega arith))

  decodes_to : (l : ℕ) → l ≤ P.kind.bits → decoded t h l ≡ Some (x % 2 ^ l)
  unfolding decoded
  decodes_to zero lb = ap Some (sym (mod-one x))
  decodes_to (suc l) lb = ap (next_bit t h l) (decodes_to l (omega arith)) ∙ bit_step l (omega arith) (counts_in P x (suc l)) refl

  pub decodes : x < 2 ^ P.kind.bits → decoded t h P.kind.bits ≡ Some x
  decodes small = decodes_to P.kind.bits (omega arith) ∙ ap Some (mod-eq_of_lt small)
