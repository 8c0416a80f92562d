-- What a list built step by step holds.
use Rattle.std.proofs.Common.{◌≡◌, ℕ, zero, suc, ◌<◌, Bool, true, false, cond, eqb, List, [], ◌∷◌, ◌++◌, length, get_or, Some, None, Option, sym, refl, ◌∙◌, ⊎_elim, arith}
use Rattle.std.proofs.lemmas.List.{length_push, get_or_push, get_or_append_left}
use Rattle.std.proofs.lemmas.Bool.{eq-eqb, eqb-true, cases_eq, or_left, or_right, or_cases, both_ways}
use Rattle.model.specs.Counting.{among, steps_below}
use Rattle.model.specs.Report.{with_code}

-- ---- steps

pub steps_keep : {A : Type 0} (Q : A → Type 0) (n : ℕ) (f : A → ℕ → A) (a : A) → ((b : A) (i : ℕ) → i < n → Q b → Q (f b i)) → Q a → Q (steps_below n f a)
unfolding steps_below
steps_keep Q zero f a h q = q
steps_keep Q (suc n) f a h q = h (steps_below n f a) n (omega arith) (steps_keep Q n f a (λ b i l. h b i (omega arith)) q)

pub steps_reach : {A : Type 0} (Q : A → Type 0) (n : ℕ) (f : A → ℕ → A) (a : A) (j : ℕ) → j < n → ((b : A) → Q (f b j)) → ((b : A) (i : ℕ) → Q b → Q (f b i)) → Q (steps_below n f a)
unfolding steps_below
steps_reach Q zero f a j l here on = absurd (omega arith)
steps_reach Q (suc n) f a j l here on =
    ⊎_elim
    (λ (e : n ≡ j). rw e (here (steps_below j f a)))
    (λ (d : n ≡ j → ⊥). on (steps_below n f a) n (steps_reach Q n f a j (omega arith) here on))
    (cases_eq n j)

-- ---- members

pub among_has : (xs : List ℕ) (c : ℕ) → among xs c ≡ true → (i : ℕ) × (i < length xs) × (get_or xs i 0 ≡ c)
among_has [] c h = absurd (let w : ◌≡◌ {A = ℕ} 0 1 = cc in omega arith)
among_has (x ∷ xs) c h =
    ⊎_elim
    (λ (e : eqb c x ≡ true). (0, (omega arith), sym (eqb-true c x e)))
    (λ (e : among xs c ≡ true). let m = among_has xs c e in (suc m.0, (omega arith), m.2))
    (or_cases (eqb c x) (among xs c) h)

pub listed_among : (xs : List ℕ) (i : ℕ) → i < length xs → among xs (get_or xs i 0) ≡ true
listed_among [] i l = absurd (omega arith)
listed_among (x ∷ xs) zero l = or_left _ _ (eq-eqb x x refl)
listed_among (x ∷ xs) (suc i) l = or_right _ _ (listed_among xs i (omega arith))

pub among_push : (xs : List ℕ) (c : ℕ) → among (xs ++ c ∷ []) c ≡ true
among_push [] c = or_left _ _ (eq-eqb c c refl)
among_push (x ∷ xs) c = or_right _ _ (among_push xs c)

pub among_stays : (xs : List ℕ) (c d : ℕ) → among xs c ≡ true → among (xs ++ d ∷ []) c ≡ true
among_stays [] c d h = absurd (let w : ◌≡◌ {A = ℕ} 0 1 = cc in omega arith)
among_stays (x ∷ xs) c d h =
    ⊎_elim (λ (e : eqb c x ≡ true). or_left _ _ e) (λ (e : among xs c ≡ true). or_right _ _ (among_stays xs c d e)) (or_cases (eqb c x) (among xs c) h)

-- ---- one step of a list

pub with_code_has : (out : List ℕ) (c : ℕ) → among (with_code out (Some c)) c ≡ true
with_code_has out c = go (among out c) refl
  where
    go : (b : Bool) → among out c ≡ b → among (cond b out (out ++ c ∷ [])) c ≡ true
    go true e = e
    go false e = among_push out c

pub with_code_keeps : (out : List ℕ) (o : Option ℕ) (c : ℕ) → among out c ≡ true → among (with_code out o) c ≡ true
with_code_keeps out None c h = h
with_code_keeps out (Some d) c h = go (among out d)
  where
    go : (b : Bool) → among (cond b out (out ++ d ∷ [])) c ≡ true
    go true = h
    go false = among_stays out c d h

-- each place holds one with Q, and no two places the same
pub record SoundList (Q : ℕ → Type 0) (out : List ℕ) : Type 0 where
  pub each : (i : ℕ) → i < length out → Q (get_or out i 0)
  pub once : (i j : ℕ) → i < j → j < length out → get_or out i 0 ≡ get_or out j 0 → ⊥

pub sound_empty : (Q : ℕ → Type 0) → SoundList Q []
sound_empty Q = record { each = λ i l. absurd (omega arith); once = λ i j l m e. absurd (omega arith) }

sound_push : (Q : ℕ → Type 0) (out : List ℕ) (c : ℕ) → Q c → among out c ≡ false → SoundList Q out → SoundList Q (out ++ c ∷ [])
sound_push Q out c q new h =
    record {
      each = λ i l. ⊎_elim
          (λ (e : i ≡ length out). rw (e, get_or_push out c 0 (length out) refl) q)
          (λ (d : i ≡ length out → ⊥). let s : i < length out = omega (arith, length_push out c) in rw (get_or_append_left out (c ∷ []) 0 i s) (h.each i s))
          (cases_eq i (length out));
      once = λ i j l m e.
          let a : i < length out = omega (arith, length_push out c) in
          ⊎_elim
          (λ (s : j ≡ length out).
          let z : get_or out i 0 ≡ c = sym (get_or_append_left out (c ∷ []) 0 i a) ∙ e ∙ get_or_push out c 0 j (sym s) in
          both_ways (among out c) new (rw z at (listed_among out i a)))
          (λ (d : j ≡ length out → ⊥).
          let b : j < length out = omega (arith, length_push out c) in
          h.once i j l b (sym (get_or_append_left out (c ∷ []) 0 i a) ∙ e ∙ get_or_append_left out (c ∷ []) 0 j b))
          (cases_eq j (length out));
    }

pub sound_with_code : (Q : ℕ → Type 0) (out : List ℕ) (o : Option ℕ) → ((c : ℕ) → o ≡ Some c → Q c) → SoundList Q out → SoundList Q (with_code out o)
sound_with_code Q out None q h = h
sound_with_code Q out (Some c) q h = go (among out c) refl
  where
    go : (b : Bool) → among out c ≡ b → SoundList Q (cond b out (out ++ c ∷ []))
    go true e = h
    go false e = sound_push Q out c (q c refl) e h
