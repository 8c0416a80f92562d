-- Each code once: the same codes, and none twice.
use Rattle.std.proofs.Common.{◌≡◌, ℕ, Bool, true, false, cond, not, ◌&&◌, ◌||◌, ◌==◌, eqb, ◌+◌, ◌<◌, List, [], ◌∷◌, ◌++◌, length, get_or, drop, sym, refl, ap, ◌∙◌, ap₂, append_assoc, append-nil, eq-eqb, eqb-true}
use Rattle.std.proofs.Math.Bool.{or_assoc, or-false, or-true, and-true, and-false}
use Rattle.std.specs.List.{list_any}
use Rattle.std.proofs.lemmas.Cmp.{nat_eq_equiv}
use Rattle.std.proofs.lemmas.List.{drop_more}
use Rattle.model.specs.Counting.{among}
use Rattle.listing.specs.Description.{new_code, new_codes, distinct, NoneTwice, EachOnce}

among_append : (xs ys : List ℕ) (c : ℕ) → among (xs ++ ys) c ≡ (among xs c || among ys c)
among_append [] ys c = refl
among_append (x ∷ xs) ys c = ap (λ b. eqb c x || b) (among_append xs ys c) ∙ sym (or_assoc (eqb c x) (among xs c) (among ys c))

-- whether c is the code x that is added
added : (x c : ℕ) (seen : Bool) → among (cond seen [] (x ∷ [])) c ≡ (not seen && eqb c x)
added x c true = refl
added x c false = or-false (eqb c x)

-- s: x has been seen; e: c is x; a: c stands after x; m: c has been seen
one_more : (s e a m : Bool) → (e ≡ true → m ≡ s) → ((not s && e) || (a && not (m || (not s && e)))) ≡ ((e || a) && not m)
one_more true true a m h = rw (h refl) (and-false a)
one_more false true a m h = rw (h refl) refl
one_more true false a m h = ap (λ b. a && not b) (or-false m)
one_more false false a m h = ap (λ b. a && not b) (or-false m)

-- a code is new where it stands in the list and has not been seen
among_new : (seen xs : List ℕ) (c : ℕ) → among (new_codes seen xs) c ≡ (among xs c && not (among seen c))
among_new seen [] c = refl
among_new seen (x ∷ xs) c =
    among_append (new_code seen x) (new_codes (seen ++ new_code seen x) xs) c
    ∙ ap (λ b. among (new_code seen x) c || b) (among_new (seen ++ new_code seen x) xs c ∙ ap (λ b. among xs c && not b) (among_append seen (new_code seen x) c))
    ∙ ap (λ b. b || (among xs c && not (among seen c || b))) (added x c (among seen x))
    ∙ one_more (among seen x) (eqb c x) (among xs c) (among seen c) (λ e. ap (among seen) (eqb-true c x e))

none_new_twice : (seen xs : List ℕ) → NoneTwice (new_codes seen xs)
none_new_twice seen [] = tt
none_new_twice seen (x ∷ xs) = go (among seen x) (none_new_twice (seen ++ []) xs) (none_new_twice (seen ++ (x ∷ [])) xs)
  where
    seen_now : among (seen ++ (x ∷ [])) x ≡ true
    seen_now = among_append seen (x ∷ []) x ∙ ap (λ b. among seen x || (b || false)) (eq-eqb x x refl) ∙ or-true (among seen x)

    not_again : among (new_codes (seen ++ (x ∷ [])) xs) x ≡ false
    not_again = among_new (seen ++ (x ∷ [])) xs x ∙ ap (λ b. among xs x && not b) seen_now ∙ and-false (among xs x)

    go : (s : Bool) → NoneTwice (new_codes (seen ++ []) xs) → NoneTwice (new_codes (seen ++ (x ∷ [])) xs)
        → NoneTwice (cond s [] (x ∷ []) ++ new_codes (seen ++ cond s [] (x ∷ [])) xs)
    go true old new = old
    go false old new = (not_again, new)

pub distinct_each_once : (codes : List ℕ) → EachOnce codes (distinct codes)
distinct_each_once codes =
    record {
      same_codes = λ code. among_new [] codes code ∙ and-true (among codes code);
      none_twice = none_new_twice [] codes;
    }

pub among_any : (codes : List ℕ) (code : ℕ) → list_any (λ c. c == code) codes ≡ among codes code
among_any [] code = refl
among_any (c ∷ codes) code = ap₂ (λ here later. here || later) (nat_eq_equiv.symm c code) (among_any codes code)

-- one code more, unless it has been seen
pub one_code_more : (seen after codes : List ℕ) (i : ℕ) → i < length codes
    → after ≡ cond (list_any (λ c. c == get_or codes i 0) seen) seen (seen ++ (get_or codes i 0 ∷ []))
    → after ++ new_codes after (drop (i + 1) codes) ≡ seen ++ new_codes seen (drop i codes)
one_code_more seen after codes i h e =
    ap (λ l. l ++ new_codes l (drop (i + 1) codes)) (e ∙ go (among seen (get_or codes i 0)) (among_any seen (get_or codes i 0)))
    ∙ append_assoc seen (new_code seen (get_or codes i 0)) _
    ∙ ap (λ l. seen ++ l) (sym (ap (new_codes seen) (drop_more codes i 0 h)))
  where
    go : (v : Bool) → list_any (λ c. c == get_or codes i 0) seen ≡ v
        → cond (list_any (λ c. c == get_or codes i 0) seen) seen (seen ++ (get_or codes i 0 ∷ [])) ≡ seen ++ cond v [] (get_or codes i 0 ∷ [])
    go true any = rw any (sym (append-nil seen))
    go false any = rw any refl
