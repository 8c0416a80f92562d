-- Words and numbers of a command line.
use Rattle.std.proofs.Common.{◌≡◌, ℕ, ◌+◌, ◌<◌, List, [], ◌∷◌, ◌++◌, map, length, get_or, drop, zero, suc, Some, None, Option, sym, refl, ap, ◌∙◌, ap₂, append_assoc, arith, subst}
use Rattle.std.specs.List.{range_with_len}
use Rattle.std.specs.Fn.{Mut, Called}
use Rattle.std.specs.Array.{IsFromFnResult, IsFromFnResultFrom}
use Rattle.std.proofs.lemmas.List.{drop_more, drop_all}
use Rattle.listing.specs.Text.{decimal_number}
use Rattle.planning.specs.Arguments.{before, numbers_from}

-- numbers that were read, before those that are still to come
abbrev pub joined : List ℕ → Option (List ℕ) → Option (List ℕ)
joined ns None = None
joined ns (Some ms) = Some (ns ++ ms)

pub joined_more : (ns : List ℕ) (n : ℕ) (rest : Option (List ℕ)) → joined (ns ++ (n ∷ [])) rest ≡ joined ns (before (Some n) rest)
joined_more ns n None = refl
joined_more ns n (Some ms) = ap Some (append_assoc ns (n ∷ []) ms)

-- one word more
pub words_here : {X : Type 0} (bytes : X → List ℕ) (words : List X) (i : ℕ) (word : X) → i < length words → word ≡ get_or words i word
    → numbers_from (map bytes (drop i words)) ≡ before (decimal_number (bytes word)) (numbers_from (map bytes (drop (i + 1) words)))
words_here bytes words i word h e =
    ap (λ ws. numbers_from (map bytes ws)) (drop_more words i word h)
    ∙ ap (λ w. before (decimal_number (bytes w)) (numbers_from (map bytes (drop (i + 1) words)))) (sym e)

-- with what was read before it
pub one_word_more : {X : Type 0} (bytes : X → List ℕ) (words : List X) (i : ℕ) (word : X) (ns : List ℕ) (n : Option ℕ) → i < length words → word ≡ get_or words i word → n ≡ decimal_number (bytes word)
    → joined ns (numbers_from (map bytes (drop i words))) ≡ joined ns (before n (numbers_from (map bytes (drop (i + 1) words))))
one_word_more bytes words i word ns n h is written =
    ap (joined ns) (words_here bytes words i word h is ∙ ap (λ o. before o (numbers_from (map bytes (drop (i + 1) words)))) (sym written))

-- an array whose elements a closure makes, if each call leaves the closure as it was
made_from_here : {F B : Type 0} (g : Mut F (ℕ × Unit {0}) B) (f : F) (h : ℕ → B) (ys : List B) (top i n : ℕ) → i + n ≡ top → length ys ≡ top
    → ((j : ℕ) (y : B) (q : F) → j < top → Called g f (j, tt) y q → (q ≡ f) × (y ≡ h j))
    → IsFromFnResultFrom g f ys i n → drop i ys ≡ map h (range_with_len i n)
made_from_here g f h ys top i zero e long keeps calls = drop_all i ys (omega arith)
made_from_here g f h ys top i (suc n) e long keeps calls =
    let kept = keeps i calls.1 calls.0 (omega arith) calls.3 in
    drop_more ys i calls.1 (omega arith)
    ∙ ap₂ (λ x xs. x ∷ xs) (calls.2.0 ∙ kept.1)
    (made_from_here g f h ys top (i + 1) n (omega arith) long keeps (subst (λ w. IsFromFnResultFrom g w ys (i + 1) n) kept.0 calls.4))

pub made_from_calls : {F B : Type 0} {g : Mut F (ℕ × Unit {0}) B} {f : F} (h : ℕ → B) (ys : List B) (n : ℕ) → IsFromFnResult g f ys n
    → ((j : ℕ) (y : B) (q : F) → j < n → Called g f (j, tt) y q → (q ≡ f) × (y ≡ h j))
    → ys ≡ map h (range_with_len 0 n)
made_from_calls {g = g} {f = f} h ys n made keeps = made_from_here g f h ys n 0 n (omega arith) made.long keeps made.each
