-- What each definition says of a list from a place on: the element there, and the rest. The code needs none of this.
use Rattle.std.proofs.Common.{◌≡◌, ℕ, ◌+◌, ◌-◌, ◌*◌, ◌<◌, true, false, List, ◌++◌, length, get_or, drop, sym, refl, ap, ◌∙◌, arith, eq-eqb, ne_eqb}
use Rattle.std.proofs.lemmas.List.{drop_more}
use Rattle.std.specs.Char.{is_ascii_digit}
use Rattle.std.specs.Str.{all_ascii_digits}
use Rattle.model.specs.Counting.{among}
use Rattle.model.specs.Grouping.{Groups}
use Rattle.listing.specs.Text.{place, value_after}
use Rattle.listing.specs.Sentences.{shared_sentence}
use Rattle.listing.specs.Description.{shared_with, all_shared, new_code, new_codes}

pub shared_with_here : (g : Groups) (spread code : ℕ) (others : List ℕ) (i : ℕ) → i < length others
    → shared_with g spread code (drop i others) ≡ shared_sentence g spread code (get_or others i 0) ++ shared_with g spread code (drop (i + 1) others)
shared_with_here g spread code others i h = ap (shared_with g spread code) (drop_more others i 0 h)

pub all_shared_here : (g : Groups) (spread : ℕ) (codes : List ℕ) (i : ℕ) → i < length codes
    → all_shared g spread (drop i codes) ≡ shared_with g spread (get_or codes i 0) (drop (i + 1) codes) ++ all_shared g spread (drop (i + 1) codes)
all_shared_here g spread codes i h = ap (all_shared g spread) (drop_more codes i 0 h)

pub among_here : (codes : List ℕ) (code i : ℕ) → i < length codes → get_or codes i 0 ≡ code → among (drop i codes) code ≡ true
among_here codes code i h e = ap (λ xs. among xs code) (drop_more codes i 0 h) ∙ rw (eq-eqb code (get_or codes i 0) (sym e)) refl

pub among_later : (codes : List ℕ) (code i : ℕ) → i < length codes → (get_or codes i 0 ≡ code → ⊥) → among (drop i codes) code ≡ among (drop (i + 1) codes) code
among_later codes code i h ne = ap (λ xs. among xs code) (drop_more codes i 0 h) ∙ rw (ne_eqb code (get_or codes i 0) (λ e. ne (sym e))) refl

pub new_codes_here : (seen codes : List ℕ) (i : ℕ) → i < length codes
    → new_codes seen (drop i codes) ≡ new_code seen (get_or codes i 0) ++ new_codes (seen ++ new_code seen (get_or codes i 0)) (drop (i + 1) codes)
new_codes_here seen codes i h = ap (new_codes seen) (drop_more codes i 0 h)

pub place_here : (byte : ℕ) (xs : List ℕ) (i : ℕ) → i < length xs → get_or xs i 0 ≡ byte → place byte (drop i xs) ≡ 0
place_here byte xs i h e = ap (place byte) (drop_more xs i 0 h) ∙ rw (eq-eqb (get_or xs i 0) byte e) refl

pub place_later : (byte : ℕ) (xs : List ℕ) (i : ℕ) → i < length xs → (get_or xs i 0 ≡ byte → ⊥) → place byte (drop i xs) ≡ place byte (drop (i + 1) xs) + 1
place_later byte xs i h ne = ap (place byte) (drop_more xs i 0 h) ∙ rw (ne_eqb (get_or xs i 0) byte ne) (omega arith)

pub digits_here : (xs : List ℕ) (i : ℕ) → i < length xs → is_ascii_digit (get_or xs i 0) ≡ true → all_ascii_digits (drop i xs) ≡ all_ascii_digits (drop (i + 1) xs)
digits_here xs i h e = ap all_ascii_digits (drop_more xs i 0 h) ∙ rw e refl

pub no_digit_here : (xs : List ℕ) (i : ℕ) → i < length xs → is_ascii_digit (get_or xs i 0) ≡ false → all_ascii_digits (drop i xs) ≡ false
no_digit_here xs i h e = ap all_ascii_digits (drop_more xs i 0 h) ∙ rw e refl

pub value_here : (n : ℕ) (xs : List ℕ) (i : ℕ) → i < length xs → value_after n (drop i xs) ≡ value_after (n * 10 + (get_or xs i 0 - 48)) (drop (i + 1) xs)
value_here n xs i h = ap (value_after n) (drop_more xs i 0 h)
