-- What the words of a command line say, one by one. The code needs none of this.
use Rattle.std.proofs.Common.{◌≡◌, ℕ, ◌+◌, ◌-◌, ◌<◌, ◌≤◌, Bool, true, cond, List, [], ◌∷◌, ◌++◌, map, length, get_or, take, drop, Some, None, Err, Option, sym, ap, ◌∙◌, ap₂, arith}
use Rattle.std.proofs.lemmas.List.{get_or-map, drop-map, take_rest}
use Rattle.listing.specs.Text.{decimal_number}
use Rattle.planning.specs.Arguments.{before, kind_named, rule_named, numbers_from, chosen_from}
use Rattle.planning.specs.Command.{answer_of, answer_to}
use Rattle.planning.specs.declared.no_answer.NoAnswer.TheVariants.{Usage}
use Rattle.planning.specs.declared.arguments.KindNamed.{KindNamed}
use Rattle.planning.specs.declared.arguments.RuleNamed.{RuleNamed}
use Rattle.planning.proofs.Numbers.{joined, joined_more, words_here}

pub number_here : {X : Type 0} (bytes : X → List ℕ) (words : List X) (i : ℕ) (word : X) (ns ns' : List ℕ) (n : ℕ) (r : Bool) → i < length words → word ≡ get_or words i word
    → Some n ≡ decimal_number (bytes word) → r ≡ true → ns' ≡ cond r (ns ++ (n ∷ [])) ns
    → joined ns (numbers_from (map bytes (drop i words))) ≡ numbers_from (map bytes words)
    → joined ns' (numbers_from (map bytes (drop (i + 1) words))) ≡ numbers_from (map bytes words)
number_here bytes words i word ns ns' n r h e d ok p whole =
    ap (λ xs. joined xs (numbers_from (map bytes (drop (i + 1) words)))) (p ∙ ap (λ b. cond b (ns ++ (n ∷ [])) ns) ok)
    ∙ joined_more ns n (numbers_from (map bytes (drop (i + 1) words)))
    ∙ ap (λ o. joined ns (before o (numbers_from (map bytes (drop (i + 1) words))))) d
    ∙ ap (joined ns) (sym (words_here bytes words i word h e))
    ∙ whole

pub no_number_here : {X : Type 0} (bytes : X → List ℕ) (words : List X) (i : ℕ) (word : X) (ns : List ℕ) → i < length words → word ≡ get_or words i word
    → None ≡ decimal_number (bytes word)
    → joined ns (numbers_from (map bytes (drop i words))) ≡ numbers_from (map bytes words)
    → numbers_from (map bytes words) ≡ None
no_number_here bytes words i word ns h e d whole =
    sym whole ∙ ap (joined ns) (words_here bytes words i word h e ∙ ap (λ o. before o (numbers_from (map bytes (drop (i + 1) words)))) (sym d))

module _ {X : Type 0} (bytes : X → List ℕ) where
  pub word_at : (words : List X) (i : ℕ) (word : X) → i < length words → word ≡ get_or words i word → get_or (map bytes words) i [] ≡ bytes word
  word_at words i word h e = get_or-map bytes words i word [] h ∙ ap bytes (sym e)

  pub told_without_kind : (words : List X) (input : List ℕ) (first : X) → 2 ≤ length words → first ≡ get_or words 0 first → None ≡ kind_named (bytes first)
      → answer_to (map bytes words) input ≡ Err Usage
  told_without_kind words input first two e k =
      ap (λ kind. answer_of kind (chosen_from (rule_named (get_or (map bytes words) 1 [])) (numbers_from (drop 2 (map bytes words)))) input)
      (ap kind_named (word_at words 0 first (omega arith) e) ∙ sym k)

  -- from the first word, the second, and the rest
  pub told_by_words : (words : List X) (input : List ℕ) (first second : X) (kind : Option KindNamed) (rule : Option RuleNamed) (numbers : Option (List ℕ))
      → 2 ≤ length words → first ≡ get_or words 0 first → second ≡ get_or words 1 second
      → kind ≡ kind_named (bytes first) → rule ≡ rule_named (bytes second) → numbers_from (map bytes (take (length words - 2) (drop 2 words))) ≡ numbers
      → answer_to (map bytes words) input ≡ answer_of kind (chosen_from rule numbers) input
  told_by_words words input first second kind rule numbers two e₀ e₁ k r n =
      ap₂ (λ a b. answer_of a b input)
      (ap kind_named (word_at words 0 first (omega arith) e₀) ∙ sym k)
      (ap₂ chosen_from (ap rule_named (word_at words 1 second (omega arith) e₁) ∙ sym r)
      (ap numbers_from (drop-map bytes 2 words ∙ ap (map bytes) (sym (take_rest words 2))) ∙ n))
