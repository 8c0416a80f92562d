-- Texts added one after another.
use Rattle.std.proofs.Common.{◌≡◌, ℕ, ◌+◌, ◌-◌, ◌<◌, List, [], ◌∷◌, ◌++◌, map, length, get_or, take, drop, Ok, Err, decimal, Result, refl, ap, ◌∙◌, ap₂, append_assoc, arith}
use Rattle.std.specs.List.{range_with_len}
use Rattle.std.proofs.lemmas.List.{take_all, length-append}
use Rattle.std.proofs.lemmas.List.FromFn.{map-range_with_len_more}
use Rattle.refusal.specs.Reason.{spaced}
use Rattle.refusal.proofs.Spaced.{spaced_push}
use Rattle.model.specs.Grouping.{Groups}
use Rattle.refusal.specs.declared.Refusal.{Refusal}
use Rattle.listing.specs.Text.{lines}
use Rattle.listing.specs.Sentences.{closing_sentence}
use Rattle.model.specs.Kind.{Kind}
use Rattle.listing.specs.Description.{shared_with, all_shared, code_read, one_if_refused, codes_read, lines_refused, lines_said, distinct, description}

-- one group more
pub groups_more : (f : ℕ → ℕ) (row : ℕ) → spaced (map f (range_with_len 0 (row + 1))) ≡ spaced (map f (range_with_len 0 row)) ++ (32 ∷ decimal (f row))
groups_more f row = ap spaced (map-range_with_len_more f 0 row row (omega arith)) ∙ spaced_push (map f (range_with_len 0 row)) (f row)

-- the first code is said beside those after it
pub all_shared_more : (g : Groups) (spread : ℕ) (written codes whole : List ℕ) → 0 < length codes → written ++ all_shared g spread codes ≡ whole
    → (written ++ shared_with g spread (get_or codes 0 0) (take (length codes - 1) (drop 1 codes))) ++ all_shared g spread (take (length codes - 1) (drop 1 codes)) ≡ whole
all_shared_more g spread written [] whole some h = absurd (omega arith)
all_shared_more g spread written (code ∷ others) whole some h =
    let rest : take (length (code ∷ others) - 1) others ≡ others = take_all (length (code ∷ others) - 1) others (omega arith) in
    rw rest (append_assoc written (shared_with g spread code others) (all_shared g spread others) ∙ h)

-- each line has a key or is refused
pub keys_and_refused : {K : Type 0} (kind : Kind K) (typed : ℕ → List ℕ → Result K Refusal) (line : ℕ) (texts : List (List ℕ))
    → length (codes_read kind typed line texts) + lines_refused kind typed line texts ≡ length texts
keys_and_refused kind typed line [] = refl
keys_and_refused kind typed line (text ∷ texts) =
    omega (arith, length-append (code_read kind (typed line text)) (codes_read kind typed (line + 1) texts), one (typed line text), keys_and_refused kind typed (line + 1) texts)
  where
    one : (r : Result _ Refusal) → length (code_read kind r) + one_if_refused r ≡ 1
    one (Ok key) = refl
    one (Err refusal) = refl

-- what was written of the lines, of every two keys, and at the close
pub described : {K : Type 0} (kind : Kind K) (typed : ℕ → List ℕ → Result K Refusal) (g : Groups) (spread : ℕ) (text said compared end : List ℕ) (keys count : ℕ)
    → said ≡ lines_said kind typed g 1 (lines text)
    → compared ≡ said ++ all_shared g spread (distinct (codes_read kind typed 1 (lines text)))
    → keys ≡ length (codes_read kind typed 1 (lines text)) → count ≡ length (lines text)
    → end ≡ compared ++ closing_sentence keys (count - keys)
    → end ≡ description kind typed g spread text
described kind typed g spread text said compared end keys count s c k l e =
    let codes = codes_read kind typed 1 (lines text) in
    let refused : count - keys ≡ lines_refused kind typed 1 (lines text) = omega (arith, k, l, keys_and_refused kind typed 1 (lines text)) in
    e ∙ ap₂ (λ x y. x ++ y) (c ∙ ap (λ x. x ++ all_shared g spread (distinct codes)) s) (ap₂ closing_sentence k refused)
    ∙ append_assoc (lines_said kind typed g 1 (lines text)) (all_shared g spread (distinct codes)) _
