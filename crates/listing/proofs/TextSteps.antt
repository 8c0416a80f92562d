-- Steps of the loops over a text.
use Rattle.std.proofs.Common.{◌≡◌, ℕ, suc, ◌+◌, ◌-◌, ◌*◌, ◌<◌, ◌≤◌, min, Bool, true, false, not, cond, ◌==◌, List, [], ◌∷◌, ◌++◌, length, take, drop, Some, None, sym, ap, ◌∙◌, ap₂, append_assoc, append-nil, le_trans, arith}
use Rattle.std.proofs.lemmas.Grind.{common_steps}
use native.Mathlib.Decide.{dec_lt}
use Rattle.std.proofs.lemmas.List.{take_all, take_rest, drop_all, length-append}
use Rattle.std.specs.List.{position}
use Rattle.listing.specs.Text.{place, value_after, lines_from, lines}

-- what the place of a byte is where it was found, and where it was not
pub place_found : (byte : ℕ) (xs : List ℕ) (at : ℕ) → position (λ b. b == byte) xs ≡ Some at → (at ≡ place byte xs) × (at < length xs)
place_found byte xs at e = (grind (arith, common_steps), grind (arith, common_steps))

pub place_missing : (byte : ℕ) (xs : List ℕ) → position (λ b. b == byte) xs ≡ None → length xs ≤ place byte xs
place_missing byte xs e = grind (arith, common_steps)

-- digits only add to a number
pub value_grows : (n : ℕ) (xs : List ℕ) → n ≤ value_after n xs
value_grows n [] = omega arith
value_grows n (b ∷ bs) = le_trans (omega arith) (value_grows (n * 10 + (b - 48)) bs)

-- a number may be cut to a limit before more digits are read
pub limit_early : (n limit : ℕ) (xs : List ℕ) → min (value_after (min n limit) xs) limit ≡ min (value_after n xs) limit
limit_early n limit xs =
    elim (dec_lt limit n) [
      | yes h ↦ omega (arith, value_grows (min n limit) xs, value_grows n xs)
      | no h ↦ (let same : min n limit ≡ n = omega arith in ap (λ m. min (value_after m xs) limit) same)
    ]

-- the first line of a text, and the lines after it
first_line : (text line : List ℕ) → 0 < length text + length line → lines_from text line ≡ (line ++ take (place 10 text) text) ∷ lines (drop (place 10 text + 1) text)
first_line [] [] h = absurd (omega arith)
first_line [] (b ∷ line) h = ap (λ l. l ∷ []) (sym (append-nil (b ∷ line)))
first_line (b ∷ text) line h = go (b == 10) (first_line text (line ++ (b ∷ [])) (omega (arith, length-append line (b ∷ []))))
  where
    go : (v : Bool) → lines_from text (line ++ (b ∷ [])) ≡ ((line ++ (b ∷ [])) ++ take (place 10 text) text) ∷ lines (drop (place 10 text + 1) text)
        → cond v (line ∷ lines text) (lines_from text (line ++ (b ∷ []))) ≡ (line ++ take (cond (not v) (1 + place 10 text) 0) (b ∷ text)) ∷ lines (drop (cond (not v) (1 + place 10 text) 0 + 1) (b ∷ text))
    go true ih = ap (λ l. l ∷ lines text) (sym (append-nil line))
    go false ih =
        let one : 1 + place 10 text ≡ suc (place 10 text) = omega arith in
        let two : suc (place 10 text) + 1 ≡ suc (place 10 text + 1) = omega arith in
        ih ∙ rw (one, two) (ap (λ l. l ∷ lines (drop (place 10 text + 1) text)) (append_assoc line (b ∷ []) (take (place 10 text) text)))

pub line_fed : (text : List ℕ) (at : ℕ) → position (λ b. b == 10) text ≡ Some at
    → lines text ≡ take at text ∷ lines (take (length text - (at + 1)) (drop (at + 1) text))
line_fed text at e =
    let found = place_found 10 text at e in
    rw (take_rest text (at + 1)) (rw found.0 (first_line text [] (omega (arith, found.1))))

pub line_unfed : (text : List ℕ) → 0 < length text → position (λ b. b == 10) text ≡ None → lines text ≡ text ∷ []
line_unfed text some e =
    let past = place_missing 10 text e in
    first_line text [] (omega arith)
    ∙ ap₂ (λ line rest. line ∷ lines rest) (take_all (place 10 text) text past) (drop_all (place 10 text + 1) text (omega (arith, past)))
