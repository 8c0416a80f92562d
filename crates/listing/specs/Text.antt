-- Places of bytes, decimal numbers and lines in a text.
use Rattle.std.specs.Prelude.{ℕ, ◌+◌, ◌-◌, ◌*◌, ◌^◌, min, cond, ◌&&◌, List, [], ◌∷◌, ◌++◌, length, Some, None, Option, ◌==◌, nat_lt}
use Rattle.std.specs.List.{position_or_len}
use Rattle.std.specs.Str.{all_ascii_digits}

-- the place of the first such byte, or the length where there is none
abbrev pub place : ℕ → List ℕ → ℕ
place byte text = position_or_len (λ b. b == byte) text

-- the number that digits write after those of n
abbrev pub value_after : ℕ → List ℕ → ℕ
value_after n [] = n
value_after n (b ∷ bs) = value_after (n * 10 + (b - 48)) bs

-- the number that one or more decimal digits write; the greatest number of 32 bits stands for any above it, as every limit
-- on a number lies below that
abbrev pub decimal_number : List ℕ → Option ℕ
decimal_number text = cond (nat_lt 0 (length text) && all_ascii_digits text) (Some (min (value_after 0 text) (2 ^ 32 - 1))) None

-- the lines of a text, the first of which goes on from `line`: a line ends before a line feed, and what follows the last
-- line feed is a line only if it is not empty
abbrev pub lines_from : List ℕ → List ℕ → List (List ℕ)
lines_from [] [] = []
lines_from [] (b ∷ line) = (b ∷ line) ∷ []
lines_from (b ∷ text) line = cond (b == 10) (line ∷ lines_from text []) (lines_from text (line ++ (b ∷ [])))

abbrev pub lines : List ℕ → List (List ℕ)
lines text = lines_from text []
