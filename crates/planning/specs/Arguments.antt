-- The plan that is asked for by the words of a command line.
use Rattle.std.specs.Prelude.{◌≡◌, ℕ, ◌+◌, ◌*◌, cond, List, [], ◌∷◌, map, length, Some, None, Ok, Err, codes, Option, Result, ◌==◌, slice_index}
use Rattle.std.specs.List.{range_with_len}
use Rattle.std.specs.Str.{bytes_eq}
use Rattle.refusal.specs.declared.Refusal.{Refusal}
use Rattle.groupings.specs.declared.universal.Draw.{Draw}
use Rattle.groupings.specs.Universal.{new_universal}
use Rattle.groupings.specs.Polynomial.{new_polynomial}
use Rattle.listing.specs.Text.{decimal_number}
use Rattle.planning.specs.declared.no_answer.NoAnswer.{NoAnswer}
use Rattle.planning.specs.declared.no_answer.NoAnswer.TheVariants.{Usage, Refused, NoMemory}
use Rattle.planning.specs.declared.arguments.KindNamed.{KindNamed}
use Rattle.planning.specs.declared.arguments.KindNamed.TheVariants.{Stations, Pairs}
use Rattle.planning.specs.declared.arguments.RuleNamed.{RuleNamed}
use Rattle.planning.specs.declared.arguments.RuleNamed.TheVariants.{Draws, Digits}
use Rattle.planning.specs.declared.arguments.Chosen.{Chosen}
use Rattle.planning.specs.declared.arguments.Chosen.TheVariants.{ByDraws, ByDigits}

abbrev pub kind_named : List ℕ → Option KindNamed
kind_named word = cond (bytes_eq word (codes "stations")) (Some Stations) (cond (bytes_eq word (codes "pairs")) (Some Pairs) None)

abbrev pub rule_named : List ℕ → Option RuleNamed
rule_named word = cond (bytes_eq word (codes "universal")) (Some Draws) (cond (bytes_eq word (codes "polynomial")) (Some Digits) None)

abbrev pub before : Option ℕ → Option (List ℕ) → Option (List ℕ)
before None ns = None
before (Some n) None = None
before (Some n) (Some ns) = Some (n ∷ ns)

-- the numbers that words write, if each writes one
abbrev pub numbers_from : List (List ℕ) → Option (List ℕ)
numbers_from [] = Some []
numbers_from (word ∷ words) = before (decimal_number word) (numbers_from words)

-- reading numbers answers what the words write, or that memory ran out
abbrev pub Reads : {V : Type 0} → (V → List ℕ) → Result V NoAnswer → List (List ℕ) → Type 0
Reads items (Ok numbers) words = numbers_from words ≡ Some (items numbers)
Reads items (Err Usage) words = numbers_from words ≡ None
Reads items (Err (Refused refusal)) words = ⊥
Reads items (Err NoMemory) words = Unit {0}

-- two drawn numbers for each of 16 rows, after the rows and the width; 0 where there are none
unfoldable pub drawn_from : List ℕ → List Draw
drawn_from numbers = map (λ row. record { a = slice_index numbers (2 * row + 2); b = slice_index numbers (2 * row + 3) }) (range_with_len 0 16)

-- a grouping that was made or refused, as one that was asked for
abbrev pub chosen_by : {G : Type 0} → (G → Chosen) → Result G Refusal → Result Chosen NoAnswer
chosen_by by (Ok grouping) = Ok (by grouping)
chosen_by by (Err refusal) = Err (Refused refusal)

-- rows, width, and as many pairs of drawn numbers as rows
unfoldable pub universal_from : List ℕ → Result Chosen NoAnswer
universal_from numbers =
    cond (length numbers == 2 * slice_index numbers 0 + 2) (chosen_by ByDraws (new_universal (slice_index numbers 0) (slice_index numbers 1) (drawn_from numbers))) (Err Usage)

-- rows, width and span
unfoldable pub polynomial_from : List ℕ → Result Chosen NoAnswer
polynomial_from numbers =
    cond (length numbers == 3) (chosen_by ByDigits (new_polynomial (slice_index numbers 0) (slice_index numbers 1) (slice_index numbers 2))) (Err Usage)

abbrev pub chosen_from : Option RuleNamed → Option (List ℕ) → Result Chosen NoAnswer
chosen_from None numbers = Err Usage
chosen_from (Some rule) None = Err Usage
chosen_from (Some Draws) (Some numbers) = universal_from numbers
chosen_from (Some Digits) (Some numbers) = polynomial_from numbers
