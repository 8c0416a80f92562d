-- What the planner's tool answers to the words of a command line and a text of keys.
use Rattle.std.specs.Prelude.{◌≡◌, ℕ, ◌≤◌, true, cond, ◌≢◌, List, [], drop, Some, None, Ok, Err, Option, Result, nat_lt, slice_index_or}
use Rattle.model.specs.Kind.{Kind}
use Rattle.model.specs.Grouping.{Groups, shared_rows}
use Rattle.model.specs.Counting.{among}
use Rattle.model.specs.Universal.{universal_span}
use Rattle.model.specs.Polynomial.{polynomial_spread}
use Rattle.refusal.specs.declared.Refusal.{Refusal}
use Rattle.refusal.specs.declared.Refusal.TheVariants.{SpanBelowCodes}
use Rattle.keys.specs.Station.{station_kind}
use Rattle.keys.specs.Pair.{pair_kind}
use Rattle.groupings.specs.Universal.{universal_groups}
use Rattle.groupings.specs.Polynomial.{polynomial_groups}
use Rattle.listing.specs.Text.{lines}
use Rattle.listing.specs.Typed.{station_line, pair_line}
use Rattle.listing.specs.Description.{codes_read, description}
use Rattle.planning.specs.Arguments.{kind_named, rule_named, numbers_from, chosen_from}
use Rattle.planning.specs.declared.no_answer.NoAnswer.{NoAnswer}
use Rattle.planning.specs.declared.no_answer.NoAnswer.TheVariants.{Usage, Refused, NoMemory}
use Rattle.planning.specs.declared.arguments.KindNamed.{KindNamed}
use Rattle.planning.specs.declared.arguments.KindNamed.TheVariants.{Stations, Pairs}
use Rattle.planning.specs.declared.arguments.Chosen.{Chosen}
use Rattle.planning.specs.declared.arguments.Chosen.TheVariants.{ByDraws, ByDigits}

-- a call answers what is told, or that memory ran out
abbrev pub Tells : {S : Type 0} → (S → List ℕ) → Result S NoAnswer → Result (List ℕ) NoAnswer → Type 0
Tells bytes (Ok out) told = told ≡ Ok (bytes out)
Tells bytes (Err Usage) told = told ≡ Err Usage
Tells bytes (Err (Refused refusal)) told = told ≡ Err (Refused refusal)
Tells bytes (Err NoMemory) told = Unit {0}

abbrev pub chosen_groups : Chosen → Groups
chosen_groups (ByDraws u) = universal_groups u
chosen_groups (ByDigits p) = polynomial_groups p

abbrev pub chosen_span : Chosen → ℕ
chosen_span (ByDraws u) = universal_span
chosen_span (ByDigits p) = p.span

abbrev pub chosen_spread : Chosen → ℕ
chosen_spread (ByDraws u) = u.rows
chosen_spread (ByDigits p) = polynomial_spread p.rows p.width p.span

module _ {K : Type 0} (kind : Kind K) (typed : ℕ → List ℕ → Result K Refusal) where
  -- a grouping whose span is below the kind's number of codes makes no plan
  abbrev pub answer_by : Groups → (span spread : ℕ) → List ℕ → Result (List ℕ) NoAnswer
  answer_by g span spread input = cond (nat_lt span kind.codes) (Err (Refused SpanBelowCodes)) (Ok (description kind typed g spread input))

  abbrev pub answer_for : Chosen → List ℕ → Result (List ℕ) NoAnswer
  answer_for chosen input = answer_by (chosen_groups chosen) (chosen_span chosen) (chosen_spread chosen) input

  -- where there is an answer, every two different codes of the text share at most as many rows as the spread told beside them
  unfoldable pub RowsSharedWithinSpread : Chosen → List ℕ → Type 0
  RowsSharedWithinSpread chosen input =
      (told : List ℕ) → answer_for chosen input ≡ Ok told → (code other : ℕ)
      → among (codes_read kind typed 1 (lines input)) code ≡ true → among (codes_read kind typed 1 (lines input)) other ≡ true
      → code ≢ other → shared_rows (chosen_groups chosen) code other ≤ chosen_spread chosen

abbrev pub answer_of : Option KindNamed → Result Chosen NoAnswer → List ℕ → Result (List ℕ) NoAnswer
answer_of None grouping input = Err Usage
answer_of (Some Stations) (Ok grouping) input = answer_for station_kind station_line grouping input
answer_of (Some Stations) (Err no_answer) input = Err no_answer
answer_of (Some Pairs) (Ok grouping) input = answer_for pair_kind pair_line grouping input
answer_of (Some Pairs) (Err no_answer) input = Err no_answer

-- a kind of key, a rule, and the rule's numbers
abbrev pub answer_to : List (List ℕ) → List ℕ → Result (List ℕ) NoAnswer
answer_to words input =
    answer_of (kind_named (slice_index_or words 0 [])) (chosen_from (rule_named (slice_index_or words 1 [])) (numbers_from (drop 2 words))) input
