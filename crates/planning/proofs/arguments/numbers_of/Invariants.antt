use Rattle.std.proofs.Common.{◌≡◌, map, drop, vec_items, string_bytes}
use Rattle.planning.specs.Arguments.{numbers_from}
use Rattle.planning.proofs.Numbers.{joined}
use Rattle.planning.proofs.arguments.numbers_of.Given as goal

-- the numbers so far and those of the words to come make up the whole
abbrev pub invariant-loop-word : goal.invariant-loop-word
invariant-loop-word l = joined (vec_items l.numbers) (numbers_from (map string_bytes (drop l.word-index l.words))) ≡ numbers_from (map string_bytes l.words)
