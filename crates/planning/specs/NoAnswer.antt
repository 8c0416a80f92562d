-- What is said where there is no answer.
use Rattle.std.specs.Prelude.{ℕ, List, ◌++◌, codes}
use Rattle.refusal.specs.Reason.{reason, spelt}
use Rattle.planning.specs.declared.no_answer.NoAnswer.{NoAnswer}
use Rattle.planning.specs.declared.no_answer.NoAnswer.TheVariants.{Usage, Refused, NoMemory}

abbrev pub no_answer_text : NoAnswer → List ℕ
no_answer_text Usage = codes "wrong form"
no_answer_text (Refused refusal) = codes "refusal " ++ spelt (reason refusal)
no_answer_text NoMemory = codes "memory ran out"
