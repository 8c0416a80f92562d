-- The two ways to put a number in.
use Rattle.std.specs.Prelude.{ℕ}
use Rattle.model.specs.Words.{add, take_off}
use Rattle.board.specs.declared.sign.Sign.{Sign}
use Rattle.board.specs.declared.sign.Sign.TheVariants.{Plus, Minus}

abbrev pub put_in : Sign → ℕ → ℕ → ℕ
put_in Plus = add
put_in Minus = take_off
