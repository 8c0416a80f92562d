-- The leader of a list.
use Rattle.std.specs.Prelude.{ℕ, cond, List, [], ◌∷◌, ℤ, Some, None, Option, Result, int_lt}
use Rattle.refusal.specs.declared.Refusal.{Refusal}
use Rattle.model.specs.Plan.{Plan}
use Rattle.model.specs.Board.{Board, unless, board_refusal, estimated}

module _ {K : Type 0} (P : Plan K) (cells : List ℕ) where
  abbrev pub estimate_of : K → ℤ
  estimate_of key = estimated P cells (P.kind.code key)

  -- which of two leads: the first, unless the second has a greater estimate
  abbrev pub ahead : Option K → Option K → Option K
  ahead None second = second
  ahead (Some key) None = Some key
  ahead (Some key) (Some other) = cond (int_lt (estimate_of key) (estimate_of other)) (Some other) (Some key)

  -- the listed key with the greatest estimate, the first among equals; a place that is no key's code lists nothing
  abbrev pub leading : List ℕ → Option K
  leading [] = None
  leading (code ∷ list) = ahead (P.kind.key code) (leading list)

abbrev pub leader_outcome : {K : Type 0} → Plan K → Board → List ℕ → Result (Option K) Refusal
leader_outcome P b list = unless (board_refusal P b None) (leading P b.cells list)
