-- What a plan and a board mean, and how a plan is made.
use Rattle.std.specs.Prelude.{ℕ, List, None, Result, nat_le}
use Rattle.refusal.specs.declared.Refusal.{Refusal}
use Rattle.refusal.specs.declared.Refusal.TheVariants.{SpanBelowCodes}
use Rattle.refusal.specs.Checks.{check}
use Rattle.model.specs.Kind.{Kind}
use Rattle.model.specs.Grouping.{Groups}
use Rattle.model.specs.Plan.{plan_of}
use Rattle.model.specs.Board.{Board, unless}
use Rattle.board.specs.declared.Head.{Head}
use Rattle.board.specs.declared.Plan.{Plan}

module _ {K G : Type 0} (kind : Kind K) where
  -- the plan that a plan's fields mean, by what its grouping means
  abbrev pub meant : (G → Groups) → Plan K G → Rattle.model.specs.Plan.Plan K
  meant groups plan = plan_of plan.number kind (groups plan.grouping)

-- the plan with this number and grouping, for a kind with so many codes, or the refusal that the grouping's span is below them
abbrev pub new_plan : {K G : Type 0} → (codes span number : ℕ) → G → Result (Plan K G) Refusal
new_plan codes span number grouping =
    unless (check (nat_le codes span) SpanBelowCodes None) (record { number = number; grouping = grouping; kind = record {} })

-- a head with its cells
abbrev pub held : Head → List ℕ → Board
held head cells = record { plan = head.plan; total = head.total; cells = cells }
