-- Checks in their order: the first that fails gives the refusal.
use Rattle.std.specs.Prelude.{Bool, true, false, cond, Some, None, Option}
use Rattle.refusal.specs.declared.Refusal.{Refusal}

-- one check before others
abbrev pub check : Bool → Refusal → Option Refusal → Option Refusal
check passed refusal others = cond passed others (Some refusal)

-- whether nothing is refused
abbrev pub accepted : Option Refusal → Bool
accepted None = true
accepted (Some refusal) = false
