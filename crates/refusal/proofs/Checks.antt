-- Checks that were passed.
use Rattle.std.proofs.Common.{◌≡◌, Bool, true, false, Some, None, Option, refl}
use borrow.Author.Tests.{clash}
use Rattle.refusal.specs.Checks.{check, accepted}
use Rattle.refusal.specs.declared.Refusal.{Refusal}

-- where nothing is refused, a check was passed, and so were those after it
pub check_passed : (b : Bool) (refusal : Refusal) (others : Option Refusal) → accepted (check b refusal others) ≡ true → (b ≡ true) × (accepted others ≡ true)
check_passed true refusal others h = (refl, h)
check_passed false refusal others h = absurd (clash h)

pub none_from_accepted : (refused : Option Refusal) → accepted refused ≡ true → refused ≡ None
none_from_accepted None h = refl
none_from_accepted (Some refusal) h = absurd (clash h)
