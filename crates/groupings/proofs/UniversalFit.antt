-- A universal grouping is the one that its parameters make.
use Rattle.std.proofs.Common.{◌≡◌, true, Some, None, Ok, Option, refl, ap}
use mathlib.Core.Bool.{Bool-set}
use borrow.Author.Tests.{clash}
use Rattle.refusal.specs.Checks.{accepted}
use Rattle.refusal.specs.declared.Refusal.{Refusal}
use Rattle.groupings.specs.UniversalFit.{universal_refusal, universal_fit}
use Rattle.groupings.specs.Universal.{universal_unless, new_universal}
use Rattle.groupings.specs.declared.universal.Universal.{Universal}

made : (u : Universal) (refused : Option Refusal) (e : universal_refusal u.rows u.width u.drawn ≡ refused) → accepted refused ≡ true → universal_unless u.rows u.width u.drawn refused e ≡ Ok u
made u None e h =
    λ i. Ok (record {
      rows = u.rows;
      width = u.width;
      drawn = u.drawn;
      fit = Bool-set (universal_fit u.rows u.width u.drawn) true (ap accepted e) u.fit i;
    })
made u (Some refusal) e h = absurd (clash h)

-- a universal grouping is the one that its parameters make
pub new_universal_is : (u : Universal) → new_universal u.rows u.width u.drawn ≡ Ok u
new_universal_is u = made u (universal_refusal u.rows u.width u.drawn) refl u.fit
