-- Which parameters a universal grouping may have.
use Rattle.std.specs.Prelude.{ℕ, Bool, ◌&&◌, List, take, None, Option, nat_le, nat_lt}
use Rattle.std.specs.List.{list_all}
use Rattle.model.specs.Universal.{prime}
use Rattle.refusal.specs.Checks.{check, accepted}
use Rattle.refusal.specs.declared.Refusal.{Refusal}
use Rattle.refusal.specs.declared.Refusal.TheVariants.{RowsOutOfRange, WidthNotAllowed, DrawnNumberTooLarge}
use Rattle.groupings.specs.Rows.{rows_fit}
use Rattle.groupings.specs.declared.universal.Draw.{Draw}

-- every drawn number is below the prime
abbrev pub drawn_fit : List Draw → Bool
drawn_fit drawn = list_all (λ (draw : Draw). nat_lt draw.a prime && nat_lt draw.b prime) drawn

-- the first refusal that applies; only the drawn numbers of used rows are looked at
abbrev pub universal_refusal : ℕ → ℕ → List Draw → Option Refusal
universal_refusal rows width drawn =
    check (rows_fit rows) RowsOutOfRange
    (check (nat_le 1 width && nat_le width 4096) WidthNotAllowed
    (check (drawn_fit (take rows drawn)) DrawnNumberTooLarge
    None))

abbrev pub universal_fit : ℕ → ℕ → List Draw → Bool
universal_fit rows width drawn = accepted (universal_refusal rows width drawn)
