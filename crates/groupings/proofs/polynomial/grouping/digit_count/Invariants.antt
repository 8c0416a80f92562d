use Rattle.std.proofs.Common.{◌≡◌, ℕ, ◌-◌, ◌^◌, ◌<◌, ◌≤◌}
use Rattle.groupings.proofs.polynomial.grouping.digit_count.Given as goal

-- no smaller number of digits reaches the span
abbrev pub invariant-loop-power : goal.invariant-loop-power
invariant-loop-power l =
    (l.power ≡ l.width ^ l.digits) × (1 ≤ l.digits) × (l.digits < l.power)
    × ((k : ℕ) → 1 ≤ k → k < l.digits → l.width ^ k < l.span)

abbrev pub decreases-loop-power : goal.decreases-loop-power
decreases-loop-power l = l.span - l.power
