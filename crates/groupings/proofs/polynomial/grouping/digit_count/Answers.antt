use Rattle.std.proofs.Common.{◌*◌, ◌^◌, ◌<◌, ◌≤◌, mul-le-mul_left, arith, below_more}
use Rattle.model.proofs.Digits.{power_1, power_more, digit_count_unique}
use Rattle.groupings.proofs.polynomial.grouping.digit_count.Goals as goal

pub loop-power-init : goal.loop-power-init
loop-power-init c = (power_1 c.args.width, omega arith, omega arith, λ k a b. absurd (omega arith))

pub loop-power-smaller : goal.loop-power-smaller
loop-power-smaller c = let g : c.loop-power.power * 2 ≤ c.loop-power.power * c.args.width = mul-le-mul_left c.loop-power.power (omega arith) in omega arith

pub loop-power-preserved : goal.loop-power-preserved
loop-power-preserved c =
    let g : c.loop-power.power * 2 ≤ c.loop-power.power * c.args.width = mul-le-mul_left c.loop-power.power (omega arith) in
    let here : c.args.width ^ c.loop-power.digits < c.args.span = omega arith in (
      power_more c.args.width c.loop-power.digits c.loop-power.power c.loop-power.invariant.0,
      omega arith,
      omega arith,
      λ k a b. below_more (λ j. 1 ≤ j → c.args.width ^ j < c.args.span) c.loop-power.digits
          (λ j l h. c.loop-power.invariant.3 j h l) (λ h. here) k b a,
    )

pub returns : goal.returns
returns c =
    digit_count_unique c.args.width c.args.span c.loop-power.digits (omega arith) (omega arith) (omega arith) (omega arith) c.loop-power.invariant.3
