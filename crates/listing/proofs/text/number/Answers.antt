use Rattle.std.proofs.Common.{◌≡◌, ℕ, ◌+◌, ◌-◌, ◌*◌, ◌^◌, min, get_or, drop, arith}
use Rattle.std.proofs.lemmas.Grind.{common_steps}
use Rattle.listing.proofs.TextSteps.{limit_early}
use Rattle.listing.proofs.text.number.Goals as goal

pub loop-b-preserved : goal.loop-b-preserved
loop-b-preserved c =
    let xs = c.args.text.now in
    let i = c.loop-b.b-index in
    let limit : ℕ = 2 ^ 32 - 1 in
    let more : ℕ = c.loop-b.value * 10 + (get_or xs i 0 - 48) in
    let cut : c.saturating_add-value.result ≡ min more limit = omega (arith, c.saturating_mul.ensures, c.from.ensures, c.saturating_add-value.ensures) in
    record {
      fits = omega (arith, cut);
      digits = grind (arith, common_steps);
      value = grind (arith, common_steps, limit_early more limit (drop (i + 1) xs));
    }
