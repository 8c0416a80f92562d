use Rattle.std.proofs.Common.{ℕ, ◌*◌, ◌%◌, ◌<◌, ◌≤◌, mod-lt, mul-le-mul_left, arith, rules}
use Rattle.model.proofs.Inverses.{width_at_least_31, width_at_most_4093}
use Rattle.model.proofs.PolynomialTurn.{summed_none, summed_more}
use Rattle.groupings.specs.PolynomialFitLemmas.{fit_parts}
use Rattle.groupings.specs.declared.polynomial.Polynomial.{Polynomial}
use Rattle.groupings.proofs.polynomial.grouping.PolynomialGrouping.group.Goals as goal

width_range : (p : Polynomial) → (31 ≤ p.width) × (p.width ≤ 4093)
width_range p = let allowed = (fit_parts p.rows p.width p.span p.fit).a_width in (width_at_least_31 p.width allowed, width_at_most_4093 p.width allowed)

-- a product of a remainder and a small number
small_product : (p : Polynomial) (rest power : ℕ) → power < p.width → (rest % p.width) * power ≤ 16760836
small_product p rest power h =
    let range = width_range p in
    let low : rest % p.width < p.width = mod-lt rest (omega arith) in
    let first : (rest % p.width) * power ≤ (rest % p.width) * 4094 = mul-le-mul_left (rest % p.width) (omega arith) in
    omega arith

pub loop-place-init : goal.loop-place-init
loop-place-init c = let range = width_range c.args.self.now in (summed_none _ _ _ (omega arith), omega arith, omega arith)

pub overflow_mul-sum : goal.overflow_mul-sum
overflow_mul-sum c = omega (arith, small_product c.args.self.now c.loop-place.rest c.loop-place.power c.loop-place.invariant.2)

pub overflow_add-sum : goal.overflow_add-sum
overflow_add-sum c =
    let range = width_range c.args.self.now in
    omega (arith, small_product c.args.self.now c.loop-place.rest c.loop-place.power c.loop-place.invariant.2)

pub overflow_mul-power : goal.overflow_mul-power
overflow_mul-power c =
    let range = width_range c.args.self.now in
    let used : c.args.row < c.args.self.now.rows = search rules in
    let few = (fit_parts c.args.self.now.rows c.args.self.now.width c.args.self.now.span c.args.self.now.fit).few_rows in
    let product : c.loop-place.power * c.args.row ≤ c.loop-place.power * 16 = mul-le-mul_left c.loop-place.power (omega arith) in
    omega arith

pub loop-place-preserved : goal.loop-place-preserved
loop-place-preserved c =
    let range = width_range c.args.self.now in
    (summed_more _ _ _ _ _ _ _ c.loop-place.invariant.0, mod-lt _ (omega arith), mod-lt _ (omega arith))
