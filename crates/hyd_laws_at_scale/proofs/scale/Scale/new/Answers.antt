use Rattle.std.proofs.Common.{◌^◌, ap, arith}
use Rattle.hyd_laws_at_scale.proofs.Scales.{same_power, power_at_most, power_from, power_small}
use Rattle.hyd_laws_at_scale.proofs.scale.Scale.new.Goals as goal

pub returns-then-parts-eq0-clause-none : goal.returns-then-parts-eq0-clause-none
returns-then-parts-eq0-clause-none c = λ is.
    let most = power_small is.power is.at_most in
    let some = power_from is.power in
    let e = is.is_power in
    omega (arith, e, most, some, c.then-parts-eq0.either)

pub returns-then-two_to-parts-clause-none : goal.returns-then-two_to-parts-clause-none
returns-then-two_to-parts-clause-none c = λ is.
    let e = is.is_power in
    let same = same_power c.args.parts c.ilog2-power.result is.power e c.ilog2-power.ensures.power_le
    c.ilog2-power.ensures.next_power_gt in
    omega (arith, e, ap (λ k. 2 ^ k) same, c.two_to.ensures, c.if-two_to-parts.true)

pub scale_of-requires : goal.scale_of-requires
scale_of-requires c = power_at_most c.ilog2-power.result c.args.parts c.ilog2-power.ensures.power_le (omega arith)
