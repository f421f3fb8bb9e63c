use Rattle.std.proofs.Common.{◌*ℤ◌, pos, ℤ, ap, ◌∙◌, arith, to_z, of_z, w64}
use Rattle.std.specs.Int.{w128, int_min}
use Rattle.std.proofs.lemmas.Int.{ints, clamps, to_z-of_z}
use Rattle.hyd_lemmas.proofs.BooleanTests.{le-yes, lt-no, lt-yes, le-no}
use Rattle.hyd_net.specs.Curves.{value_at, volume_at, volume_knots}
use Rattle.hyd_tank.proofs.MixedNumbers.{start_is}
use Rattle.hyd_tank.proofs.TargetVolumes.{risen_always, risen_never, risen_parts, risen_code, most_parts}
use Rattle.hyd_tank.proofs.volume_curve_tanks.risen_target.Goals as goal

pub returns-then-level-tank-clause-meets : goal.returns-then-level-tank-clause-meets
returns-then-level-tank-clause-meets c =
    let tank = c.args.tank.now in
    let low = le-yes (to_z w64 (of_z w64 c.args.level)) (to_z w64 (of_z w64 tank.minimum)) c.if-level-tank.true in
    risen_always tank c.args.points.now c.args.level c.requires.tank (omega (arith, ints, low))

pub returns-then-level-tank-2-clause-meets : goal.returns-then-level-tank-2-clause-meets
returns-then-level-tank-2-clause-meets c =
    let tank = c.args.tank.now in
    let high = lt-yes (to_z w64 (of_z w64 tank.maximum)) (to_z w64 (of_z w64 c.args.level)) c.if-level-tank-2.true in
    risen_never tank c.args.points.now c.args.level c.requires.tank (omega (arith, ints, high))

pub ceiling_of-parts-requires-clause-small : goal.ceiling_of-parts-requires-clause-small
ceiling_of-parts-requires-clause-small c = c.volume_at.ensures.small 864 (omega arith)

pub returns-clause-small : goal.returns-clause-small
returns-clause-small c =
    let k = start_is 864 c.from.result c.in_parts.result c.args.volumes.most c.in_parts.ensures.value c.from.ensures
    (omega arith) (omega (arith, ints)) in
    omega (arith, ints, clamps, c.min.ensures.value, c.ceiling_of-parts.ensures.small, k)

pub returns-clause-meets : goal.returns-clause-meets
returns-clause-meets c =
    let tank = c.args.tank.now in
    let points = c.args.points.now in
    let over = le-no (to_z w64 (of_z w64 c.args.level)) (to_z w64 (of_z w64 tank.minimum)) c.if-level-tank.false in
    let within = lt-no (to_z w64 (of_z w64 tank.maximum)) (to_z w64 (of_z w64 c.args.level)) c.if-level-tank-2.false in
    let v = value_at 1 (volume_knots points) c.args.level in
    let top = most_parts tank points c.args.volumes c.from.result c.in_parts.result c.requires.volumes
    c.in_parts.ensures.value c.from.ensures in
    let ceil = to_z-of_z w128 c.ceiling_of-parts.result (record { sfits = c.ceiling_of-parts.type_inv }) in
    let most = to_z-of_z w128 c.in_parts.result (record { sfits = c.in_parts.type_inv }) in
    risen_parts tank points c.args.level (to_z w128 (of_z w128 c.min.result)) c.requires.tank
    (omega (arith, ints, over)) (omega (arith, ints, within))
    (risen_code c.volume_at.result v c.ceiling_of-parts.result c.in_parts.result (to_z w128 (of_z w128 c.min.result))
    (pos 864 *ℤ volume_at points tank.maximum)
    (c.volume_at.ensures.value ∙ ap (λ (z : ℤ). value_at 1 (volume_knots points) z)
    (to_z-of_z w64 c.args.level c.ranges.level)) c.ceiling_of-parts.ensures.value top
    (to_z-of_z w128 c.min.result (record { sfits = c.min.type_inv }) ∙ c.min.ensures.value
    ∙ ap (λ (z : ℤ). int_min z (to_z w128 (of_z w128 c.in_parts.result))) ceil
    ∙ ap (λ (z : ℤ). int_min c.ceiling_of-parts.result z) most))
