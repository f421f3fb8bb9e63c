use Rattle.std.proofs.Common.{◌≡◌, ◌*◌, ◌<◌, ℤ, pos, ◌-ℤ◌, ◌*ℤ◌, ap, ◌∙◌, arith, to_z, of_z, w64}
use Rattle.std.specs.Int.{w128, int_min}
use Rattle.std.proofs.lemmas.Int.{ints, clamps, to_z-of_z}
use Rattle.hyd_lemmas.proofs.BooleanTests.{le-yes, lt-no, lt-yes, le-no}
use Rattle.hyd_num.specs.Rational.{Rational, floor}
use Rattle.hyd_net.specs.Curves.{value_at, volume_at, volume_knots}
use Rattle.hyd_spec.specs.Tank.{Bounds}
use Rattle.hyd_laws_at_scale.specs.Scales.{parts_of}
use Rattle.hyd_laws_at_scale.proofs.Scales.{power_small, power_from}
use Rattle.hyd_stocks_at_scale.proofs.CurveVolumes.{times_is}
use Rattle.hyd_stocks_at_scale.proofs.TargetsMet.{fallen_always_stands, fallen_never_stands, fallen_least_stands}
use Rattle.hyd_stocks_at_scale.proofs.TargetsMet.{fallen_stands}
use Rattle.hyd_stocks_at_scale.proofs.tanks_with_curve.fallen_target.Goals as goal

pub returns-then-level-tank-clause-stands : goal.returns-then-level-tank-clause-stands
returns-then-level-tank-clause-stands c =
    let tank = c.args.tank.now in
    let some : 0 < parts_of c.args.scale = (let p = power_from c.args.scale.power in omega (arith, p)) in
    let levels = c.requires.tank.levels in
    let high = le-yes (to_z w64 (of_z w64 tank.maximum)) (to_z w64 (of_z w64 c.args.level)) c.if-level-tank.true in
    fallen_always_stands (parts_of c.args.scale) some tank c.args.points.now c.requires.tank c.args.level
    (omega (arith, ints, high, levels.lowest, levels.apart, levels.highest))

pub returns-then-level-tank-2-clause-stands : goal.returns-then-level-tank-2-clause-stands
returns-then-level-tank-2-clause-stands c =
    let tank = c.args.tank.now in
    let some : 0 < parts_of c.args.scale = (let p = power_from c.args.scale.power in omega (arith, p)) in
    let levels = c.requires.tank.levels in
    let low = lt-yes (to_z w64 (of_z w64 c.args.level)) (to_z w64 (of_z w64 tank.minimum)) c.if-level-tank-2.true in
    fallen_never_stands (parts_of c.args.scale) some tank c.args.points.now c.requires.tank c.args.level
    (omega (arith, ints, low, levels.lowest, levels.apart, levels.highest))

pub returns-then-level-tank-3-clause-stands : goal.returns-then-level-tank-3-clause-stands
returns-then-level-tank-3-clause-stands c =
    let tank = c.args.tank.now in
    let some : 0 < parts_of c.args.scale = (let p = power_from c.args.scale.power in omega (arith, p)) in
    let levels = c.requires.tank.levels in
    let range = c.requires.volumes.range in
    let kept : to_z w64 (of_z w64 c.args.volumes.least) ≡ c.args.volumes.least =
    omega (arith, ints, range.from, range.apart, range.up_to) in
    let bound : c.volume_in_shares.result ≡ pos 864 *ℤ (pos (parts_of c.args.scale) *ℤ volume_at c.args.points.now
    c.args.tank.now.minimum) =
    c.volume_in_shares.ensures.value
    ∙ (ap (λ (y : ℤ). pos 864 *ℤ (pos (parts_of c.args.scale) *ℤ y)) kept
    ∙ ap (λ (k : Bounds). pos 864 *ℤ (pos (parts_of c.args.scale) *ℤ k.least)) c.requires.volumes.value) in
    let d = to_z-of_z w128 c.volume_in_shares.result (record { sfits = c.volume_in_shares.type_inv }) in
    let same : c.args.level ≡ c.args.tank.now.minimum =
    omega (arith, ints, c.if-level-tank-3.true, levels.lowest, levels.apart, levels.highest) in
    fallen_least_stands (parts_of c.args.scale) some tank c.args.points.now c.requires.tank c.args.level
    (to_z w128 (of_z w128 c.volume_in_shares.result)) same (d ∙ bound)

pub floor_of-shares-requires-clause-times : goal.floor_of-shares-requires-clause-times
floor_of-shares-requires-clause-times c =
    let few = power_small c.args.scale.power c.args.scale.small in
    omega (arith, c.shares_of_tick.ensures, few)

pub returns-clause-small : goal.returns-clause-small
returns-clause-small c = omega (
  arith,
  ints,
  clamps,
  c.min.ensures.value,
  c.floor_of-shares.ensures.small,
  c.volume_in_shares-2.ensures.small,
)

pub returns-clause-stands : goal.returns-clause-stands
returns-clause-stands c =
    let tank = c.args.tank.now in
    let some : 0 < parts_of c.args.scale = (let p = power_from c.args.scale.power in omega (arith, p)) in
    let levels = c.requires.tank.levels in
    let points = c.args.points.now in
    let within = le-no (to_z w64 (of_z w64 tank.maximum)) (to_z w64 (of_z w64 c.args.level)) c.if-level-tank.false in
    let over = lt-no (to_z w64 (of_z w64 c.args.level)) (to_z w64 (of_z w64 tank.minimum)) c.if-level-tank-2.false in
    let v = value_at 1 (volume_knots points) c.args.level in
    let at = c.volume_at.ensures.value ∙ ap (λ (y : ℤ). value_at 1 (volume_knots points) y)
    (to_z-of_z w64 c.args.level c.ranges.level) in
    let times = times_is c.shares_of_tick.result (864 * parts_of c.args.scale) c.volume_at.result v
    c.shares_of_tick.ensures at in
    let range = c.requires.volumes.range in
    let kept : to_z w64 (of_z w64 c.args.volumes.most) ≡ c.args.volumes.most =
    omega (arith, ints, range.from, range.apart, range.up_to) in
    let bound : c.volume_in_shares-2.result ≡ pos 864 *ℤ (pos
    (parts_of c.args.scale) *ℤ volume_at c.args.points.now c.args.tank.now.maximum) =
    c.volume_in_shares-2.ensures.value
    ∙ (ap (λ (y : ℤ). pos 864 *ℤ (pos (parts_of c.args.scale) *ℤ y)) kept
    ∙ ap (λ (k : Bounds). pos 864 *ℤ (pos (parts_of c.args.scale) *ℤ k.most)) c.requires.volumes.value) in
    let a = to_z-of_z w128 c.floor_of-shares.result (record { sfits = c.floor_of-shares.type_inv }) in
    let z = to_z-of_z w128 c.min.result (record { sfits = c.min.type_inv }) in
    let less : to_z w128 (of_z w128 (to_z w128 (of_z w128 c.volume_in_shares-2.result) -ℤ pos 1))
    ≡ c.volume_in_shares-2.result -ℤ pos 1 = omega (arith, ints, c.volume_in_shares-2.ensures.small) in
    let least = a ∙ (c.floor_of-shares.ensures.value ∙ ap (λ (r : Rational). floor r) times) in
    let most = less ∙ ap (λ (y : ℤ). y -ℤ pos 1) bound in
    fallen_stands (parts_of c.args.scale) some tank points c.requires.tank c.args.level
    (to_z w128 (of_z w128 c.min.result))
    (omega (arith, ints, over, c.if-level-tank-3.false, levels.lowest, levels.apart, levels.highest))
    (omega (arith, ints, within, levels.lowest, levels.apart, levels.highest))
    (z ∙ (c.min.ensures.value
    ∙ (ap (λ (y : ℤ). int_min y (to_z w128 (of_z w128 (to_z w128 (of_z w128 c.volume_in_shares-2.result) -ℤ pos 1))))
    least
    ∙ ap (λ (y : ℤ). int_min (floor (record { num = pos (864 * parts_of c.args.scale) *ℤ v.num; den = v.den })) y)
    most)))
