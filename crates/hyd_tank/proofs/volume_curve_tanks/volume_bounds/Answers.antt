use Rattle.std.proofs.Common.{◌≡◌, ◌∙◌, subst, arith, to_z, of_z, w64, ℤ}
use Rattle.std.specs.Int.{w128}
use Rattle.std.proofs.lemmas.Int.{ints}
use Rattle.hyd_net.specs.Curves.{value_at, volume_knots}
use Rattle.hyd_tank.specs.CurveByLevelOrVolume.{value_of}
use Rattle.hyd_tank.proofs.TanksWithVolumeCurve.{volumes_are}
use Rattle.hyd_tank.proofs.volume_curve_tanks.volume_bounds.Goals as goal

pub returns : goal.returns
returns c =
    let tank = c.args.tank.now in
    let points = c.args.points.now in
    let low : to_z w64 (of_z w64 tank.minimum) ≡ tank.minimum = omega (arith, ints) in
    let high : to_z w64 (of_z w64 tank.maximum) ≡ tank.maximum = omega (arith, ints) in
    let a : to_z w64 (of_z w64 (to_z w128 (of_z w128 c.floor_of-least.result))) ≡ c.floor_of-least.result =
    omega (arith, ints, c.floor_of-least.ensures.small) in
    let b : to_z w64 (of_z w64 (to_z w128 (of_z w128 c.floor_of-most.result))) ≡ c.floor_of-most.result =
    omega (arith, ints, c.floor_of-most.ensures.small) in
    volumes_are tank points c.volume_at.result c.volume_at-2.result
    (to_z w64 (of_z w64 (to_z w128 (of_z w128 c.floor_of-least.result))))
    (to_z w64 (of_z w64 (to_z w128 (of_z w128 c.floor_of-most.result)))) c.requires.tank
    (c.volume_at.ensures.small 1 (omega arith)).some (c.volume_at-2.ensures.small 1 (omega arith)).some
    (subst (λ (z : ℤ). value_of c.volume_at.result ≡ value_at 1 (volume_knots points) z) low c.volume_at.ensures.value)
    (subst (λ (z : ℤ). value_of c.volume_at-2.result ≡ value_at 1 (volume_knots points) z) high
    c.volume_at-2.ensures.value)
    (a ∙ c.floor_of-least.ensures.value) (b ∙ c.floor_of-most.ensures.value) c.volume_at.ensures.at_least
    c.volume_at-2.ensures.at_most

pub floor_of-least-requires-clause-small : goal.floor_of-least-requires-clause-small
floor_of-least-requires-clause-small c = c.volume_at.ensures.small 1 (omega arith)

pub floor_of-most-requires-clause-small : goal.floor_of-most-requires-clause-small
floor_of-most-requires-clause-small c = c.volume_at-2.ensures.small 1 (omega arith)
