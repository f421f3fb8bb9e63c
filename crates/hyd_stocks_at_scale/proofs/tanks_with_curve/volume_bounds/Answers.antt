use Rattle.std.proofs.Common.{◌≡◌, ◌<◌, ℤ, subst, arith, to_z, of_z, w64}
use Rattle.std.proofs.lemmas.Int.{ints}
use Rattle.hyd_net.specs.Curves.{value_at, volume_knots}
use Rattle.hyd_stocks_at_scale.specs.VolumeCurves.{value_of}
use Rattle.hyd_stocks_at_scale.proofs.CurveVolumes.{volumes_are, volumes_along}
use Rattle.hyd_stocks_at_scale.proofs.tanks_with_curve.volume_bounds.Goals as goal

pub overflow_cast-result : goal.overflow_cast-result
overflow_cast-result c =
    let tank = c.args.tank.now in
    let points = c.args.points.now in
    let levels = c.requires.tank.levels in
    let low : to_z w64 (of_z w64 tank.minimum) ≡ tank.minimum = omega
    (arith, ints, levels.lowest, levels.apart, levels.highest) in
    let high : to_z w64 (of_z w64 tank.maximum) ≡ tank.maximum = omega
    (arith, ints, levels.lowest, levels.apart, levels.highest) in
    let first : 0 < c.volume_at.result.of = (let p = c.volume_at.ensures.range.proper in omega (arith, p)) in
    let last : 0 < c.volume_at-2.result.of = (let p = c.volume_at-2.ensures.range.proper in omega (arith, p)) in
    let are = volumes_are tank points c.volume_at.result c.volume_at-2.result c.floor_of-least.result
    c.floor_of-most.result c.requires.tank first last
    (subst (λ (z : ℤ). value_of c.volume_at.result ≡ value_at 1 (volume_knots points) z) low c.volume_at.ensures.value)
    (subst (λ (z : ℤ). value_of c.volume_at-2.result ≡ value_at 1 (volume_knots points) z) high
    c.volume_at-2.ensures.value) c.floor_of-least.ensures.value c.floor_of-most.ensures.value
    c.volume_at.ensures.at_least c.volume_at-2.ensures.at_most in
    omega (arith, ints, are.range.from, are.range.apart, are.range.up_to)

pub overflow_cast-result-2 : goal.overflow_cast-result-2
overflow_cast-result-2 c =
    let tank = c.args.tank.now in
    let points = c.args.points.now in
    let levels = c.requires.tank.levels in
    let low : to_z w64 (of_z w64 tank.minimum) ≡ tank.minimum = omega
    (arith, ints, levels.lowest, levels.apart, levels.highest) in
    let high : to_z w64 (of_z w64 tank.maximum) ≡ tank.maximum = omega
    (arith, ints, levels.lowest, levels.apart, levels.highest) in
    let first : 0 < c.volume_at.result.of = (let p = c.volume_at.ensures.range.proper in omega (arith, p)) in
    let last : 0 < c.volume_at-2.result.of = (let p = c.volume_at-2.ensures.range.proper in omega (arith, p)) in
    let are = volumes_are tank points c.volume_at.result c.volume_at-2.result c.floor_of-least.result
    c.floor_of-most.result c.requires.tank first last
    (subst (λ (z : ℤ). value_of c.volume_at.result ≡ value_at 1 (volume_knots points) z) low c.volume_at.ensures.value)
    (subst (λ (z : ℤ). value_of c.volume_at-2.result ≡ value_at 1 (volume_knots points) z) high
    c.volume_at-2.ensures.value) c.floor_of-least.ensures.value c.floor_of-most.ensures.value
    c.volume_at.ensures.at_least c.volume_at-2.ensures.at_most in
    omega (arith, ints, are.range.from, are.range.apart, are.range.up_to)

pub returns : goal.returns
returns c =
    let tank = c.args.tank.now in
    let points = c.args.points.now in
    let levels = c.requires.tank.levels in
    let low : to_z w64 (of_z w64 tank.minimum) ≡ tank.minimum = omega
    (arith, ints, levels.lowest, levels.apart, levels.highest) in
    let high : to_z w64 (of_z w64 tank.maximum) ≡ tank.maximum = omega
    (arith, ints, levels.lowest, levels.apart, levels.highest) in
    let first : 0 < c.volume_at.result.of = (let p = c.volume_at.ensures.range.proper in omega (arith, p)) in
    let last : 0 < c.volume_at-2.result.of = (let p = c.volume_at-2.ensures.range.proper in omega (arith, p)) in
    let are = volumes_are tank points c.volume_at.result c.volume_at-2.result c.floor_of-least.result
    c.floor_of-most.result c.requires.tank first last
    (subst (λ (z : ℤ). value_of c.volume_at.result ≡ value_at 1 (volume_knots points) z) low c.volume_at.ensures.value)
    (subst (λ (z : ℤ). value_of c.volume_at-2.result ≡ value_at 1 (volume_knots points) z) high
    c.volume_at-2.ensures.value) c.floor_of-least.ensures.value c.floor_of-most.ensures.value
    c.volume_at.ensures.at_least c.volume_at-2.ensures.at_most in
    let from = are.range.from in
    let apart = are.range.apart in
    let up_to = are.range.up_to in
    volumes_along tank points c.floor_of-least.result c.floor_of-most.result _ _
    (omega (arith, ints, from, apart, up_to)) (omega (arith, ints, from, apart, up_to)) are
