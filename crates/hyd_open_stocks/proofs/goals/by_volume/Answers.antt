use Rattle.std.proofs.Common.{◌≡◌, ℤ, ◌-ℤ◌, ap, sym, subst, arith, to_z, of_z, w64, ◌∙◌}
use Rattle.std.specs.Int.{int_max, int_min}
use Rattle.std.proofs.lemmas.Int.{ints, clamps, fits_signed_from_abs}
use Rattle.hyd_num.specs.Rational.{floor}
use Rattle.hyd_net.specs.Curves.{value_at, volume_at, volume_knots}
use Rattle.hyd_spec_certificates.specs.Interval.{Interval}
use Rattle.hyd_spec_open_ends.specs.StocksOverLengths.{goal_volume}
use Rattle.hyd_open_stocks.specs.VolumesOnCurve.{IsOnCurve}
use Rattle.hyd_open_stocks.proofs.LevelsOnCurve.{on_curve}
use Rattle.hyd_open_stocks.proofs.NumbersOfCode.{held_code, beyond_code}
use Rattle.hyd_open_stocks.proofs.GoalsOfCurves.{curve_goal}
use Rattle.hyd_open_stocks.proofs.goals.by_volume.Goals as goal

pub volumes_at-most-requires-clause-on_curve : goal.volumes_at-most-requires-clause-on_curve
volumes_at-most-requires-clause-on_curve c =
    let tank = c.args.tank.now in
    let levels = c.requires.tank.levels in
    let lowest = levels.lowest in
    let apart = levels.apart in
    let highest = levels.highest in
    let e : to_z w64 (of_z w64 tank.maximum) ≡ tank.maximum = omega (arith, ints, lowest, apart, highest) in
    subst (IsOnCurve c.args.points.now) (sym e)
    (on_curve tank c.args.points.now tank.maximum c.requires.tank.shape
    (record { at_least = omega (arith, ints, apart); at_most = omega (arith, ints) }))

pub overflow_sub-result : goal.overflow_sub-result
overflow_sub-result c =
    let small = c.volumes_at-least.ensures.least_small in
    let also = c.volumes_at-most.ensures.least_small in
    let more = c.goal_volume-goal.ensures.greatest_small in
    let a = c.max.ensures.value in
    let b = c.min-hi.ensures.value in
    fits_signed_from_abs w64 (to_z w64 (of_z w64 c.goal_volume-goal.result.hi) -ℤ to_z w64 (of_z w64 c.min-hi.result))
    (omega (arith, ints, clamps, small, also, more, a, b))

pub returns : goal.returns
returns c =
    let tank = c.args.tank.now in
    let points = c.args.points.now in
    let levels = c.requires.tank.levels in
    let lowest = levels.lowest in
    let apart = levels.apart in
    let highest = levels.highest in
    let target = c.requires.target in
    let from = target.at_least in
    let to = target.at_most in
    let low : to_z w64 (of_z w64 tank.minimum) ≡ tank.minimum = omega (arith, ints, lowest, apart, highest) in
    let high : to_z w64 (of_z w64 tank.maximum) ≡ tank.maximum = omega (arith, ints, lowest, apart, highest) in
    let here : to_z w64 (of_z w64 c.args.arrival.target) ≡ c.args.arrival.target =
    omega (arith, ints, lowest, apart, highest, from, to) in
    let least : c.volumes_at-least.result.lo ≡ volume_at points tank.minimum =
    c.volumes_at-least.ensures.least ∙ ap (λ (z : ℤ). floor (value_at 1 (volume_knots points) z)) low in
    let most : c.volumes_at-most.result.lo ≡ volume_at points tank.maximum =
    c.volumes_at-most.ensures.least ∙ ap (λ (z : ℤ). floor (value_at 1 (volume_knots points) z)) high in
    let lo = ap (λ (x : Interval). x.lo) c.goal_volume-goal.ensures.value in
    let hi = ap (λ (x : Interval). x.hi) c.goal_volume-goal.ensures.value in
    let small = c.volumes_at-least.ensures.least_small in
    let also = c.volumes_at-most.ensures.least_small in
    let few = c.goal_volume-goal.ensures.least_small in
    let more = c.goal_volume-goal.ensures.greatest_small in
    let l = c.volumes_at-least.result.lo in
    let m = c.volumes_at-most.result.lo in
    let g = goal_volume points tank c.args.arrival.rising c.args.arrival.target in
    let low_is = held_code c.goal_volume-goal.result.lo l m c.max-2.result c.min.result few small also
    c.max-2.ensures.value c.min.ensures.value in
    let high_is = held_code c.goal_volume-goal.result.hi l m c.max.result c.min-hi.result more small also
    c.max.ensures.value c.min-hi.ensures.value in
    let over = beyond_code c.goal_volume-goal.result.hi l m c.min-hi.result more small also high_is in
    curve_goal tank points c.args.arrival.rising c.args.arrival.target _ c.requires.tank c.requires.target here here
    (low_is ∙ ap (λ (z : ℤ). int_min (int_max z l) m) lo ∙ ap (λ (z : ℤ). int_min (int_max g.lo z) m) least
    ∙ ap (λ (z : ℤ). int_min (int_max g.lo (volume_at points tank.minimum)) z) most)
    (high_is ∙ ap (λ (z : ℤ). int_min (int_max z l) m) hi ∙ ap (λ (z : ℤ). int_min (int_max g.hi z) m) least
    ∙ ap (λ (z : ℤ). int_min (int_max g.hi (volume_at points tank.minimum)) z) most)
    (over ∙ ap (λ (z : ℤ). z -ℤ to_z w64 (of_z w64 c.min-hi.result)) hi)
