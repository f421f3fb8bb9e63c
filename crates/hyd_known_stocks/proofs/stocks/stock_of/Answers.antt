use Rattle.std.proofs.Common.{◌≡◌, List, sym, subst, arith, to_z, of_z, w64}
use Rattle.std.proofs.lemmas.Int.{ints}
use Rattle.hyd_spec.specs.ProgramTypes.{VolumePoint}
use Rattle.hyd_spec.specs.Tank.{shape_points}
use Rattle.hyd_tank.proofs.TanksOfSoundNetworks.{is_basin}
use Rattle.hyd_open_stocks.specs.VolumesOnCurve.{IsOnCurve}
use Rattle.hyd_open_stocks.proofs.LevelsOnCurve.{on_curve}
use Rattle.hyd_known_stocks.proofs.stocks.stock_of.Goals as goal

pub volume_at-requires-clause-on_curve : goal.volume_at-requires-clause-on_curve
volume_at-requires-clause-on_curve c =
    let project = c.args.project.now in
    let tank = c.args.tank.now in
    let basin = (is_basin project tank c.in-Some.shape c.in-Some.is c.requires.tank).1 in
    let lowest = basin.levels.lowest in
    let highest = basin.levels.highest in
    let from = c.requires.lowest.at_least in
    let to = c.requires.lowest.at_most in
    let e : to_z w64 (of_z w64 c.args.level.lo) ≡ c.args.level.lo = omega (arith, ints, lowest, highest, from, to) in
    subst (IsOnCurve c.points_of-points.result.now) (sym e)
    (subst (λ (points : List VolumePoint). IsOnCurve points c.args.level.lo) (sym c.points_of-points.ensures)
    (on_curve tank (shape_points project c.in-Some.shape) c.args.level.lo basin.shape c.requires.lowest))

pub volume_at-requires-in-Some-clause-on_curve : goal.volume_at-requires-in-Some-clause-on_curve
volume_at-requires-in-Some-clause-on_curve c =
    let project = c.args.project.now in
    let tank = c.args.tank.now in
    let basin = (is_basin project tank c.in-Some.shape c.in-Some.is c.requires.tank).1 in
    let lowest = basin.levels.lowest in
    let highest = basin.levels.highest in
    let from = c.requires.highest.at_least in
    let to = c.requires.highest.at_most in
    let e : to_z w64 (of_z w64 c.args.level.hi) ≡ c.args.level.hi = omega (arith, ints, lowest, highest, from, to) in
    subst (IsOnCurve c.points_of-points.result.now) (sym e)
    (subst (λ (points : List VolumePoint). IsOnCurve points c.args.level.hi) (sym c.points_of-points.ensures)
    (on_curve tank (shape_points project c.in-Some.shape) c.args.level.hi basin.shape c.requires.highest))
