use Rattle.std.proofs.Common.{ℤ, List, sym, subst, w64}
use Rattle.std.proofs.lemmas.Int.{to_z-of_z}
use Rattle.hyd_spec.specs.ProgramTypes.{VolumePoint}
use Rattle.hyd_spec.specs.Tank.{Walls, Curve}
use Rattle.hyd_tank.specs.StockIntervals.{cylinder}
use Rattle.hyd_tank.proofs.TanksOfSoundNetworks.{walls_without, walls_with}
use Rattle.hyd_laws_at_scale.specs.Scales.{parts_of}
use Rattle.hyd_stocks_at_scale.specs.Targets.{StandsFor}
use Rattle.hyd_stocks_at_scale.proofs.stocks.target_of.Goals as goal

pub returns-in-None-clause-stands : goal.returns-in-None-clause-stands
returns-in-None-clause-stands c =
    let S = parts_of c.args.scale in
    let tank = c.args.tank.now in
    subst (λ (w : Walls). StandsFor S w tank c.args.level c.args.rising c.target_of_cylinder.result)
    (sym (walls_without c.args.project.now tank c.in-None.is))
    (subst (λ (z : ℤ). StandsFor S (cylinder tank) tank z c.args.rising c.target_of_cylinder.result)
    (to_z-of_z w64 c.args.level c.ranges.level) (c.target_of_cylinder.ensures.stands c.args.rising))

pub returns-in-Some-clause-stands : goal.returns-in-Some-clause-stands
returns-in-Some-clause-stands c =
    let S = parts_of c.args.scale in
    let tank = c.args.tank.now in
    subst (λ (w : Walls). StandsFor S w tank c.args.level c.args.rising c.target_of_curve.result)
    (sym (walls_with c.args.project.now tank c.in-Some.shape c.in-Some.is))
    (subst (λ (ps : List VolumePoint). StandsFor S (Curve ps) tank c.args.level c.args.rising c.target_of_curve.result)
    c.points_of.ensures
    (subst (λ (z : ℤ). StandsFor S (Curve c.points_of.result.now) tank z c.args.rising c.target_of_curve.result)
    (to_z-of_z w64 c.args.level c.ranges.level) c.target_of_curve.ensures.stands))
