use Rattle.std.proofs.Common.{List, sym, subst}
use Rattle.hyd_spec.specs.ProgramTypes.{VolumePoint}
use Rattle.hyd_spec.specs.Tank.{Walls, Curve}
use Rattle.hyd_tank.proofs.TanksOfSoundNetworks.{walls_with}
use Rattle.hyd_open_stocks.specs.Goals.{IsGoal}
use Rattle.hyd_open_stocks.proofs.goals.goal_of.Goals as goal

pub returns-in-Some : goal.returns-in-Some
returns-in-Some c =
    let tank = c.args.tank.now in
    let rising = c.args.arrival.rising in
    let target = c.args.arrival.target in
    subst (λ (w : Walls). IsGoal w tank rising target c.by_volume.result)
    (sym (walls_with c.args.project.now tank c.in-Some.shape c.in-Some.is))
    (subst (λ (ps : List VolumePoint). IsGoal (Curve ps) tank rising target c.by_volume.result) c.points_of.ensures
    c.by_volume.ensures)
