use Rattle.hyd_spec.specs.ProgramTypes.{Tank}
use Rattle.hyd_spec.specs.Tank.{walls_of}
use Rattle.hyd_tank.proofs.TanksOfSoundNetworks.{tank_of, of_each}
use Rattle.hyd_open_stocks.specs.Goals.{IsGoal}
use Rattle.hyd_open_stocks.proofs.goals.goal_at.Goals as goal

pub goal_of-requires-clause-tank : goal.goal_of-requires-clause-tank
goal_of-requires-clause-tank c = tank_of c.args.project.now c.requires.sound c.args.tank c.tank_at.result
    c.tank_at.ensures

pub returns : goal.returns
returns c = λ each at.
    of_each (λ (tank : Tank). IsGoal (walls_of c.args.project.now tank) tank c.args.arrival.rising
    c.args.arrival.target c.goal_of.result)
    c.args.project.now.tanks.list c.args.tank c.tank_at.result each c.tank_at.ensures at c.goal_of.ensures
