use Rattle.std.proofs.Common.{ℤ, subst}
use Rattle.std.specs.Int.{w128}
use Rattle.std.proofs.lemmas.Int.{to_z-of_z}
use Rattle.hyd_spec.specs.ProgramTypes.{Tank}
use Rattle.hyd_spec.specs.Tank.{walls_of, carried_level}
use Rattle.hyd_tank.proofs.TanksOfSoundNetworks.{tank_of, of_each}
use Rattle.hyd_laws_at_scale.specs.Scales.{parts_of}
use Rattle.hyd_stocks_at_scale.specs.ExactLevels.{IsLevel}
use Rattle.hyd_stocks_at_scale.specs.Motions.{Moves, stock_of}
use Rattle.hyd_stocks_at_scale.proofs.stocks.carried_level.Goals as goal

pub motion_of-motion-requires-clause-tank : goal.motion_of-motion-requires-clause-tank
motion_of-motion-requires-clause-tank c = tank_of c.args.project.now c.requires.sound c.args.tank
    c.tank_at-tank.result c.tank_at-tank.ensures

pub carried_of-requires-clause-tank : goal.carried_of-requires-clause-tank
carried_of-requires-clause-tank c = tank_of c.args.project.now c.requires.sound c.args.tank
    c.tank_at-tank.result c.tank_at-tank.ensures

pub returns : goal.returns
returns c = λ each at.
    let S = parts_of c.args.scale in
    let project = c.args.project.now in
    let found = c.tank_at-tank.result in
    let moves = subst (λ (q : ℤ). Moves (walls_of project found) (stock_of c.args.stock) q c.motion_of-motion.result)
    (to_z-of_z w128 c.args.inflow c.ranges.inflow) c.motion_of-motion.ensures in
    of_each (λ (t : Tank). IsLevel c.carried_of.result (carried_level S (walls_of project t) t (stock_of c.args.stock)
    c.args.inflow c.args.seconds))
    project.tanks.list c.args.tank found each c.tank_at-tank.ensures at
    (c.carried_of.ensures (stock_of c.args.stock) c.args.inflow moves)
