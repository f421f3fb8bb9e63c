use Rattle.std.proofs.Common.{ℤ, subst, w64}
use Rattle.std.specs.Int.{w128}
use Rattle.std.proofs.lemmas.Int.{to_z-of_z}
use Rattle.hyd_spec.specs.ProgramTypes.{Tank}
use Rattle.hyd_spec.specs.Tank.{walls_of, has_reached}
use Rattle.hyd_spec_certificates.specs.FirstSeconds.{IsFirstSecond}
use Rattle.hyd_tank.proofs.TanksOfSoundNetworks.{tank_of, of_each}
use Rattle.hyd_laws_at_scale.specs.Scales.{parts_of}
use Rattle.hyd_stocks_at_scale.specs.Motions.{Moves, stock_of}
use Rattle.hyd_stocks_at_scale.specs.Targets.{StandsFor}
use Rattle.hyd_stocks_at_scale.proofs.TargetsMet.{first_stands}
use Rattle.hyd_stocks_at_scale.proofs.stocks.first_second.Goals as goal

pub motion_of-motion-requires-clause-tank : goal.motion_of-motion-requires-clause-tank
motion_of-motion-requires-clause-tank c = tank_of c.args.project.now c.requires.sound c.args.tank
    c.tank_at-tank.result c.tank_at-tank.ensures

pub target_of-content-requires-clause-tank : goal.target_of-content-requires-clause-tank
target_of-content-requires-clause-tank c = tank_of c.args.project.now c.requires.sound c.args.tank
    c.tank_at-tank.result c.tank_at-tank.ensures

pub returns : goal.returns
returns c = λ each at.
    let S = parts_of c.args.scale in
    let project = c.args.project.now in
    let found = c.tank_at-tank.result in
    let moves = subst (λ (q : ℤ). Moves (walls_of project found) (stock_of c.args.stock) q c.motion_of-motion.result)
    (to_z-of_z w128 c.args.inflow c.ranges.inflow) c.motion_of-motion.ensures in
    let stands = subst (λ (z : ℤ). StandsFor S (walls_of project found) found z c.args.rising
    c.target_of-content.result)
    (to_z-of_z w64 c.args.target c.ranges.target) c.target_of-content.ensures.stands in
    of_each (λ (t : Tank). IsFirstSecond (has_reached S (walls_of project t) t (stock_of c.args.stock) c.args.inflow
    c.args.rising c.args.target) c.args.cap c.first_met.result)
    project.tanks.list c.args.tank found each c.tank_at-tank.ensures at
    (first_stands S (walls_of project found) found c.args.target c.args.rising c.target_of-content.result
    (stock_of c.args.stock) c.args.inflow c.motion_of-motion.result c.args.cap c.first_met.result stands moves
    c.first_met.ensures)
