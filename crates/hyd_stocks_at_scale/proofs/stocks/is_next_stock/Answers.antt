use Rattle.std.proofs.Common.{ℤ, subst}
use Rattle.std.specs.Int.{w128}
use Rattle.std.proofs.lemmas.Int.{to_z-of_z}
use Rattle.std.specs.Bool.{OnTrue, OnFalse}
use Rattle.hyd_spec.specs.ProgramTypes.{Tank}
use Rattle.hyd_spec.specs.Tank.{walls_of, IsNextStock}
use Rattle.hyd_tank.proofs.TanksOfSoundNetworks.{tank_of, of_each}
use Rattle.hyd_laws_at_scale.specs.Scales.{parts_of}
use Rattle.hyd_stocks_at_scale.specs.Motions.{Moves, stock_of}
use Rattle.hyd_stocks_at_scale.proofs.stocks.is_next_stock.Goals as goal

pub motion_of-motion-requires-clause-tank : goal.motion_of-motion-requires-clause-tank
motion_of-motion-requires-clause-tank c = tank_of c.args.project.now c.requires.sound c.args.tank
    c.tank_at-tank.result c.tank_at-tank.ensures

pub is_next_of-requires-clause-tank : goal.is_next_of-requires-clause-tank
is_next_of-requires-clause-tank c = tank_of c.args.project.now c.requires.sound c.args.tank
    c.tank_at-tank.result c.tank_at-tank.ensures

pub returns-clause-yes : goal.returns-clause-yes
returns-clause-yes c = λ each at.
    let S = parts_of c.args.scale in
    let project = c.args.project.now in
    let found = c.tank_at-tank.result in
    let moves = subst (λ (q : ℤ). Moves (walls_of project found) (stock_of c.args.stock) q c.motion_of-motion.result)
    (to_z-of_z w128 c.args.inflow c.ranges.inflow) c.motion_of-motion.ensures in
    of_each (λ (t : Tank). OnTrue c.is_next_of.result (IsNextStock S (walls_of project t) t (stock_of c.args.stock)
    c.args.inflow c.args.seconds (stock_of c.args.next)))
    project.tanks.list c.args.tank found each c.tank_at-tank.ensures at
    (c.is_next_of.ensures.yes (stock_of c.args.stock) c.args.inflow moves)

pub returns-clause-no : goal.returns-clause-no
returns-clause-no c = λ each at.
    let S = parts_of c.args.scale in
    let project = c.args.project.now in
    let found = c.tank_at-tank.result in
    let moves = subst (λ (q : ℤ). Moves (walls_of project found) (stock_of c.args.stock) q c.motion_of-motion.result)
    (to_z-of_z w128 c.args.inflow c.ranges.inflow) c.motion_of-motion.ensures in
    of_each (λ (t : Tank). OnFalse c.is_next_of.result (IsNextStock S (walls_of project t) t (stock_of c.args.stock)
    c.args.inflow c.args.seconds (stock_of c.args.next) → ⊥))
    project.tanks.list c.args.tank found each c.tank_at-tank.ensures at
    (c.is_next_of.ensures.no (stock_of c.args.stock) c.args.inflow moves)
