use Rattle.std.proofs.Common.{ap, length, arith}
use Rattle.hyd_period_length.proofs.HeadsAndFlowsSoFar.{nodes_are}
use Rattle.hyd_period_length.proofs.readings.Readings.put.Goals as goal

pub put_heads-requires : goal.put_heads-requires
put_heads-requires c =
    let nodes = nodes_are c.args.project.now c.args.net.now c.requires.of in
    let each = c.requires.lower.one_each in
    let room = c.requires.room.low in
    omega (arith, nodes, each, ap length c.vector-low.ensures, room)

pub put_heads-requires-2 : goal.put_heads-requires-2
put_heads-requires-2 c =
    let nodes = nodes_are c.args.project.now c.args.net.now c.requires.of in
    let each = c.requires.upper.one_each in
    let room = c.requires.room.high in
    omega (arith, nodes, each, ap length c.vector-high.ensures, room)
