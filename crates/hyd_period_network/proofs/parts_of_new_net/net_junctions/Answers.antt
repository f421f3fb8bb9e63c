use Rattle.std.proofs.Common.{arith}
use Rattle.hyd_period_network.specs.Demands.{IsNetJunction}
use Rattle.hyd_period_network.proofs.ListsItemByItem.{zipped}
use Rattle.hyd_period_network.proofs.parts_of_new_net.net_junctions.Goals as goal

pub returns : goal.returns
returns c =
    zipped IsNetJunction c.args.junctions.now c.loop-junction.made.items (omega arith)
    (λ k x y h. c.loop-junction.invariant.each k x y (omega arith))
