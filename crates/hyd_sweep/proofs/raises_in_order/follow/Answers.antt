use Rattle.std.proofs.Common.{◌∙◌, sym, arith}
use Rattle.hyd_period_network.specs.NetAsPeriodNetwork.{grid_of}
use Rattle.hyd_sweep.proofs.RaisesRoundsAndSweeps.{follow-leads}
use Rattle.hyd_sweep.proofs.raises_in_order.follow.Goals as goal

pub returns-clause-leads : goal.returns-clause-leads
returns-clause-leads c =
    let grid = grid_of c.args.net.now in
    let order = c.args.order.now in
    let each = c.junctions-junctions.ensures.each in
    follow-leads c.args.held grid c.junctions-junctions.ensures.steady c.args.problem c.args.side order c.args.u.now
    c.raise_each.new.u c.raise_each.result (c.requires.one_each ∙ sym each)
    (λ k lt. (let a = c.requires.inside k 0 lt in let b = c.requires.one_each in omega (arith, a, b, each)))
    c.raise_each.ensures
