use Rattle.std.proofs.Common.{◌≡◌, length, Some, slice_get, refl, ap, subst, arith}
use Rattle.std.proofs.lemmas.Option.{slice_get_read}
use Rattle.hyd_period_network.specs.NetView.{NetView}
use Rattle.hyd_period_network.proofs.NetItemsInGrid.{demand_at}
use Rattle.hyd_period_network.proofs.net.Net.demand_law.Goals as goal

pub returns-clause-grid : goal.returns-clause-grid
returns-clause-grid c =
    let count = ap (λ (n : NetView). length n.junctions) c.self.view_is in
    let each = c.self.invariant.0.each_demand in
    let at = slice_get_read c.self.inside.demands.items (length c.self.inside.demands.items) c.args.junction
    c.index.result.now refl (omega (arith, count, each, c.requires)) c.index.ensures in
    demand_at c.args.self.now c.args.junction c.index.result.now
    (subst (λ (n : NetView). slice_get n.demands c.args.junction ≡ Some c.index.result.now) c.self.view_is at)
