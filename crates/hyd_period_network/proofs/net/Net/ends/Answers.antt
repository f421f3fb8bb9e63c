use Rattle.std.proofs.Common.{◌≡◌, length, Some, slice_get, refl, ap, subst, arith}
use Rattle.std.proofs.lemmas.Option.{slice_get_read}
use Rattle.hyd_period_network.specs.NetView.{NetView}
use Rattle.hyd_period_network.proofs.NetItemsInGrid.{ends_at}
use Rattle.hyd_period_network.proofs.net.Net.ends.Goals as goal

pub returns-clause-grid : goal.returns-clause-grid
returns-clause-grid c =
    let count = ap (λ (n : NetView). length n.ends) c.self.view_is in
    let at = slice_get_read c.self.inside.ends.items (length c.self.inside.ends.items) c.args.link c.index.result.now
    refl (omega (arith, count, c.requires)) c.index.ensures in
    ends_at c.args.self.now c.args.link c.index.result.now (subst (λ (n : NetView). slice_get n.ends c.args.link
    ≡ Some c.index.result.now) c.self.view_is at)
