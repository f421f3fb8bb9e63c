use Rattle.std.proofs.Common.{◌≡◌, length, Some, slice_get, refl, ap, subst, arith}
use Rattle.std.specs.Option.{option_copied}
use Rattle.std.proofs.lemmas.Option.{slice_get_read}
use Rattle.hyd_period_network.specs.NetView.{NetView}
use Rattle.hyd_period_network.proofs.NetItemsInGrid.{emitter_at}
use Rattle.hyd_period_network.proofs.net.Net.emitter_law.Goals as goal

pub returns-clause-grid : goal.returns-clause-grid
returns-clause-grid c =
    let count = ap (λ (n : NetView). length n.junctions) c.self.view_is in
    let at = slice_get_read c.self.inside.junctions.items (length c.self.inside.junctions.items) c.args.junction
    c.index.result.now refl (omega (arith, count, c.requires)) c.index.ensures in
    emitter_at c.args.self.now c.args.junction c.index.result.now (option_copied c.as_ref.result)
    (subst (λ (n : NetView). slice_get n.junctions c.args.junction ≡ Some c.index.result.now) c.self.view_is at)
    c.as_ref.ensures.value
