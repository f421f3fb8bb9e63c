use Rattle.std.proofs.Common.{◌≡◌, length, Some, slice_get, to_z, of_z, w64, refl, ap, subst, arith}
use Rattle.std.proofs.lemmas.Int.{ints}
use Rattle.std.proofs.lemmas.Option.{slice_get_read}
use Rattle.hyd_period_network.specs.NetView.{NetView}
use Rattle.hyd_period_network.specs.SoundNets.{IsSoundJunction}
use Rattle.hyd_period_network.proofs.NetItemsInGrid.{all_at, elevation_at}
use Rattle.hyd_period_network.proofs.net.Net.elevation.Goals as goal

pub returns-clause-value : goal.returns-clause-value
returns-clause-value c =
    let count = ap (λ (n : NetView). length n.junctions) c.self.view_is in
    let at = slice_get_read c.self.inside.junctions.items (length c.self.inside.junctions.items) c.args.junction
    c.index.result.now refl (omega (arith, count, c.requires)) c.index.ensures in
    let head = (all_at IsSoundJunction c.self.inside.junctions.items c.args.junction c.index.result.now
    c.self.invariant.0.junctions at).elevation in
    let same : to_z w64 (of_z w64 c.index.result.now.elevation) ≡ c.index.result.now.elevation =
    omega (arith, ints, head.at_least, head.at_most) in
    elevation_at c.args.self.now c.args.junction c.index.result.now (to_z w64 (of_z w64 c.index.result.now.elevation))
    (subst (λ (n : NetView). slice_get n.junctions c.args.junction ≡ Some c.index.result.now) c.self.view_is at) same
