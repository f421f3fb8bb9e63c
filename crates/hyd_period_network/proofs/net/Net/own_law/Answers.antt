use Rattle.std.proofs.Common.{◌≡◌, length, Some, slice_get, refl, ap, subst, sym, ◌∙◌, arith}
use Rattle.std.specs.Option.{option_map}
use Rattle.std.proofs.lemmas.List.{length-map}
use Rattle.std.proofs.lemmas.Option.{slice_get_read, slice_get-map}
use Rattle.hyd_period_network.specs.NetView.{NetView}
use Rattle.hyd_period_network.specs.BothLaws.{own_of}
use Rattle.hyd_period_network.specs.SoundNets.{IsSoundNet}
use Rattle.hyd_period_network.proofs.NetItemsInGrid.{own_at}
use Rattle.hyd_period_network.proofs.net.Net.own_law.Goals as goal

at : (c : goal.After-index) → slice_get c.args.self.now.own c.args.link ≡ Some (own_of c.index.result.now)
at c =
    let count = ap (λ (n : NetView). length n.ends) c.self.view_is in
    let each = sym (length-map c.self.inside.laws.items own_of) ∙ c.self.invariant.0.each_own in
    let there = slice_get_read c.self.inside.laws.items (length c.self.inside.laws.items) c.args.link
    c.index.result.now refl (omega (arith, count, each, c.requires)) c.index.ensures in
    subst (λ (n : NetView). slice_get n.own c.args.link ≡ Some (own_of c.index.result.now)) c.self.view_is
    (slice_get-map own_of c.self.inside.laws.items c.args.link ∙ ap (option_map own_of) there)

pub returns-clause-value : goal.returns-clause-value
returns-clause-value c = at c

pub returns-clause-stands : goal.returns-clause-stands
returns-clause-stands c =
    own_at c.args.self.now c.args.link (own_of c.index.result.now)
    (subst IsSoundNet c.self.view_is c.self.invariant.0) (at c)
