use Rattle.std.proofs.Common.{◌≡◌, length, Some, slice_get, refl, ap, subst, sym, ◌∙◌, arith}
use Rattle.std.specs.Option.{option_map}
use Rattle.std.proofs.lemmas.List.{length-map}
use Rattle.std.proofs.lemmas.Option.{slice_get_read, slice_get-map}
use Rattle.hyd_law.specs.declared.link_law_kinds.LinkLaw.{LinkLaw}
use Rattle.hyd_period_network.specs.NetView.{NetView}
use Rattle.hyd_period_network.specs.BothLaws.{law_of}
use Rattle.hyd_period_network.specs.SoundNets.{IsSoundNet}
use Rattle.hyd_period_network.proofs.NetItemsInGrid.{law_at, law_stands}
use Rattle.hyd_period_network.proofs.net.Net.law.Goals as goal

at : (c : goal.After-law) → slice_get c.args.self.now.laws c.args.link ≡ Some c.law.result.now
at c =
    let count = ap (λ (n : NetView). length n.ends) c.self.view_is in
    let each = sym (length-map c.self.inside.laws.items law_of) ∙ c.self.invariant.0.each_law in
    let there = slice_get_read c.self.inside.laws.items (length c.self.inside.laws.items) c.args.link
    c.index.result.now refl (omega (arith, count, each, c.requires)) c.index.ensures in
    subst (λ (n : NetView). slice_get n.laws c.args.link ≡ Some c.law.result.now) c.self.view_is
    (slice_get-map law_of c.self.inside.laws.items c.args.link ∙ ap (option_map law_of) there
    ∙ ap (λ (x : LinkLaw). Some x) (sym c.law.ensures))

sound : (c : goal.After-law) → IsSoundNet c.args.self.now
sound c = subst IsSoundNet c.self.view_is c.self.invariant.0

pub returns-clause-value : goal.returns-clause-value
returns-clause-value c = at c

pub returns-clause-stands : goal.returns-clause-stands
returns-clause-stands c = law_at c.args.self.now c.args.link c.law.result.now (sound c) (at c)

pub returns-clause-sound : goal.returns-clause-sound
returns-clause-sound c = (law_stands c.args.self.now c.args.link c.law.result.now (sound c) (at c)).1.sound

pub returns-clause-accepts : goal.returns-clause-accepts
returns-clause-accepts c = (law_stands c.args.self.now c.args.link c.law.result.now (sound c) (at c)).1.accepts
