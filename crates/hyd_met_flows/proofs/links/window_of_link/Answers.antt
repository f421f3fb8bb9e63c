use Rattle.std.proofs.Common.{sym, subst}
use Rattle.std.specs.Int.{w128}
use Rattle.std.proofs.lemmas.Int.{to_z-of_z}
use Rattle.hyd_spec_certificates.specs.PeriodNetwork.{GridLink}
use Rattle.hyd_period_network.specs.ExactLaw.{exact_law}
use Rattle.hyd_period_network.specs.LawsInSettings.{restricted}
use Rattle.hyd_laws_at_scale.specs.Scales.{parts_of}
use Rattle.hyd_laws_at_scale.specs.Windows.{IsWindow, IsAnswer}
use Rattle.hyd_laws_at_scale.specs.declared.windows.Window.{Window}
use Rattle.hyd_spec_witnesses.specs.EnclosingFunctionsAtScale.{IsInRange}
use Rattle.hyd_met_flows.proofs.NearFlows.{answer}
use Rattle.hyd_met_flows.proofs.LinksOfSetNets.{item_at, link_there}
use Rattle.hyd_met_flows.proofs.links.window_of_link.Goals as goal

pub returns : goal.returns
returns c = λ here at.
    let S = parts_of c.args.scale in
    let project = c.args.project.now in
    let link = c.index-as_slice-link.result in
    let there = item_at project c.args.link c.as_slice.result.now link c.requires.there c.as_slice.ensures
    c.index-as_slice-link.is in
    let is = link_there project c.args.net.now c.args.tanks.now c.args.link link c.own_law.result.now here
    c.requires.set there c.own_law.ensures.value at in
    let d = to_z-of_z w128 c.args.difference c.ranges.difference in
    let law = restricted c.forbids_forward-no_forward.result c.forbids_reverse-no_reverse.result
    (exact_law c.own_law.result.now) in
    let mine = answer c.link_window.result (λ (w : Window). IsWindow S law c.args.difference w)
    (IsInRange S law c.args.difference → ⊥) (rw d at c.link_window.ensures.some) (rw d at c.link_window.ensures.none) in
    subst (λ (l : GridLink). IsAnswer S l.law c.args.difference c.link_window.result) (sym is)
    (rw (c.forbids_forward-no_forward.ensures, c.forbids_reverse-no_reverse.ensures) at mine)
