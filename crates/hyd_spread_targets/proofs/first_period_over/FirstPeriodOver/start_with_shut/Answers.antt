use Rattle.std.proofs.Common.{List, length, sym, ap, subst, ◌∙◌, arith}
use Rattle.std.specs.Prelude.{slice_set, IfErr}
use Rattle.std.proofs.lemmas.Bool.{true≢false}
use Rattle.std.proofs.lemmas.List.{length-set}
use Rattle.hyd_spec.specs.ProgramTypes.{LinkState, Closed}
use Rattle.hyd_spec_spread_stops.specs.StopsOfSpreads.{IsFirstDemandOver}
use Rattle.hyd_spread_networks.specs.NetsOfSpreads.{SpreadNetsView}
use Rattle.hyd_spread_targets.proofs.FirstPeriodsReady.{states-within-shut, long-within, still-ready, same-nets}
use Rattle.hyd_spread_targets.proofs.FirstPeriodsReady.{AreSetTo, first-pair-with-shut, none-refused, holds-then}
use Rattle.hyd_spread_targets.proofs.first_period_over.FirstPeriodOver.start_with_shut.Goals as goal

pub restore-requires : goal.restore-requires
restore-requires c =
    c.requires.ready.each ∙ sym (ap length c.requires.ready.started
    ∙ long-within c.args.project.now c.requires.sound c.args.self.now.nets.spread)

pub close-requires : goal.close-requires
close-requires c =
    let inside = c.requires.inside in
    let long = ap length (c.restore.ensures.links ∙ c.requires.ready.started)
    ∙ long-within c.args.project.now c.requires.sound c.args.self.now.nets.spread in
    omega (arith, inside, long)

pub set-requires-clause-ready : goal.set-requires-clause-ready
set-requires-clause-ready c =
    let nets = c.close.ensures.nets ∙ c.restore.ensures.nets in
    still-ready c.args.project.now c.args.self.now c.close.new.self c.requires.ready
    (same-nets c.args.project.now c.args.self.now.nets c.close.new.self.nets c.requires.ready.of nets)
    (ap (λ (n : SpreadNetsView). n.spread) nets) (c.close.ensures.stocks ∙ c.restore.ensures.stocks)
    (c.close.ensures.started ∙ c.restore.ensures.started)
    (ap length c.close.ensures.links
    ∙ (length-set c.restore.new.self.links.items c.args.link Closed
    ∙ (ap length (c.restore.ensures.links ∙ c.requires.ready.started)
    ∙ long-within c.args.project.now c.requires.sound c.args.self.now.nets.spread)))

pub set-requires-clause-states : goal.set-requires-clause-states
set-requires-clause-states c =
    states-within-shut c.args.project.now c.requires.sound c.args.self.now.nets.spread _ c.args.link
    (c.close.ensures.links ∙ ap (λ (ls : List LinkState). slice_set ls c.args.link Closed)
    (c.restore.ensures.links ∙ c.requires.ready.started))

pub unreachable-requires : goal.unreachable-requires
unreachable-requires c =
    let nets = c.close.ensures.nets ∙ c.restore.ensures.nets in
    true≢false (sym c.if-is_err.true ∙ (c.is_err.ensures.value
    ∙ none-refused c.args.project.now c.args.self.now.nets.spread c.set.result c.requires.in_range
    (subst (λ (n : SpreadNetsView). IfErr c.set.result (λ fault. IsFirstDemandOver c.args.project.now n.spread 0
    fault.junction fault.value)) nets c.set.ensures.refused)))

pub returns-clause-pair : goal.returns-clause-pair
returns-clause-pair c =
    let project = c.args.project.now in
    let spread = c.args.self.now.nets.spread in
    let same = c.close.ensures.nets ∙ c.restore.ensures.nets in
    let links = c.close.new.self.links.items in
    let nets = c.set.new.self.nets in
    let no = none-refused project spread c.set.result c.requires.in_range
    (subst (λ (n : SpreadNetsView). IfErr c.set.result (λ fault. IsFirstDemandOver project n.spread 0
    fault.junction fault.value)) same c.set.ensures.refused) in
    first-pair-with-shut project spread c.args.link links nets
    (c.close.ensures.links ∙ ap (λ (ls : List LinkState). slice_set ls c.args.link Closed)
    (c.restore.ensures.links ∙ c.requires.ready.started))
    (subst (λ (n : SpreadNetsView). AreSetTo project n.spread links nets) same
    (holds-then (AreSetTo project c.close.new.self.nets.spread links nets) c.set.result no c.set.ensures.grids))
