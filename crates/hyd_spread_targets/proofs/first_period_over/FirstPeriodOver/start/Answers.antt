use Rattle.std.proofs.Common.{length, sym, ap, subst, ◌∙◌}
use Rattle.std.specs.Prelude.{OnOk, IfErr}
use Rattle.hyd_spec_spread_runs.specs.RunsForSpreads.{AreDemandsInRange}
use Rattle.hyd_spec_spread_stops.specs.StopsOfSpreads.{IsFirstDemandOver}
use Rattle.hyd_spread_networks.specs.NetsOfSpreads.{SpreadNetsView}
use Rattle.hyd_lemmas.proofs.ListsOptionsAndResults.{on-ok}
use Rattle.hyd_spread_targets.proofs.FirstPeriodsReady.{states-within, long-within, still-ready, same-nets, first-pair}
use Rattle.hyd_spread_targets.proofs.FirstPeriodsReady.{AreSetTo}
use Rattle.hyd_spread_targets.proofs.first_period_over.FirstPeriodOver.start.Goals as goal

pub restore-requires : goal.restore-requires
restore-requires c =
    c.requires.ready.each ∙ sym (ap length c.requires.ready.started
    ∙ long-within c.args.project.now c.requires.sound c.args.self.now.nets.spread)

pub set-requires-clause-ready : goal.set-requires-clause-ready
set-requires-clause-ready c =
    still-ready c.args.project.now c.args.self.now c.restore.new.self c.requires.ready
    (same-nets c.args.project.now c.args.self.now.nets c.restore.new.self.nets c.requires.ready.of
    c.restore.ensures.nets)
    (ap (λ (n : SpreadNetsView). n.spread) c.restore.ensures.nets) c.restore.ensures.stocks c.restore.ensures.started
    (ap length (c.restore.ensures.links ∙ c.requires.ready.started)
    ∙ long-within c.args.project.now c.requires.sound c.args.self.now.nets.spread)

pub set-requires-clause-states : goal.set-requires-clause-states
set-requires-clause-states c =
    states-within c.args.project.now c.requires.sound c.args.self.now.nets.spread _
    (c.restore.ensures.links ∙ c.requires.ready.started)

pub returns-clause-pair : goal.returns-clause-pair
returns-clause-pair c =
    let project = c.args.project.now in
    let spread = c.args.self.now.nets.spread in
    let links = c.restore.new.self.links.items in
    let nets = c.set.new.self.nets in
    on-ok (AreSetTo project c.restore.new.self.nets.spread links nets) _ c.set.result (λ set.
    first-pair project spread links nets (c.restore.ensures.links ∙ c.requires.ready.started)
    (subst (λ (n : SpreadNetsView). AreSetTo project n.spread links nets) c.restore.ensures.nets set))
    c.set.ensures.grids

pub returns-clause-in_range : goal.returns-clause-in_range
returns-clause-in_range c =
    subst (λ (n : SpreadNetsView). OnOk c.set.result (AreDemandsInRange c.args.project.now n.spread 0))
    c.restore.ensures.nets c.set.ensures.in_range

pub returns-clause-refused : goal.returns-clause-refused
returns-clause-refused c =
    subst (λ (n : SpreadNetsView). IfErr c.set.result (λ fault. IsFirstDemandOver c.args.project.now n.spread 0
    fault.junction fault.value)) c.restore.ensures.nets c.set.ensures.refused
