use Rattle.std.proofs.Common.{List, map, ap, subst, ◌∙◌}
use Rattle.hyd_spec.specs.declared.TankState.{TankState}
use Rattle.hyd_spec_certificates.specs.Interval.{Interval}
use Rattle.hyd_spec_certificates.specs.SpansAsIntervals.{levels_of}
use Rattle.hyd_spec_certificates.specs.RecordAndStanding.{initial_standing}
use Rattle.hyd_spec_certificates.specs.PeriodNetwork.{IsGrid}
use Rattle.hyd_period_network.specs.NetAsPeriodNetwork.{grid_of}
use Rattle.hyd_lemmas.proofs.ListsOptionsAndResults.{on-ok}
use Rattle.hyd_first_period.proofs.LinksAtFirst.{levels-at-first, order-at-first}
use Rattle.hyd_first_period.proofs.first_period.FirstPeriod.set.Goals as goal

pub set_period-requires-clause-levels : goal.set_period-requires-clause-levels
set_period-requires-clause-levels c =
    levels-at-first c.args.project.now c.requires.sound c.as_slice.result.now
    (ap (map levels_of) c.as_slice.ensures ∙ c.requires.ready.stocks.levels)

pub returns-clause-order : goal.returns-clause-order
returns-clause-order c =
    let project = c.args.project.now in
    on-ok _ _ c.set_period.result (λ is.
    order-at-first project c.requires.sound c.deref.result.now (grid_of c.set_period.new.self)
    (subst (λ (ts : List TankState). IsGrid project 0 (initial_standing project).levels ts c.deref.result.now
    (grid_of c.set_period.new.self)) (c.as_slice-2.ensures ∙ c.requires.ready.stocks.tanks)
    (subst (λ (ls : List Interval). IsGrid project 0 ls c.as_slice-2.result.now c.deref.result.now
    (grid_of c.set_period.new.self)) (ap (map levels_of) c.as_slice.ensures ∙ c.requires.ready.stocks.levels) is)))
    c.set_period.ensures.grid
