use Rattle.std.proofs.Common.{sym, subst, ◌∙◌}
use Rattle.std.specs.Prelude.{IfErr}
use Rattle.hyd_spec_spread.specs.Spreads.{Spread, IsSpread}
use Rattle.hyd_spec_spread_refusals.specs.RefusedSpreadRecords.{IsRefusedOver}
use Rattle.hyd_open_certificates.specs.OpenRowView.{open_record_of}
use Rattle.hyd_open_sim_start.specs.StandingsOfOpenRuns.{standing_for}
use Rattle.hyd_sim.proofs.LinkStatesAtStart.{not-err}
use Rattle.hyd_spread_start.specs.StartsOver.{IsStartedOver}
use Rattle.hyd_spread_sim.proofs.HandedInOverSpreads.{demand-refused-over}
use Rattle.hyd_spread_sim.proofs.handed_in_record.check_due.Goals as goal

pub end_by-requires-clause-spread : goal.end_by-requires-clause-spread
end_by-requires-clause-spread c =
    subst (λ (s : Spread). IsSpread c.args.project.now s) (sym c.start_period.ensures.spread) c.requires.spread

pub end_by-requires-clause-started : goal.end_by-requires-clause-started
end_by-requires-clause-started c =
    subst (λ (s : Spread). IsStartedOver c.args.project.now s (standing_for c.args.standing.now)
    c.start_period.new.nets c.start_period.new.found c.start_period.new.facts) (sym c.start_period.ensures.spread)
    (not-err _ c.start_period.result (sym c.is_err.ensures.value ∙ c.if-is_err.false) c.start_period.ensures.started)

pub returns-then-is_err-clause-refused : goal.returns-then-is_err-clause-refused
returns-then-is_err-clause-refused c =
    demand-refused-over c.args.project.now c.args.nets.now.spread (standing_for c.args.standing.now)
    (open_record_of c.args.given.now) c.start_period.result (sym c.is_err.ensures.value ∙ c.if-is_err.true)
    c.start_period.ensures.in_range c.requires.in_place

pub returns-clause-refused : goal.returns-clause-refused
returns-clause-refused c =
    subst (λ (s : Spread). IfErr c.end_by.result (IsRefusedOver c.args.project.now s (standing_for c.args.standing.now)
    (open_record_of c.args.given.now))) c.start_period.ensures.spread c.end_by.ensures.refused
