use Rattle.std.proofs.Common.{◌≡◌, true, sym, subst}
use Rattle.std.specs.Prelude.{Err, Result, IfErr}
use Rattle.std.proofs.lemmas.Result.{err_from_is_err_and}
use Rattle.hyd_spec_certificates.specs.declared.StopCause.{StopCause}
use Rattle.hyd_spec_spread.specs.Spreads.{Spread, IsSpread}
use Rattle.hyd_spec_spread_reports.specs.TextsOfSpreadReports.{says_nothing}
use Rattle.hyd_spec_spread_stops.specs.StopsOfSpreads.{StopsOver}
use Rattle.hyd_open_sim_start.specs.StandingsOfOpenRuns.{known_for, standing_for}
use Rattle.hyd_spread_start.specs.StartsOver.{IsStartedOver}
use Rattle.hyd_spread_stops.specs.StuckOverSpreads.{NamesStuckOver}
use Rattle.hyd_spread_sim.proofs.StopsOverSpreads.{names-none}
use Rattle.hyd_spread_sim.proofs.due_period.do_period.Goals as goal

pub do_started-requires-clause-spread : goal.do_started-requires-clause-spread
do_started-requires-clause-spread g c =
    subst (λ (s : Spread). IsSpread c.args.project.now s) (sym c.start_period.ensures.spread) c.requires.spread

pub do_started-requires-clause-started : goal.do_started-requires-clause-started
do_started-requires-clause-started g c =
    subst (λ (s : Spread). IsStartedOver c.args.project.now s (standing_for c.args.standing.now)
    c.start_period.new.nets c.start_period.new.found c.start_period.new.facts) (sym c.start_period.ensures.spread)
    c.in_ok-start_period.ensures.started

pub do_started-requires-clause-told : goal.do_started-requires-clause-told
do_started-requires-clause-told g c = λ none.
    c.requires.told (subst (λ (s : Spread). says_nothing s ≡ true) c.start_period.ensures.spread none)

pub returns-clause-stops : goal.returns-clause-stops
returns-clause-stops g c =
    subst (λ (s : Spread). IfErr c.do_started.result (StopsOver c.args.project.now s (standing_for c.args.standing.now)
    c.args.settings.slack c.args.settings.search.rounds)) c.start_period.ensures.spread c.do_started.ensures.stops

pub returns-clause-stuck : goal.returns-clause-stuck
returns-clause-stuck g c =
    subst (λ (s : Spread). IfErr c.do_started.result (NamesStuckOver c.args.project.now s
    (known_for c.args.standing.now) c.args.settings.search.rounds)) c.start_period.ensures.spread
    c.do_started.ensures.stuck

pub returns-in_err-start_period-clause-stuck : goal.returns-in_err-start_period-clause-stuck
returns-in_err-start_period-clause-stuck g c =
    let cause = c.in_err-start_period.field-0.0 in
    let out = err_from_is_err_and c.from_residual.result c.from_residual.ensures.1 in
    let first = out.1 in
    let there = out.2 in
    let same : c.from_residual.result ≡ Err c.in_err-start_period.field-0.0 = cc in
    subst (λ (r : Result (Unit {0}) StopCause). IfErr r (NamesStuckOver c.args.project.now c.args.nets.now.spread
    (known_for c.args.standing.now) c.args.settings.search.rounds)) (sym same)
    (names-none c.args.project.now c.args.nets.now.spread (known_for c.args.standing.now)
    c.args.settings.search.rounds cause c.in_err-start_period.ensures.no_vector)
