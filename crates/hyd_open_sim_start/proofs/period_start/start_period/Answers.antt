use Rattle.std.proofs.Common.{◌≡◌, refl, sym, ap, subst, ◌∙◌, List}
use Rattle.std.specs.Prelude.{length, map}
use Rattle.hyd_spec.specs.ProgramTypes.{LinkState}
use Rattle.hyd_spec.specs.declared.TankState.{TankState}
use Rattle.hyd_spec_certificates.specs.SpansAsIntervals.{levels_of}
use Rattle.hyd_spec_certificates.specs.PeriodNetwork.{IsGrid}
use Rattle.hyd_spec_certificates.specs.Valid.{IsGridAt}
use Rattle.hyd_spec_certificates.specs.declared.LevelSpan.{LevelSpan}
use Rattle.hyd_spec_open_ends.specs.PromisesOfOpenRuns.{StopsOpenly}
use Rattle.hyd_spec_certificates.specs.declared.StopCause.{StopCause}
use Rattle.hyd_period_network.specs.NetAsPeriodNetwork.{grid_of}
use Rattle.hyd_period_network.specs.NetsSetToPeriods.{AreLevels}
use Rattle.hyd_period_network.specs.LawsInSettings.{AreStates}
use Rattle.hyd_sim.specs.NarrowRecordsAndStops.{NamesStuck}
use Rattle.hyd_open_sim_start.specs.StandingsOfOpenRuns.{known_for, standing_for}
use Rattle.hyd_sim.proofs.LevelsInOrderAtStart.{levels-there, order-there}
use Rattle.hyd_sim.proofs.StopsAndTightRecords.{no-demand-out}
use Rattle.hyd_open_sim_start.proofs.period_start.start_period.Goals as goal

pub set_period-requires-clause-levels : goal.set_period-requires-clause-levels
set_period-requires-clause-levels c =
    subst (AreLevels c.args.project.now) (sym c.as_slice.ensures)
    (levels-there c.args.project.now (known_for c.args.standing.now) c.args.standing.now.stocks.levels.list refl
    c.requires.standing.firm.kept c.requires.standing.firm.tidy)

pub set_period-requires-clause-tanks : goal.set_period-requires-clause-tanks
set_period-requires-clause-tanks c = ap length c.as_slice-2.ensures ∙ c.requires.standing.firm.tidy.tanks_each

pub returns-in-Ok-clause-started : goal.returns-in-Ok-clause-started
returns-in-Ok-clause-started c =
    let project = c.args.project.now in
    let here = c.args.standing.now in
    let grid = grid_of c.set_period.new.self in
    let own : c.begin.new.links ≡ c.begin.new.facts.links.list = sym c.begin.ensures.links in
    let is : IsGridAt project (known_for here) grid =
    subst (λ (ls : List LinkState). IsGrid project here.time (map levels_of here.stocks.levels.list)
    here.stocks.tanks.list ls grid) (own ∙ c.begin.ensures.begun.links)
    (subst (λ (ts : List TankState). IsGrid project here.time (map levels_of here.stocks.levels.list) ts
    c.begin.new.links grid) c.as_slice-2.ensures
    (subst (λ (xs : List LevelSpan). IsGrid project here.time (map levels_of xs) c.as_slice-2.result.now
    c.begin.new.links grid) c.as_slice.ensures c.in-Ok.ensures.grid)) in
    record {
      in_range = c.in-Ok.ensures.in_range;
      is_grid = is;
      states = subst (AreStates project) (sym c.in-Ok.ensures.states) c.begin.ensures.states;
      links = c.in-Ok.ensures.states ∙ own;
      begun = c.begin.ensures.begun;
      ready = c.begin.ensures.ready;
      number = refl;
      time = refl;
      late = refl;
      order = order-there project (known_for here) grid c.requires.standing.firm.tidy is;
    }

pub returns-in-Err-clause-in_range : goal.returns-in-Err-clause-in_range
returns-in-Err-clause-in_range c = λ in_range.
    absurd (no-demand-out c.args.project.now c.args.standing.now.time c.in-Err.fault.junction c.in-Err.fault.value
    in_range c.in-Err.ensures.refused)

pub returns-in-Err-clause-stops : goal.returns-in-Err-clause-stops
returns-in-Err-clause-stops c = λ slack rounds.
    subst (λ (cause : StopCause). StopsOpenly c.args.project.now (standing_for c.args.standing.now) slack rounds cause)
    (sym c.demand_stop.ensures) (record { period_is = refl; holds = c.in-Err.ensures.refused })

pub returns-in-Err-clause-stuck : goal.returns-in-Err-clause-stuck
returns-in-Err-clause-stuck c = λ rounds.
    subst (λ (cause : StopCause). NamesStuck c.args.project.now (known_for c.args.standing.now) rounds cause)
    (sym c.demand_stop.ensures) (record { stuck = λ period q t j e. absurd (cc) })
