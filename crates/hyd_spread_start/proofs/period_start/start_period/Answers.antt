use Rattle.std.proofs.Common.{◌≡◌, refl, sym, ap, subst, ◌∙◌}
use Rattle.std.specs.Prelude.{length, map}
use Rattle.hyd_spec_certificates.specs.SpansAsIntervals.{levels_of}
use Rattle.hyd_spec_certificates.specs.declared.StopCause.{StopCause}
use Rattle.hyd_spec_spread_runs.specs.RunsForSpreads.{ArePairAt}
use Rattle.hyd_spec_spread_stops.specs.StopsOfSpreads.{StopsOver}
use Rattle.hyd_period_network.specs.NetsSetToPeriods.{AreLevels}
use Rattle.hyd_period_network.specs.LawsInSettings.{AreStates}
use Rattle.hyd_open_sim_start.specs.StandingsOfOpenRuns.{known_for, standing_for}
use Rattle.hyd_sim.specs.NarrowRecordsAndStops.{SaysNone}
use Rattle.hyd_sim.proofs.LevelsInOrderAtStart.{levels-there}
use Rattle.hyd_spread_networks.specs.NetsOfSpreads.{pair_of}
use Rattle.hyd_spread_networks.proofs.NetsOfBothSides.{pair_at}
use Rattle.hyd_spread_start.proofs.DemandsOver.{no-demand-over, pair-order}
use Rattle.hyd_spread_start.proofs.period_start.start_period.Goals as goal

pub set_period-requires-clause-levels : goal.set_period-requires-clause-levels
set_period-requires-clause-levels c =
    subst (AreLevels c.args.project.now) (sym c.as_slice.ensures)
    (levels-there c.args.project.now (known_for c.args.standing.now) c.args.standing.now.stocks.levels.list refl
    c.requires.standing.firm.kept c.requires.standing.firm.tidy)

pub set_period-requires-clause-tanks : goal.set_period-requires-clause-tanks
set_period-requires-clause-tanks c = ap length c.as_slice-2.ensures ∙ c.requires.standing.firm.tidy.tanks_each

pub returns-in-Ok-clause-started : goal.returns-in-Ok-clause-started
returns-in-Ok-clause-started c =
    let project = c.args.project.now in
    let here = c.args.standing.now in
    let own : c.begin.new.links ≡ c.begin.new.facts.links.list = sym c.begin.ensures.links in
    let pair : ArePairAt project c.args.nets.now.spread (known_for here) (pair_of c.set_period.new.self) =
    pair_at project c.args.nets.now.spread c.set_period.new.self here.time (map levels_of c.as_slice.result.now)
    c.as_slice-2.result.now c.begin.new.links c.in-Ok.ensures.grids (known_for here) (record {
      time_is = refl;
      links_are = sym (own ∙ c.begin.ensures.begun.links);
      levels_are = ap (map levels_of) (sym c.as_slice.ensures);
      tanks_are = sym c.as_slice-2.ensures;
    }) in
    record {
      in_range = c.in-Ok.ensures.in_range;
      are_pair = pair;
      states = λ side. subst (AreStates project) (sym (c.in-Ok.ensures.states side)) c.begin.ensures.states;
      links = λ side. c.in-Ok.ensures.states side ∙ own;
      begun = c.begin.ensures.begun;
      ready = c.begin.ensures.ready;
      number = refl;
      time = refl;
      late = refl;
      order = pair-order project c.args.nets.now.spread (known_for here) (pair_of c.set_period.new.self)
          c.requires.standing.firm.tidy pair;
    }

pub returns-in-Err-clause-in_range : goal.returns-in-Err-clause-in_range
returns-in-Err-clause-in_range c = λ in_range.
    absurd (no-demand-over c.args.project.now c.args.nets.now.spread c.args.standing.now.time c.in-Err.fault.junction
    c.in-Err.fault.value in_range c.in-Err.ensures.refused)

pub returns-in-Err-clause-stops : goal.returns-in-Err-clause-stops
returns-in-Err-clause-stops c = λ slack rounds.
    subst (λ (cause : StopCause). StopsOver c.args.project.now c.args.nets.now.spread (standing_for c.args.standing.now)
    slack rounds cause) (sym c.demand_stop.ensures) (record { period_is = refl; holds = c.in-Err.ensures.refused })

pub returns-in-Err-clause-no_vector : goal.returns-in-Err-clause-no_vector
returns-in-Err-clause-no_vector c = λ says. subst SaysNone c.demand_stop.ensures says
