-- Without a spread a run stops where a run of the network stops, and for the same cause.
use Rattle.std.proofs.Common.{ℕ, List, subst, ◌∙◌}
use Rattle.std.specs.Prelude.{Option, Some, None}
use Rattle.hyd_net.specs.Sound.{IsSound}
use Rattle.hyd_spec.specs.ProgramTypes.{Project}
use Rattle.hyd_spec_certificates.specs.declared.Problem.{Problem}
use Rattle.hyd_spec_certificates.specs.declared.Side.{Side}
use Rattle.hyd_spec_certificates.specs.declared.Side.TheVariants.{Upper}
use Rattle.hyd_spec_certificates.specs.declared.StopCause.{StopCause}
use Rattle.hyd_spec_certificates.specs.declared.StopCause.TheVariants.{Demand as DemandOutOfRange, NoCertificate}
use Rattle.hyd_spec_certificates.specs.declared.StopCause.TheVariants.{RoundsSpent, RuleOpen, EventOpen, TankOpen}
use Rattle.hyd_spec_certificates.specs.declared.StopCause.TheVariants.{ControlOpen}
use Rattle.hyd_spec_certificates.specs.Certificate.{IsTight}
use Rattle.hyd_spec_certificates.specs.Decided.{End, RuleIsOpen, EventIsOpen}
use Rattle.hyd_spec_certificates.specs.Interval.{Interval}
use Rattle.hyd_spec_certificates.specs.PeriodNetwork.{Grid}
use Rattle.hyd_spec_certificates.specs.RecordAndStanding.{Record, Standing, vector_of}
use Rattle.hyd_spec_certificates.specs.Stops.{HasNoCertificate, SpendsRounds, IsTightRow}
use Rattle.hyd_spec_open_ends.specs.Arrivals.{Arrives}
use Rattle.hyd_spec_open_ends.specs.OpenEnds.{EndsIn, IsFirstOpen}
use Rattle.hyd_spec_open_ends.specs.OpenRecords.{levels_left}
use Rattle.hyd_spec_open_ends.specs.OpenStandings.{OpenStanding}
use Rattle.hyd_spec_open_ends.specs.OpenStops.{LeavesEndOpen, EndsAtOpenLevels, LeavesTankStateOpen}
use Rattle.hyd_spec_open_ends.specs.OpenStops.{LeavesLevelControlOpen}
use Rattle.hyd_spec_open_ends.specs.PromisesOfOpenRuns.{HoldsOpenlyAt, StopsOpenly, EndsOpenlySo}
use Rattle.hyd_spec_open_spreads.specs.OpenRunsForSpreads.{spanning_openly}
use Rattle.hyd_spec_spread.specs.Spreads.{no_spread}
use Rattle.hyd_spec_spread_runs.specs.OutermostPairs.{Pair, grid_on, spanned, spanning}
use Rattle.hyd_spec_spread_stops.specs.StopsOfSpreads.{HasNoCertificateOver, SpendsRoundsOver, IsTightRowOver}
use Rattle.hyd_spec_spread_stops.specs.StopsOfSpreads.{LeavesEndOpenOver, EndsAtLevelsOver, LeavesTankOpenOver}
use Rattle.hyd_spec_spread_stops.specs.StopsOfSpreads.{LeavesControlOpenOver, HoldsOverAt, StopsOver, EndsOverSo}
use Rattle.hyd_theorems_on_open_spreads.proofs.SameBoxesOpenly.{way-same, arrives-same, levels-same}
use Rattle.hyd_theorems_on_spread_promises.proofs.OneNetwork.{own_grid, one_twice, one_on, demands_alone, first_demand}
use Rattle.hyd_theorems_on_spread_promises.proofs.OpenEndsAlone.{first-open-alone}
use Rattle.hyd_theorems_on_spread_runs.proofs.RunsAlone.{both, boxes-alone}

module _ (project : Project) (sound : IsSound project) where
  -- ---- vectors

  no-certificate : (standing : Standing) (problem : Problem) (side : Side)
      → HasNoCertificateOver project no_spread standing problem side → HasNoCertificate project standing problem side
  no-certificate standing problem side over = record {
    in_range = demands_alone project standing.time over.earlier.in_range;
    is_problem = over.earlier.is_problem;
    grid = grid_on over.network over.pair;
    is_grid = own_grid project sound standing over.pair over.earlier.are_pair over.network;
    earlier = over.earlier.earlier;
    none = over.none;
  }

  spends-rounds : (standing : Standing) (problem : Problem) (side : Side) (rounds : ℕ)
      → SpendsRoundsOver project no_spread standing problem side rounds
      → SpendsRounds project standing problem side rounds
  spends-rounds standing problem side rounds over = record {
    in_range = demands_alone project standing.time over.earlier.in_range;
    is_problem = over.earlier.is_problem;
    grid = grid_on over.network over.pair;
    is_grid = own_grid project sound standing over.pair over.earlier.are_pair over.network;
    earlier = over.earlier.earlier;
    reached = over.reached;
    by_rounds = over.by_rounds;
    not_one = over.not_one;
  }

  -- ---- matters under the tight vectors

  tight-alone : (standing : Standing) (pair : Pair) (row : Record)
      → IsTightRowOver project no_spread standing pair row → IsTightRow project standing pair.upper row
  tight-alone standing pair row tight = record {
    in_range = demands_alone project standing.time tight.in_range;
    is_grid = own_grid project sound standing pair tight.are_pair Upper;
    one_each = tight.one_each;
    each = λ problem side is. subst (λ (g : Grid). IsTight g problem side (vector_of row problem side))
        (one_on project sound standing pair tight.are_pair side) (tight.each problem side is);
  }

  end-open : (standing : OpenStanding) (slack : ℕ) (end : End)
      → LeavesEndOpenOver project no_spread standing slack end → LeavesEndOpen project standing slack end
  end-open standing slack end over = record {
    grid = over.pair.upper;
    row = over.row;
    tight = tight-alone standing.known over.pair over.row over.tight;
    is_open = first-open-alone project standing over.pair.upper over.row slack end
        (subst (λ (p : Pair). IsFirstOpen project (spanned p) standing (spanning p over.row) slack end)
        (one_twice project sound standing.known over.pair over.tight.are_pair) over.is_open);
  }

  at-levels : (standing : OpenStanding) (slack : ℕ) (levels : List Interval)
      → EndsAtLevelsOver project no_spread standing slack levels → EndsAtOpenLevels project standing slack levels
  at-levels standing slack levels over =
      let pairs = one_twice project sound standing.known over.pair over.tight.are_pair in
      let grid = over.pair.upper in
      let row = over.found.row in
      let there = boxes-alone project grid row in
      record {
        grid = grid;
        found = over.found;
        tight = tight-alone standing.known over.pair row over.tight;
        way = over.way;
        ends = way-same project standing (spanned (both grid)) grid (spanning (both grid) row) row there over.way
            (subst (λ (p : Pair). EndsIn project (spanned p) standing (spanning p row) over.way) pairs over.ends);
        within = over.within;
        shortest = over.shortest;
        longest = over.longest;
        reached = over.reached;
        arrives = arrives-same project standing (spanned (both grid)) grid (spanning (both grid) row) row there
            over.way over.reached
            (subst (λ (p : Pair). Arrives project (spanned p) standing.known (spanning p row) over.way over.reached)
            pairs over.arrives);
        levels_are = over.levels_are
            ∙ (λ i. levels_left project (spanned (pairs i)) standing.known (spanning_openly (pairs i) over.found)
            over.reached)
            ∙ levels-same project standing (spanned (both grid)) grid (spanning (both grid) row) row there
            over.found.late over.found.shortest over.reached;
      }

  tank-open : (standing : OpenStanding) (slack tank : ℕ) (level : Interval)
      → LeavesTankOpenOver project no_spread standing slack tank level
      → LeavesTankStateOpen project standing slack tank level
  tank-open standing slack tank level over = record {
    levels = over.levels;
    at_levels = at-levels standing slack over.levels over.at_levels;
    first = over.first;
    level_is = over.level_is;
  }

  control-open : (standing : OpenStanding) (slack number : ℕ) (level : Interval)
      → LeavesControlOpenOver project no_spread standing slack number level
      → LeavesLevelControlOpen project standing slack number level
  control-open standing slack number level over = record {
    levels = over.levels;
    at_levels = at-levels standing slack over.levels over.at_levels;
    tanks_decided = over.tanks_decided;
    first = over.first;
    tank = over.tank;
    above = over.above;
    ticks = over.ticks;
    control = over.control;
    is_control = over.is_control;
    is_level = over.is_level;
    level_is = over.level_is;
  }

  -- ---- the condition

  holds-alone : (standing : OpenStanding) (slack rounds : ℕ) (cause : StopCause)
      → HoldsOverAt project no_spread standing slack rounds cause
      → HoldsOpenlyAt project standing slack rounds cause
  holds-alone standing slack rounds (DemandOutOfRange period junction demand) over =
      first_demand project standing.known.time junction demand over
  holds-alone standing slack rounds (NoCertificate period problem side junction) over =
      (over.0, no-certificate standing.known problem side over.1)
  holds-alone standing slack rounds (RoundsSpent period problem side spent) over =
      (over.0, spends-rounds standing.known problem side rounds over.1)
  holds-alone standing slack rounds (RuleOpen period rule clause lo hi) over =
      end-open standing slack (RuleIsOpen (record { rule = rule; clause = clause; lo = lo; hi = hi })) over
  holds-alone standing slack rounds (EventOpen period earliest latest) over =
      end-open standing slack (EventIsOpen earliest latest) over
  holds-alone standing slack rounds (TankOpen period tank lo hi) over =
      tank-open standing slack tank (record { lo = lo; hi = hi }) over
  holds-alone standing slack rounds (ControlOpen period control lo hi) over =
      control-open standing slack control (record { lo = lo; hi = hi }) over

  pub stops_alone : (standing : OpenStanding) (slack rounds : ℕ) (cause : StopCause)
      → StopsOver project no_spread standing slack rounds cause → StopsOpenly project standing slack rounds cause
  stops_alone standing slack rounds cause over = record {
    period_is = over.period_is;
    holds = holds-alone standing slack rounds cause over.holds;
  }

  pub ends_alone : (standing : OpenStanding) (slack rounds : ℕ) (stop : Option StopCause)
      → EndsOverSo project no_spread standing slack rounds stop → EndsOpenlySo project standing slack rounds stop
  ends_alone standing slack rounds None finished = finished
  ends_alone standing slack rounds (Some cause) (unfinished, over) =
      (unfinished, stops_alone standing slack rounds cause over)
