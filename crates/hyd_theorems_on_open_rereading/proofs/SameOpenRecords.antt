-- Records with open ends that are valid are valid of alike parts, and lead on to the same standings.
use Rattle.std.proofs.Common.{◌≡◌, ℕ, List, ap, ap₂, subst, ◌∙◌}
use Rattle.std.specs.Prelude.{Option}
use Rattle.hyd_spec.specs.ProgramTypes.{Project, Tank}
use Rattle.hyd_spec.specs.Tank.{Walls}
use Rattle.hyd_spec_certificates.specs.Interval.{Interval}
use Rattle.hyd_spec_certificates.specs.PeriodNetwork.{Grid}
use Rattle.hyd_spec_certificates.specs.RecordAndStanding.{Record, Standing}
use Rattle.hyd_spec_certificates.specs.Stocks.{Stocks}
use Rattle.hyd_spec_certificates.specs.Decided.{Watch, stocks_of_tank}
use Rattle.hyd_spec_open_ends.specs.OpenStandings.{OpenStanding, OpenRecord, initial_open_standing}
use Rattle.hyd_spec_open_ends.specs.StocksOverLengths.{carried_at_end, stocks_at_end, kept}
use Rattle.hyd_spec_open_ends.specs.OpenEnds.{Way, ByRules, ByInstant, ByWatched}
use Rattle.hyd_spec_open_ends.specs.Arrivals.{arrival_of}
use Rattle.hyd_spec_open_ends.specs.OpenRecords.{carried_left, stocks_left, level_left, levels_left, volumes_left}
use Rattle.hyd_spec_open_ends.specs.OpenRecords.{links_left, ContinuesOpenly, FinishesOpenly, LeadsOnOpenly, continues}
use Rattle.hyd_spec_open_ends.specs.OpenRecords.{finishes, IsValidOpenly}
use Rattle.hyd_spec_open_ends.specs.OpenRuns.{OpenFound, IsOpenRunFrom, IsOpenRun, none, more}
use Rattle.hyd_theorems_on_rereading.proofs.PartsWithSpares.{Inner, with_inner, AreAlike}
use Rattle.hyd_theorems_on_rereading.proofs.SameQuantities.{same_walls}
use Rattle.hyd_theorems_on_rereading.proofs.SameLinkStatesAtStart.{same_links_at}
use Rattle.hyd_theorems_on_rereading.proofs.SameDecidedMatters.{same_map_from, same_inflow}
use Rattle.hyd_theorems_on_rereading.proofs.SameGridsAndCertificates.{demands_on, grid_on, certificates_on}
use Rattle.hyd_theorems_on_rereading.proofs.SameValidRecords.{same_initial}
use Rattle.hyd_theorems_on_open_rereading.proofs.SameOpenEnds.{same_acted_over, ends_on, arrives_on}

module _ (p : Project) (x y : Inner) (alike : AreAlike x y) where
  -- ---- what the end leaves

  module _ (grid : Grid) (standing : Standing) (found : OpenRecord) (reached : Option Watch) where
    pub same_carried_left : (k : ℕ) (tank : Tank)
        → carried_left (with_inner p x) grid standing found reached k tank
        ≡ carried_left (with_inner p y) grid standing found reached k tank
    same_carried_left k tank =
        ap₂ (λ (walls : Walls) (inflow : Interval). carried_at_end walls tank (stocks_of_tank standing k) inflow
        found.shortest found.row.length (arrival_of found.shortest reached k)) (same_walls p x y alike tank)
        (same_inflow p x y alike grid standing found.row k)

    same_stocks_left : (k : ℕ) (tank : Tank)
        → stocks_left (with_inner p x) grid standing found reached k tank
        ≡ stocks_left (with_inner p y) grid standing found reached k tank
    same_stocks_left k tank =
        ap₂ (λ (walls : Walls) (inflow : Interval). stocks_at_end walls tank (stocks_of_tank standing k) inflow
        found.shortest found.row.length (arrival_of found.shortest reached k)) (same_walls p x y alike tank)
        (same_inflow p x y alike grid standing found.row k)

    same_levels_left : levels_left (with_inner p x) grid standing found reached
        ≡ levels_left (with_inner p y) grid standing found reached
    same_levels_left = same_map_from (level_left (with_inner p x) grid standing found reached)
        (level_left (with_inner p y) grid standing found reached)
        (λ k tank. ap₂ (λ (carried : Interval) (stocks : Stocks). kept p.controls.list k carried stocks.level)
        (same_carried_left k tank) (same_stocks_left k tank)) 0 p.tanks.list

    same_volumes_left : volumes_left (with_inner p x) grid standing found reached
        ≡ volumes_left (with_inner p y) grid standing found reached
    same_volumes_left = same_map_from
        (λ k (tank : Tank). (stocks_left (with_inner p x) grid standing found reached k tank).volume)
        (λ k (tank : Tank). (stocks_left (with_inner p y) grid standing found reached k tank).volume)
        (λ k tank. ap (λ (stocks : Stocks). stocks.volume) (same_stocks_left k tank)) 0 p.tanks.list

  same_links_left : (grid : Grid) (standing : OpenStanding) (row : Record) (way : Way)
      → links_left (with_inner p x) grid standing row way ≡ links_left (with_inner p y) grid standing row way
  same_links_left grid standing row (ByRules seconds) = same_acted_over p x y alike grid standing row seconds
  same_links_left grid standing row (ByInstant seconds) = same_links_at p x y alike standing.known
  same_links_left grid standing row (ByWatched earliest latest) = same_links_at p x y alike standing.known

  -- ---- the next standing

  continues_on : (grid : Grid) (standing : OpenStanding) (found : OpenRecord) (next : OpenStanding)
      → ContinuesOpenly (with_inner p x) grid standing found next
      → ContinuesOpenly (with_inner p y) grid standing found next
  continues_on grid standing found next is = record {
    not_last = is.not_last;
    way = is.way;
    ends = ends_on p grid standing found.row x y alike is.way is.ends;
    reached = is.reached;
    arrives = arrives_on p grid standing.known found.row x y alike is.way is.reached is.arrives;
    shortest = is.shortest;
    longest = is.longest;
    levels = is.levels ∙ same_levels_left grid standing.known found is.reached;
    volumes = is.volumes ∙ same_volumes_left grid standing.known found is.reached;
    tanks = is.tanks;
    controls = is.controls;
    commanded = is.commanded ∙ same_links_left grid standing found.row is.way;
    number = is.number;
    time = is.time;
    late = is.late;
    unfinished = is.unfinished;
  }

  finishes_on : (standing : OpenStanding) (found : OpenRecord) (next : OpenStanding)
      → FinishesOpenly standing found (with_inner p x) next → FinishesOpenly standing found (with_inner p y) next
  finishes_on standing found next is = record {
    is_last = is.is_last;
    no_shortest = is.no_shortest;
    no_length = is.no_length;
    next_known = is.next_known;
    next_late = is.next_late;
  }

  leads_on : (grid : Grid) (standing : OpenStanding) (found : OpenRecord) (next : OpenStanding)
      → LeadsOnOpenly (with_inner p x) grid standing found next
      → LeadsOnOpenly (with_inner p y) grid standing found next
  leads_on grid standing found next (continues is) = continues (continues_on grid standing found next is)
  leads_on grid standing found next (finishes is) = finishes (finishes_on standing found next is)

  -- ---- records

  valid_on : (standing : OpenStanding) (grid : Grid) (found : OpenRecord) (next : OpenStanding)
      → IsValidOpenly (with_inner p x) standing grid found next
      → IsValidOpenly (with_inner p y) standing grid found next
  valid_on standing grid found next is = record {
    unfinished = is.unfinished;
    number = is.number;
    time = is.time;
    late = is.late;
    demands = demands_on p x y alike standing.known.time is.demands;
    is_grid = grid_on p x y alike standing.known grid is.is_grid;
    certificates = certificates_on p x y alike grid found.row is.certificates;
    leads_on = leads_on grid standing found next is.leads_on;
  }

  run_from_on : (slack : ℕ) (standing : OpenStanding) (founds : List OpenFound) (last : OpenStanding)
      → IsOpenRunFrom (with_inner p x) slack standing founds last
      → IsOpenRunFrom (with_inner p y) slack standing founds last
  run_from_on slack _ _ _ none = none
  run_from_on slack _ _ last (more {here = here} {rest = rest} is within on) =
      more (valid_on here.standing here.grid here.found here.next is) within
      (run_from_on slack here.next rest last on)

  -- ---- from the start on

  pub run_on : (slack : ℕ) (founds : List OpenFound) (last : OpenStanding)
      → IsOpenRun (with_inner p x) slack founds last → IsOpenRun (with_inner p y) slack founds last
  run_on slack founds last run =
      subst (λ (s : Standing). IsOpenRunFrom (with_inner p y) slack (record { known = s; late = 0 }) founds last)
      (same_initial p x y alike)
      (run_from_on slack (initial_open_standing (with_inner p x)) founds last run)
