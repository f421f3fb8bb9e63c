-- Valid records of periods that begin and end at times known to lie between two seconds, and the standings that they
-- lead on to.
-- Source: this program's.
use Rattle.std.specs.Prelude.{◌≡◌, ◌≢◌, ℕ, suc, ◌+◌, true, false, List, Option}
use Rattle.hyd_spec.specs.ProgramTypes.{Project, Tank, LinkState}
use Rattle.hyd_spec.specs.Lists.{map_from}
use Rattle.hyd_spec.specs.Tank.{walls_of}
use Rattle.hyd_spec_certificates.specs.Interval.{Interval}
use Rattle.hyd_spec_certificates.specs.PeriodNetwork.{Grid}
use Rattle.hyd_spec_certificates.specs.RecordAndStanding.{Record, Standing}
use Rattle.hyd_spec_certificates.specs.Stocks.{Stocks}
use Rattle.hyd_spec_certificates.specs.Decided.{Watch, stocks_of_tank, inflow_of_tank, links_at}
use Rattle.hyd_spec_certificates.specs.Valid.{IsGridAt, DemandsAreInRange, AreCertificates, AreStates}
use Rattle.hyd_spec_certificates.specs.Valid.{ControlsAreDecided}
use Rattle.hyd_spec_open_ends.specs.OpenStandings.{OpenStanding, OpenRecord}
use Rattle.hyd_spec_open_ends.specs.StocksOverLengths.{carried_at_end, stocks_at_end, kept}
use Rattle.hyd_spec_open_ends.specs.RulesOverLengths.{acted_over}
use Rattle.hyd_spec_open_ends.specs.OpenEnds.{Way, ByRules, ByInstant, ByWatched, EndsIn, first_end, late_at_end}
use Rattle.hyd_spec_open_ends.specs.OpenEnds.{shortest_length, longest_length}
use Rattle.hyd_spec_open_ends.specs.Arrivals.{Arrives, arrival_of}

-- ---- what the end leaves

-- The carried levels of tank number k at the end of the record's period, where this level was just reached.
abbrev pub carried_left : Project → Grid → Standing → OpenRecord → Option Watch → ℕ → Tank → Interval
carried_left project grid standing found reached k tank =
    carried_at_end (walls_of project tank) tank (stocks_of_tank standing k) (inflow_of_tank project grid found.row k)
    found.shortest found.row.length (arrival_of found.shortest reached k)

-- Its stocks there, before it is looked at what they keep.
abbrev pub stocks_left : Project → Grid → Standing → OpenRecord → Option Watch → ℕ → Tank → Stocks
stocks_left project grid standing found reached k tank =
    stocks_at_end (walls_of project tank) tank (stocks_of_tank standing k) (inflow_of_tank project grid found.row k)
    found.shortest found.row.length (arrival_of found.shortest reached k)

-- The level interval with which its next period begins: that of its stocks, which keeps what has been reached.
abbrev pub level_left : Project → Grid → Standing → OpenRecord → Option Watch → ℕ → Tank → Interval
level_left project grid standing found reached k tank =
    kept project.controls.list k (carried_left project grid standing found reached k tank)
    (stocks_left project grid standing found reached k tank).level

-- The level intervals of all tanks, and their volume intervals.
abbrev pub levels_left : Project → Grid → Standing → OpenRecord → Option Watch → List Interval
levels_left project grid standing found reached =
    map_from (level_left project grid standing found reached) 0 project.tanks.list

abbrev pub volumes_left : Project → Grid → Standing → OpenRecord → Option Watch → List Interval
volumes_left project grid standing found reached =
    map_from (λ k tank. (stocks_left project grid standing found reached k tank).volume) 0 project.tanks.list

-- The link states that are commanded there: those of the rules' actions where rules end the period.
abbrev pub links_left : Project → Grid → OpenStanding → Record → Way → List LinkState
links_left project grid standing row (ByRules seconds) = acted_over project grid standing row seconds
links_left project grid standing row (ByInstant seconds) = links_at project standing.known
links_left project grid standing row (ByWatched earliest latest) = links_at project standing.known

-- ---- leading on

-- Before the end of the run a record leads on to the next standing: it has the lengths of the decided way, and each
-- matter of its end is decided.
pub record ContinuesOpenly (project : Project) (grid : Grid) (standing : OpenStanding) (found : OpenRecord)
    (next : OpenStanding) : Type 0 where
  pub not_last : standing.known.time ≢ project.times.duration
  pub way : Way
  pub ends : EndsIn project grid standing found.row way
  pub reached : Option Watch
  pub arrives : Arrives project grid standing.known found.row way reached
  pub shortest : found.shortest ≡ shortest_length standing.late way
  pub longest : found.row.length ≡ longest_length way
  pub levels : next.known.levels ≡ levels_left project grid standing.known found reached
  pub volumes : next.known.volumes ≡ volumes_left project grid standing.known found reached
  pub tanks : AreStates project next.known.levels next.known.tanks
  pub controls : ControlsAreDecided project next.known.levels
  pub commanded : next.known.commanded ≡ links_left project grid standing found.row way
  pub number : next.known.number ≡ suc standing.known.number
  pub time : next.known.time ≡ standing.known.time + first_end way
  pub late : next.late ≡ late_at_end standing.late way
  pub unfinished : next.known.finished ≡ false

-- At the end of the run, where no start is open, a record has length 0 and no matters: the stocks, the states and the
-- commands stay, and nothing follows.
pub record FinishesOpenly (standing : OpenStanding) (found : OpenRecord) (project : Project) (next : OpenStanding) :
    Type 0 where
  pub is_last : standing.known.time ≡ project.times.duration
  pub no_shortest : found.shortest ≡ 0
  pub no_length : found.row.length ≡ 0
  pub next_known : next.known ≡ record standing.known { number = suc standing.known.number; finished = true }
  pub next_late : next.late ≡ 0

-- A record leads on to the next standing, or finishes the run.
pub data LeadsOnOpenly (project : Project) (grid : Grid) (standing : OpenStanding) (found : OpenRecord)
    (next : OpenStanding) : Type 0 where
  continues : ContinuesOpenly project grid standing found next → LeadsOnOpenly project grid standing found next
  finishes : FinishesOpenly standing found project next → LeadsOnOpenly project grid standing found next

-- ---- valid records

-- A record is valid at a standing, on the grid of its period, and leads on to the next one. As in a run without open
-- ends, and its start is open as long as that of the standing.
pub record IsValidOpenly (project : Project) (standing : OpenStanding) (grid : Grid) (found : OpenRecord)
    (next : OpenStanding) : Type 0 where
  pub unfinished : standing.known.finished ≡ false
  pub number : found.row.number ≡ standing.known.number
  pub time : found.row.time ≡ standing.known.time
  pub late : found.late ≡ standing.late
  pub demands : DemandsAreInRange project standing.known.time
  pub is_grid : IsGridAt project standing.known grid
  pub certificates : AreCertificates project grid found.row
  pub leads_on : LeadsOnOpenly project grid standing found next
