-- Valid records: what a record claims at a standing, and the standing that it leads on to.
-- Source: this program's.
use Rattle.std.specs.Prelude.{◌≡◌, ◌≢◌, ℕ, suc, ◌+◌, ◌<◌, ◌≤◌, ℤ, Bool, true, false, IsFalse, List, [], ◌∷◌, Some}
use Rattle.std.specs.Prelude.{map, length, slice_index_or, unsigned_abs, All, Contains, ⊤}
use Rattle.hyd_spec.specs.PassedOn.{flow_limit}
use Rattle.hyd_spec.specs.ProgramTypes.{Project, Tank, LinkState, Control, AtLevel}
use Rattle.hyd_spec.specs.declared.TankState.{TankState}
use Rattle.hyd_spec_certificates.specs.declared.Problem.{Problem}
use Rattle.hyd_spec_certificates.specs.declared.Problem.TheVariants.{Main, Pinned}
use Rattle.hyd_spec_certificates.specs.declared.Side.{Side}
use Rattle.hyd_spec.specs.Lists.{map_from}
use Rattle.hyd_spec_certificates.specs.Interval.{Interval}
use Rattle.hyd_spec.specs.NodeNumbers.{tank_count}
use Rattle.hyd_spec.specs.DemandsHeadsAndPumpLifts.{demand_of}
use Rattle.hyd_spec.specs.Rules.{acted}
use Rattle.hyd_spec_certificates.specs.PeriodNetwork.{Grid, IsGrid}
use Rattle.hyd_spec_certificates.specs.Certificate.{IsCertificate}
use Rattle.hyd_spec_certificates.specs.RecordAndStanding.{Record, Standing, vector_of, initial_standing}
use Rattle.hyd_spec.specs.Tank.{walls_of}
use Rattle.hyd_spec_certificates.specs.Stocks.{Stocks, next_stocks, state_of}
use Rattle.hyd_spec_certificates.specs.ThreeValuedLogic.{is_yes, is_unknown}
use Rattle.hyd_spec_certificates.specs.Decided.{links_at, stocks_of_tank, inflow_of_tank, nowhere, control_truth}
use Rattle.hyd_spec_certificates.specs.Decided.{rule_truths, EndsBy, ByRules, WithoutRules}

-- ---- the vectors

-- A problem of the network: with all tanks alike, or with one of its tanks pinned.
abbrev pub IsProblem : Project → Problem → Type 0
IsProblem project Main = ⊤
IsProblem project (Pinned tank) = tank < tank_count project

-- The grid of the period that begins at a standing.
abbrev pub IsGridAt : Project → Standing → Grid → Type 0
IsGridAt project standing grid =
    IsGrid project standing.time standing.levels standing.tanks (links_at project standing) grid

-- A demand's magnitude is at most this, in flow ticks: as great as a flow of a file.
abbrev pub demand_limit : ℕ
demand_limit = flow_limit

-- All demands at a time are in range.
abbrev pub DemandsAreInRange : Project → ℕ → Type 0
DemandsAreInRange project time =
    All (λ junction. unsigned_abs (demand_of project time junction) ≤ demand_limit) project.junctions.list

-- Each vector of the record is a certificate of its problem and side.
pub record AreCertificates (project : Project) (grid : Grid) (row : Record) : Type 0 where
  pub pinned_each : length row.pinned ≡ tank_count project
  pub each : (problem : Problem) (side : Side) → IsProblem project problem
      → IsCertificate grid problem side (vector_of row problem side)

-- ---- the end of the period

-- A period that doesn't begin at the end of the run ends, decidedly, after so many seconds, and leaves the
-- links commanded so.
pub data LeavesLinks (project : Project) (grid : Grid) (standing : Standing) (row : Record) : ℕ → List LinkState
    → Type 0 where
  by_rules : {seconds : ℕ} → EndsBy project grid standing row (ByRules seconds)
      → LeavesLinks project grid standing row seconds
      (acted project (map is_yes (rule_truths project grid standing row seconds)) (links_at project standing))
  by_clock : {seconds : ℕ} → EndsBy project grid standing row (WithoutRules seconds)
      → LeavesLinks project grid standing row seconds (links_at project standing)

-- The stocks of tank number k at the end of a period of some length.
abbrev pub stocks_next : Project → Grid → Standing → Record → ℕ → ℕ → Tank → Stocks
stocks_next project grid standing row seconds k tank =
    next_stocks (walls_of project tank) tank (stocks_of_tank standing k) (inflow_of_tank project grid row k) seconds

-- The level intervals at the end of a period of some length.
abbrev pub levels_next : Project → Grid → Standing → Record → ℕ → List Interval
levels_next project grid standing row seconds =
    map_from (λ k tank. (stocks_next project grid standing row seconds k tank).level) 0 project.tanks.list

-- The volume intervals there.
abbrev pub volumes_next : Project → Grid → Standing → Record → ℕ → List Interval
volumes_next project grid standing row seconds =
    map_from (λ k tank. (stocks_next project grid standing row seconds k tank).volume) 0 project.tanks.list

-- Each tank's state is decided at its level interval.
abbrev pub AreStates : Project → List Interval → List TankState → Type 0
AreStates project levels states =
    map_from (λ k tank. state_of tank (slice_index_or levels k nowhere)) 0 project.tanks.list ≡ map Some states

-- Each level control is decided at the level intervals.
abbrev pub ControlsAreDecided : Project → List Interval → Type 0
ControlsAreDecided project levels =
    (control : Control) (tank : ℕ) (above : Bool) (ticks : ℤ) → Contains project.controls.list control
    → control.when ≡ AtLevel tank above ticks
    → IsFalse (is_unknown (control_truth (slice_index_or levels tank nowhere) above ticks))

-- Before the end of the run a record leads on from a standing to the next one: its length is the decided one, and each
-- matter of its end is decided.
pub record Continues (project : Project) (grid : Grid) (standing : Standing) (row : Record) (next : Standing) : Type 0
  where
    pub not_last : standing.time ≢ project.times.duration
    pub leaves_links : LeavesLinks project grid standing row row.length next.commanded
    pub levels : next.levels ≡ levels_next project grid standing row row.length
    pub volumes : next.volumes ≡ volumes_next project grid standing row row.length
    pub tanks : AreStates project next.levels next.tanks
    pub controls : ControlsAreDecided project next.levels
    pub number : next.number ≡ suc standing.number
    pub time : next.time ≡ standing.time + row.length
    pub unfinished : next.finished ≡ false

-- At the end of the run a record has length 0 and no matters: the stocks, the states and the commands stay, and nothing
-- follows.
pub record Finishes (project : Project) (standing : Standing) (row : Record) (next : Standing) : Type 0 where
  pub is_last : standing.time ≡ project.times.duration
  pub no_length : row.length ≡ 0
  pub next_is : next ≡ record standing { number = suc standing.number; finished = true }

-- A record leads on to the next standing, or finishes the run.
pub data LeadsOn (project : Project) (grid : Grid) (standing : Standing) (row : Record) (next : Standing) : Type 0 where
  continues : Continues project grid standing row next → LeadsOn project grid standing row next
  finishes : Finishes project standing row next → LeadsOn project grid standing row next

-- ---- valid records

-- A record is valid at a standing, on the grid of its period, and leads on to the next standing: it has the
-- standing's number and time and doesn't come after the end of the run, the demands are in range, its vectors
-- are certificates, all its matters are decided and its length is the decided one.
pub record IsValid (project : Project) (standing : Standing) (grid : Grid) (row : Record) (next : Standing) : Type 0
  where
    pub unfinished : standing.finished ≡ false
    pub number : row.number ≡ standing.number
    pub time : row.time ≡ standing.time
    pub demands : DemandsAreInRange project standing.time
    pub is_grid : IsGridAt project standing grid
    pub certificates : AreCertificates project grid row
    pub leads_on : LeadsOn project grid standing row next

-- The records are valid one after another, from one standing to another.
pub data AreValidFrom (project : Project) : Standing → List Record → Standing → Type 0 where
  none : {standing : Standing} → AreValidFrom project standing [] standing
  more : {standing next last : Standing} {row : Record} {rows : List Record} (grid : Grid)
      → IsValid project standing grid row next → AreValidFrom project next rows last
      → AreValidFrom project standing (row ∷ rows) last

-- The records of a run are valid from its start on, and leave a standing.
abbrev pub AreValid : Project → List Record → Standing → Type 0
AreValid project rows standing = AreValidFrom project (initial_standing project) rows standing
