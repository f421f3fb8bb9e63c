-- An attempt at a period: its vectors, and the end of the period by them.
-- Source: this program's.
use Rattle.std.specs.Prelude.{◌⊎◌, ◌≡◌, ◌≢◌, ℕ, suc, ◌+◌, ◌<◌, ℤ, Bool, true, false, List, Option, ◌==◌, if◌then◌else◌}
use Rattle.hyd_spec.specs.ProgramTypes.{Project}
use Rattle.hyd_spec.specs.NodeNumbers.{tank_count}
use Rattle.hyd_spec_certificates.specs.PeriodNetwork.{Grid}
use Rattle.hyd_spec_certificates.specs.RecordAndStanding.{Record, Standing}
use Rattle.hyd_spec_certificates.specs.Valid.{LeadsOn, DemandsAreInRange, IsGridAt, IsValid}
use Rattle.hyd_cert.specs.RecordView.{row_of}
use Rattle.hyd_cert.specs.declared.record.Record.{Record as Row}
use Rattle.hyd_period_facts.specs.FactsOfPeriod.{AreFacts}
use Rattle.hyd_period_facts.specs.declared.facts.Facts.{Facts}
use Rattle.hyd_period_network.specs.NetAsPeriodNetwork.{grid_of, states_of}
use Rattle.hyd_period_network.specs.NetView.{NetView}
use Rattle.hyd_period_network.specs.LawsInSettings.{AreStates}
use Rattle.hyd_spec_certificates.specs.declared.StopCause.{StopCause}
use Rattle.hyd_period_end.specs.FactsBeforeVectors.{AreBegun, AreReady}
use Rattle.hyd_period_end.specs.EndOfPeriod.{AreKeptIn}
use Rattle.hyd_period_end.specs.OpenMatters.{IsOpenAt, SharesVectors}
use Rattle.hyd_period_end.specs.declared.period_end.PeriodEnd.{PeriodEnd}
use Rattle.hyd_period_facts.specs.FactsBeforeEnd.{HaveTanks}
use Rattle.hyd_period_vectors.specs.SoughtVectors.{OfEach, IsSought, Comes, LacksFirst}
use Rattle.hyd_period_vectors.specs.declared.missing_vector.Lack.{Lack as Missing}
use Rattle.hyd_sim.specs.NarrowRecordsAndStops.{stop_of, open_stop_of, IsBySpentRounds}
use Rattle.hyd_sim.specs.RunView.{standing_at, standing_for}
use Rattle.hyd_sim.specs.declared.period_attempt.Fault.{Fault}
use Rattle.hyd_sim.specs.declared.period_attempt.Fault.TheVariants.{Lack, Open}
use Rattle.hyd_sim.specs.declared.standing_between_periods.Standing.{Standing as Here}
use Rattle.hyd_theorems_on_definitions.specs.SoundLawsAndGrids.{TanksInOrder}

-- where the run ends, the standing after its last period: the stocks, the states and the commands stay
abbrev pub last_standing : Here → Standing
last_standing here = record (standing_for here) { number = suc here.number; finished = true }

-- the standing after another period
abbrev pub later_standing : Here → ℕ → PeriodEnd → Standing
later_standing here seconds close =
    standing_at (suc here.number) (here.time + seconds) close.next close.commanded.items false

-- the standing after a period of so many seconds
abbrev pub next_standing : Project → Here → ℕ → PeriodEnd → Standing
next_standing project here seconds close =
    if here.time == project.times.duration then last_standing here else later_standing here seconds close

-- a period that begins at a standing was started: the net and the facts are those of its start, and its record has its
-- number and its time
pub record IsStarted (project : Project) (here : Here) (net : NetView) (row : Row) (facts : Facts) : Type 0 where
  pub in_range : DemandsAreInRange project here.time
  pub is_grid : IsGridAt project (standing_for here) (grid_of net)
  pub states : AreStates project (states_of net)
  pub links : states_of net ≡ facts.links.list
  pub begun : AreBegun project (standing_for here) facts
  pub ready : AreReady project facts
  pub number : row.number ≡ here.number
  pub time : row.time ≡ here.time
  pub order : TanksInOrder (grid_of net)

-- a period is over, and this is what it leaves: its record leads on, the facts are its own, and where the run goes on,
-- it lasted a second at least and the next stocks lie within the bounds of their tanks
pub record IsOver (project : Project) (here : Here) (grid : Grid) (row : Row) (facts : Facts) (close : PeriodEnd)
    : Type 0 where
  pub leads_on : LeadsOn project grid (standing_for here) (row_of row) (next_standing project here row.length close)
  pub facts_are : AreFacts project grid (standing_for here) (row_of row) facts
  pub have : HaveTanks project facts
  pub held : here.time ≢ project.times.duration → AreKeptIn project close.next
  pub later : here.time ≢ project.times.duration → 0 < row.length

-- its record is valid besides, and the net is that of the period, with links in the states of the facts
pub record IsMade (project : Project) (here : Here) (net : NetView) (row : Row) (facts : Facts) (close : PeriodEnd)
    : Type 0 where
  pub valid : IsValid project (standing_for here) (grid_of net) (row_of row)
      (next_standing project here row.length close)
  pub over : IsOver project here (grid_of net) row facts close
  pub order : TanksInOrder (grid_of net)
  pub states : AreStates project (states_of net)
  pub links : states_of net ≡ facts.links.list

-- each vector of a record is what is sought of its problem and side, whatever becomes of the others: the tight one, or
-- a certificate, and the finder's where that is one; the tight one comes by no more rounds than a search may make, and
-- so does a certificate, beside a finder that tells its vectors, unless it is one of these
pub record AreSought (tight : Bool) (told : Option (List ℤ)) (grid : Grid) (tanks rounds : ℕ) (row : Record)
    : Type 0 where
  pub each : OfEach (IsSought tight told grid tanks) tanks row
  pub come : OfEach (Comes tight told grid tanks rounds) tanks row

-- an attempt that doesn't stop the run found each vector that it sought, or spent its rounds toward the first that lacks
abbrev pub GoesOn : Option (List ℤ) → Grid → ℕ → ℕ → Record → Type 0
GoesOn told grid tanks rounds row = AreSought false told grid tanks rounds row
    ⊎ ((lack : Missing) × (IsBySpentRounds lack × LacksFirst false told grid tanks rounds row lack))

-- why an attempt at a period failed: a vector is lacking, or they leave a matter open, as any record with them does
abbrev pub IsFault : Bool → Option (List ℤ) → Project → Grid → Standing → ℕ → Record → Fault → Type 0
IsFault tight told project grid standing rounds row (Lack lack) =
    LacksFirst tight told grid (tank_count project) rounds row lack
IsFault tight told project grid standing rounds row (Open found) =
    AreSought tight told grid (tank_count project) rounds row
    × ((other : Record) → SharesVectors other row → IsOpenAt project grid standing other found)

-- the stop of a period whose vectors are as sharp as can be
abbrev pub fault_stop_of : ℕ → ℕ → Fault → StopCause
fault_stop_of number rounds (Lack lack) = stop_of number rounds lack
fault_stop_of number rounds (Open found) = open_stop_of number found
