-- What a step of a run gives.
-- Source: this program's.
use Rattle.std.specs.Prelude.{◌≡◌, ◌⊎◌, ℕ, ℤ, true, false, List, length, Option, Some, None, MatchBool}
use Rattle.hyd_spec.specs.ProgramTypes.{Project}
use Rattle.hyd_spec.specs.NodeNumbers.{tank_count}
use Rattle.hyd_spec_certificates.specs.declared.Problem.{Problem}
use Rattle.hyd_spec_certificates.specs.declared.Side.{Side}
use Rattle.hyd_spec_certificates.specs.PeriodNetwork.{Grid}
use Rattle.hyd_spec_certificates.specs.Certificate.{IsTight}
use Rattle.hyd_spec_certificates.specs.Narrow.{IsNarrow}
use Rattle.hyd_spec_certificates.specs.RecordAndStanding.{Record, Standing, vector_of}
use Rattle.hyd_spec_certificates.specs.Valid.{IsProblem, IsGridAt, IsValid}
use Rattle.hyd_spec_certificates.specs.Stops.{Stops}
use Rattle.hyd_cert.specs.RecordView.{row_of}
use Rattle.hyd_cert.specs.declared.record.Record.{Record as Row}
use Rattle.hyd_period_facts.specs.FactsOfPeriod.{AreFacts}
use Rattle.hyd_period_facts.specs.declared.facts.Facts.{Facts}
use Rattle.hyd_period_network.specs.NetAsPeriodNetwork.{grid_of, states_of}
use Rattle.hyd_period_network.specs.NetView.{NetView}
use Rattle.hyd_period_network.specs.LawsInSettings.{AreStates}
use Rattle.hyd_period_facts.specs.FactsBeforeEnd.{HaveTanks}
use Rattle.hyd_period_end.specs.declared.period_end.PeriodEnd.{PeriodEnd}
use Rattle.hyd_period_vectors.specs.SoughtVectors.{IsTold, Tells, AreSpent, OfEach}
use Rattle.hyd_sim.specs.PeriodAttempt.{next_standing, IsMade, AreSought}
use Rattle.hyd_sim.specs.RunView.{SimView, standing_for, standing_of}
use Rattle.hyd_sim.specs.declared.settings.Settings.{Settings}
use Rattle.hyd_sim.specs.declared.standing_between_periods.Standing.{Standing as Here}
use Rattle.hyd_sim.specs.declared.steps.Step.{Step}
use Rattle.hyd_sim.specs.declared.steps.Step.TheVariants.{Period, Finished, Stop}
use Rattle.hyd_theorems_on_definitions.specs.SoundLawsAndGrids.{TanksInOrder}

-- all vectors of a record are the tight ones
abbrev pub AreTight : Project → Grid → Record → Type 0
AreTight project grid row = (problem : Problem) (side : Side) → IsProblem project problem
    → IsTight grid problem side (vector_of row problem side)

-- a record is as sharp as the settings ask: where they ask for tight vectors these are tight, else they are or the
-- record is narrow
abbrev pub IsSharp : Project → Settings → Standing → Grid → Record → Standing → Type 0
IsSharp project settings standing grid row next =
    MatchBool settings.tight (AreTight project grid row)
    (AreTight project grid row ⊎ IsNarrow settings.width standing row next)

-- the vectors of a record that is as sharp as the settings ask are those that were sought: tight ones; or, where not
-- all need be tight, the record is narrow, and each vector is a certificate, and the finder's where that is one,
-- whether or not it tells certificates of the others
abbrev pub IsSharpAsSought : Option (List ℤ) → Project → Settings → Standing → Grid → Record → Standing → Type 0
IsSharpAsSought told project settings standing grid row next =
    MatchBool settings.tight (AreSought true told grid (tank_count project) settings.rounds row)
    (AreSought true told grid (tank_count project) settings.rounds row
    ⊎ (IsNarrow settings.width standing row next
    × AreSought false told grid (tank_count project) settings.rounds row))

-- a vector is left to rounds: the finder tells no certificate of this problem and side, this is the tight one, and it
-- isn't so that as many plain rounds as a search may make lead to no certificate
pub record IsLeftToRounds (told : Option (List ℤ)) (grid : Grid) (tanks rounds : ℕ) (problem : Problem) (side : Side)
    (u : List ℤ) : Type 0 where
  pub untold : (w : List ℤ) → IsTold told grid tanks problem side w → ⊥
  pub tight : IsTight grid problem side u
  pub unspent : AreSpent grid problem side rounds → ⊥

-- the finder tells vectors, and each one of a record is a certificate that it tells, or is left to rounds
pub record AreToldOrLeft (told : Option (List ℤ)) (grid : Grid) (tanks rounds : ℕ) (w : Record) : Type 0 where
  pub tells : Tells told (length grid.junctions) tanks
  pub each : OfEach (λ problem side u.
      IsTold told grid tanks problem side u ⊎ IsLeftToRounds told grid tanks rounds problem side u) tanks w

-- a record is valid at a standing and narrow, and each of its vectors, on the grid there, is a certificate that the
-- finder tells, or is left to rounds
pub record IsProposal (told : Option (List ℤ)) (project : Project) (settings : Settings) (standing : Standing)
    (w : Record) : Type 0 where
  pub told_at : (there : Grid) → IsGridAt project standing there
      → AreToldOrLeft told there (tank_count project) settings.rounds w
  pub grid : Grid
  pub next : Standing
  pub valid : IsValid project standing grid w next
  pub narrow : IsNarrow settings.width standing w next

-- a period was done, and its record is as sharp as the settings ask by the vectors that were sought
pub record IsDone (told : Option (List ℤ)) (project : Project) (settings : Settings) (here : Here) (net : NetView)
    (row : Row) (facts : Facts) (close : PeriodEnd) : Type 0 where
  pub made : IsMade project here net row facts close
  pub sought : IsSharpAsSought told project settings (standing_for here) (grid_of net) (row_of row)
      (next_standing project here row.length close)

-- from one standing to another a period was done: its record is valid and leads on, the net is that of the period, with
-- links in the states of the facts, the facts are its own, and the record is as sharp as the settings ask, by the
-- vectors that were sought
pub record IsAdvanced (told : Option (List ℤ)) (project : Project) (settings : Settings) (before : Standing)
    (net : NetView) (row : Row) (facts : Facts) (now : Standing) : Type 0 where
  pub valid : IsValid project before (grid_of net) (row_of row) now
  pub facts_are : AreFacts project (grid_of net) before (row_of row) facts
  pub have : HaveTanks project facts
  pub order : TanksInOrder (grid_of net)
  pub states : AreStates project (states_of net)
  pub links : states_of net ≡ facts.links.list
  pub sharp : IsSharp project settings before (grid_of net) (row_of row) now
  pub sought : IsSharpAsSought told project settings before (grid_of net) (row_of row) now

-- a step did a period, and the run stands behind it
pub record IsPeriod (before now : SimView) : Type 0 where
  pub valid : IsValid now.project (standing_of before) (grid_of now.net) (row_of now.row) (standing_of now)
  pub facts : AreFacts now.project (grid_of now.net) (standing_of before) (row_of now.row) now.facts
  pub have : HaveTanks now.project now.facts
  pub order : TanksInOrder (grid_of now.net)
  pub states : AreStates now.project (states_of now.net)
  pub links : states_of now.net ≡ now.facts.links.list
  pub sharp : IsSharp now.project now.settings (standing_of before) (grid_of now.net) (row_of now.row)
      (standing_of now)
  pub stopped : now.stopped ≡ None

-- what a step gives: a period that was done; or the run is over and nothing changed; or it stopped by a cause, which
-- holds at its standing, and the standing stays
abbrev pub StepGives : SimView → SimView → Step → Type 0
StepGives before now Period = IsPeriod before now
StepGives before now Finished = ((standing_of before).finished ≡ true) × (now ≡ before)
StepGives before now (Stop cause) =
    (now.stopped ≡ Some cause) × ((standing_of now ≡ standing_of before)
    × Stops now.project (standing_of now) now.settings.rounds cause)
