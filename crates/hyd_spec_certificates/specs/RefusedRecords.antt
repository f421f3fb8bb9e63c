-- Why a record of a certificate is refused at a standing: the first of six causes that holds.
-- Source: this program's.
use Rattle.std.specs.Prelude.{◌≡◌, ◌≢◌, ℕ, ◌<◌, true, false, List, Some, None, position}
use Rattle.hyd_spec.specs.ProgramTypes.{Project, LinkState}
use Rattle.hyd_spec_certificates.specs.declared.Problem.{Problem}
use Rattle.hyd_spec_certificates.specs.declared.Side.{Side}
use Rattle.hyd_spec_certificates.specs.declared.CertRefused.{CertRefused}
use Rattle.hyd_spec_certificates.specs.declared.CertRefused.TheVariants.{Place, Demand, Fails, Open as MatterOpen}
use Rattle.hyd_spec_certificates.specs.declared.CertRefused.TheVariants.{Length, After}
use Rattle.hyd_spec_certificates.specs.PeriodNetwork.{Grid}
use Rattle.hyd_spec_certificates.specs.Certificate.{IsCertificate, FailsFirst}
use Rattle.hyd_spec_certificates.specs.RecordAndStanding.{Record, Standing, vector_of}
use Rattle.hyd_spec_certificates.specs.Decided.{OpenRule, EndsBy, RuleIsOpen, EventIsOpen}
use Rattle.hyd_spec_certificates.specs.Valid.{IsProblem, IsGridAt, DemandsAreInRange, AreCertificates, LeavesLinks}
use Rattle.hyd_spec_certificates.specs.Valid.{levels_next}
use Rattle.hyd_spec_certificates.specs.Stops.{open_states, is_open_control}
use Rattle.hyd_spec_certificates.specs.TurnsOfProblems.{turn}

-- ---- what may be wrong

-- The record has the number and the time that are due.
pub record IsDue (standing : Standing) (row : Record) : Type 0 where
  pub number : row.number ≡ standing.number
  pub time : row.time ≡ standing.time

-- The first vector of the record that isn't a certificate, in the order of problems and sides, and the junction at
-- which it fails first.
pub record IsFirstToFail (project : Project) (grid : Grid) (row : Record) (problem : Problem) (side : Side)
    (junction : ℕ)
    : Type 0 where
  pub is_problem : IsProblem project problem
  pub earlier : (before : Problem) (other : Side) → IsProblem project before → turn before other < turn problem side
      → IsCertificate grid before other (vector_of row before other)
  pub fails : FailsFirst None grid problem side (vector_of row problem side) junction

-- The certificates of the record leave a matter of the period open: its end, or at a decided end a tank's state or a
-- level control. (The period at the end of the run has no matters.)
pub data LeavesOpen (project : Project) (grid : Grid) (standing : Standing) (row : Record) : Type 0 where
  rule : (open_rule : OpenRule) → EndsBy project grid standing row (RuleIsOpen open_rule)
      → LeavesOpen project grid standing row
  event : (earliest latest : ℕ) → EndsBy project grid standing row (EventIsOpen earliest latest)
      → LeavesOpen project grid standing row
  tank : (seconds : ℕ) (links : List LinkState) (number : ℕ) → LeavesLinks project grid standing row seconds links
      → position (λ is_open. is_open)
      (open_states project (levels_next project grid standing row seconds)) ≡ Some number
      → LeavesOpen project grid standing row
  control : (seconds : ℕ) (links : List LinkState) (number : ℕ) → LeavesLinks project grid standing row seconds links
      → position (is_open_control (levels_next project grid standing row seconds)) project.controls.list ≡ Some number
      → LeavesOpen project grid standing row

-- The length of the record isn't the decided one: at the end of the run 0, else that of the period.
pub data HasOtherLength (project : Project) (grid : Grid) (standing : Standing) (row : Record) : Type 0 where
  at_end : standing.time ≡ project.times.duration → row.length ≢ 0 → HasOtherLength project grid standing row
  before_end : (seconds : ℕ) (links : List LinkState) → LeavesLinks project grid standing row seconds links
      → row.length ≢ seconds → HasOtherLength project grid standing row

-- ---- what is right where a cause comes later in order

-- The run isn't over, and the record is due.
pub record IsInPlace (standing : Standing) (row : Record) : Type 0 where
  pub unfinished : standing.finished ≡ false
  pub due : IsDue standing row

-- And the demands of its period are in range, and this is the grid of the period.
pub record HasItsGrid (project : Project) (standing : Standing) (grid : Grid) (row : Record) : Type 0 where
  pub in_place : IsInPlace standing row
  pub in_range : DemandsAreInRange project standing.time
  pub is_grid : IsGridAt project standing grid

-- And its vectors are certificates.
pub record IsCertified (project : Project) (standing : Standing) (grid : Grid) (row : Record) : Type 0 where
  pub has_grid : HasItsGrid project standing grid row
  pub certificates : AreCertificates project grid row

-- ---- the cause

-- What a cause says of a record at a standing. Those before it in the order (after the end, place, demands, vectors,
-- matters, length) don't hold.
abbrev pub IsRefusedBy : Project → Standing → Record → CertRefused → Type 0
IsRefusedBy project standing row (After period) = standing.finished ≡ true
IsRefusedBy project standing row (Place period) = (standing.finished ≡ false) × (IsDue standing row → ⊥)
IsRefusedBy project standing row (Demand period) =
    IsInPlace standing row × (DemandsAreInRange project standing.time → ⊥)
IsRefusedBy project standing row (Fails period problem side junction) =
    (grid : Grid) × (HasItsGrid project standing grid row × IsFirstToFail project grid row problem side junction)
IsRefusedBy project standing row (MatterOpen period) =
    (grid : Grid) × (IsCertified project standing grid row × LeavesOpen project grid standing row)
IsRefusedBy project standing row (Length period) =
    (grid : Grid) × (IsCertified project standing grid row
    × ((LeavesOpen project grid standing row → ⊥) × HasOtherLength project grid standing row))

-- The period that a refusal names.
abbrev pub refused_period : CertRefused → ℕ
refused_period (Place period) = period
refused_period (Demand period) = period
refused_period (Fails period problem side junction) = period
refused_period (MatterOpen period) = period
refused_period (Length period) = period
refused_period (After period) = period

-- A record is refused at a standing by this cause, which names the period that was due. (This is asked of records
-- with the network's counts of junctions and tanks.)
pub record IsRefused (project : Project) (standing : Standing) (row : Record) (cause : CertRefused) : Type 0 where
  pub period_is : refused_period cause ≡ standing.number
  pub refused_by : IsRefusedBy project standing row cause
