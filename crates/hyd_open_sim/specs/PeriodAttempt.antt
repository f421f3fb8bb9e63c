-- An attempt at a period whose start or end may be open by some seconds: its vectors, and its end by them.
-- Source: this program's.
use Rattle.std.specs.Prelude.{ℕ, ℤ, Bool, List, Option}
use Rattle.hyd_spec.specs.ProgramTypes.{Project}
use Rattle.hyd_spec.specs.NodeNumbers.{tank_count}
use Rattle.hyd_spec_certificates.specs.PeriodNetwork.{Grid}
use Rattle.hyd_spec_certificates.specs.RecordAndStanding.{Record}
use Rattle.hyd_spec_certificates.specs.Stops.{IsTightRow}
use Rattle.hyd_spec_certificates.specs.declared.StopCause.{StopCause}
use Rattle.hyd_spec_open_ends.specs.OpenStandings.{OpenStanding, OpenRecord}
use Rattle.hyd_period_end.specs.OpenMatters.{SharesVectors}
use Rattle.hyd_period_vectors.specs.SoughtVectors.{LacksFirst}
use Rattle.hyd_open_period_end.specs.OpenMatters.{IsOpenlyOpenAt, IsLeftOpen}
use Rattle.hyd_sim.specs.NarrowRecordsAndStops.{stop_of, open_stop_of}
use Rattle.hyd_sim.specs.PeriodAttempt.{AreSought}
use Rattle.hyd_open_sim.specs.declared.period_attempt.Fault.{Fault}
use Rattle.hyd_open_sim.specs.declared.period_attempt.Fault.TheVariants.{Lack, Open}

-- why an attempt at a period failed: a vector is lacking, or they leave a matter open, as any record with them does,
-- and as the stops of tight vectors say where these are tight
abbrev pub IsFault : Bool → Option (List ℤ) → Project → Grid → OpenStanding → ℕ → ℕ → Record → Fault → Type 0
IsFault tight told project grid standing slack rounds row (Lack lack) =
    LacksFirst tight told grid (tank_count project) rounds row lack
IsFault tight told project grid standing slack rounds row (Open what) =
    AreSought tight told grid (tank_count project) rounds row
    × (((other : OpenRecord) → SharesVectors other.row row → IsOpenlyOpenAt project grid standing slack other what)
    × (IsTightRow project standing.known grid row → IsLeftOpen project standing slack what))

-- the stop of a period whose vectors are as sharp as can be
abbrev pub fault_stop_of : ℕ → ℕ → Fault → StopCause
fault_stop_of number rounds (Lack lack) = stop_of number rounds lack
fault_stop_of number rounds (Open what) = open_stop_of number what
