-- Why a period stops that is due: a vector lacks, or the tight vectors leave a matter open.
use Rattle.std.proofs.Common.{◌≡◌, ℕ, ℤ, List, length, refl, subst}
use Rattle.std.specs.Prelude.{Option, true}
use Rattle.hyd_spec.specs.ProgramTypes.{Project}
use Rattle.hyd_spec.specs.NodeNumbers.{junction_count, tank_count}
use Rattle.hyd_spec_certificates.specs.PeriodNetwork.{Grid}
use Rattle.hyd_spec_certificates.specs.declared.Problem.{Problem}
use Rattle.hyd_spec_certificates.specs.declared.Problem.TheVariants.{Main, Pinned}
use Rattle.hyd_spec_certificates.specs.declared.Side.{Side}
use Rattle.hyd_spec_certificates.specs.Certificate.{IsTight}
use Rattle.hyd_spec_certificates.specs.RecordAndStanding.{Record, Standing, vector_of}
use Rattle.hyd_spec_certificates.specs.Valid.{DemandsAreInRange, IsGridAt, IsProblem}
use Rattle.hyd_spec_certificates.specs.Stops.{IsTightRow, Stops}
use Rattle.hyd_cert.specs.RecordView.{row_of}
use Rattle.hyd_cert.specs.declared.record.Record.{Record as Row}
use Rattle.hyd_spec_open_ends.specs.OpenStandings.{OpenStanding}
use Rattle.hyd_spec_open_ends.specs.PromisesOfOpenRuns.{StopsOpenly}
use Rattle.hyd_period_end.specs.declared.undecided.Open.{Open as Matter}
use Rattle.hyd_period_end.specs.declared.undecided.Open.TheVariants.{Rule, Event, Tank, Control}
use Rattle.hyd_period_vectors.specs.SoughtVectors.{LacksFirst}
use Rattle.hyd_period_vectors.specs.declared.missing_vector.Lack.{Lack as Missing}
use Rattle.hyd_period_vectors.specs.declared.missing_vector.Lack.TheVariants.{NoCertificate, RoundsSpent}
use Rattle.hyd_open_period_end.specs.OpenMatters.{IsLeftOpen}
use Rattle.hyd_sim.specs.NarrowRecordsAndStops.{LacksOne, NamesStuck, stop_of, open_stop_of}
use Rattle.hyd_sim.proofs.MissingVectors.{lacks-one}
use Rattle.hyd_sim.proofs.StopsAndTightRecords.{lack-stops, lack-stuck, open-stuck, tight-row}
use Rattle.hyd_open_sim.specs.PeriodAttempt.{IsFault, fault_stop_of}
use Rattle.hyd_open_sim.specs.declared.period_attempt.Fault.{Fault}
use Rattle.hyd_open_sim.specs.declared.period_attempt.Fault.TheVariants.{Lack, Open}

-- a lack of a vector stops a run with any slack
pub lack-stops-openly : (project : Project) (standing : OpenStanding) (grid : Grid) (slack rounds : ℕ) (lack : Missing)
    → length grid.junctions ≡ junction_count project → DemandsAreInRange project standing.known.time
    → IsGridAt project standing.known grid → LacksOne grid (tank_count project) rounds lack
    → StopsOpenly project standing slack rounds (stop_of standing.known.number rounds lack)
lack-stops-openly project standing grid slack rounds lack count in_range is one =
    by lack (lack-stops project standing.known grid (tank_count project) rounds lack refl count in_range is one)
  where
    by : (why : Missing) → Stops project standing.known rounds (stop_of standing.known.number rounds why)
        → StopsOpenly project standing slack rounds (stop_of standing.known.number rounds why)
    by (NoCertificate problem side junction) stops = record { period_is = stops.period_is; holds = stops.holds }
    by (RoundsSpent problem side) stops = record { period_is = stops.period_is; holds = stops.holds }

-- what tight vectors leave open does
pub left-stops : (project : Project) (standing : OpenStanding) (slack rounds : ℕ) (what : Matter)
    → IsLeftOpen project standing slack what
    → StopsOpenly project standing slack rounds (open_stop_of standing.known.number what)
left-stops project standing slack rounds (Rule found) left = record { period_is = refl; holds = left }
left-stops project standing slack rounds (Event earliest latest) left = record { period_is = refl; holds = left }
left-stops project standing slack rounds (Tank found) left = record { period_is = refl; holds = left }
left-stops project standing slack rounds (Control found) left = record { period_is = refl; holds = left }

module _ (project : Project) (standing : OpenStanding) (grid : Grid) (row : Record) (slack rounds : ℕ)
    (told : Option (List ℤ)) (is : IsGridAt project standing.known grid) where
  -- an attempt with tight vectors that fails
  pub fault-stops : DemandsAreInRange project standing.known.time → length grid.junctions ≡ junction_count project
      → length row.pinned ≡ tank_count project → (fault : Fault)
      → IsFault true told project grid standing slack rounds row fault
      → StopsOpenly project standing slack rounds (fault_stop_of standing.known.number rounds fault)
  fault-stops in_range count pinned (Lack lack) fault =
      lack-stops-openly project standing grid slack rounds lack count in_range is
      (lacks-one true told grid (tank_count project) rounds row lack fault)
  fault-stops in_range count pinned (Open what) fault =
      left-stops project standing slack rounds what
      (fault.1.1 (tight-row project standing.known grid row in_range is pinned fault.0.each))

  pub fault-stuck : (fault : Fault) → IsFault true told project grid standing slack rounds row fault
      → NamesStuck project standing.known rounds (fault_stop_of standing.known.number rounds fault)
  fault-stuck (Lack lack) fault =
      lack-stuck project standing.known grid (tank_count project) rounds lack is
      (lacks-one true told grid (tank_count project) rounds row lack fault)
  fault-stuck (Open what) fault = open-stuck project standing.known rounds standing.known.number what

-- a record is as tight with another length
pub tight-again : (project : Project) (standing : Standing) (grid : Grid) (row now : Row)
    → now ≡ record row { length = now.length } → IsTightRow project standing grid (row_of now)
    → IsTightRow project standing grid (row_of row)
tight-again project standing grid row now same tight =
    let own : IsTightRow project standing grid (row_of (record row { length = now.length })) =
    subst (λ (r : Row). IsTightRow project standing grid (row_of r)) same tight in
    record {
      in_range = own.in_range;
      is_grid = own.is_grid;
      one_each = own.one_each;
      each = λ problem side is. by own.each problem side is;
    }
  where
    by : ((problem : Problem) (side : Side) → IsProblem project problem
        → IsTight grid problem side (vector_of (row_of (record row { length = now.length })) problem side))
        → (problem : Problem) (side : Side) → IsProblem project problem
        → IsTight grid problem side (vector_of (row_of row) problem side)
    by all Main side is = all Main side is
    by all (Pinned tank) side is = all (Pinned tank) side is
