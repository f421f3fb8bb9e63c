-- Records inside others: what is asked of two records so that what the outer one decides the inner one decides in the
-- same way.
-- Source: this program's; intervals that lie inside others are those of Moore 1966.
use Rattle.std.specs.Prelude.{◌≡◌, ℕ, ◌≤◌, ℤ, ◌≤ℤ◌, length}
use Rattle.hyd_spec.specs.ProgramTypes.{Project}
use Rattle.hyd_spec.specs.Lists.{Each}
use Rattle.hyd_spec.specs.NodeNumbers.{tank_count}
use Rattle.hyd_spec.specs.Assignment.{head_at}
use Rattle.hyd_spec.specs.Tank.{walls_of}
use Rattle.hyd_spec_certificates.specs.declared.Problem.{Problem}
use Rattle.hyd_spec_certificates.specs.declared.Side.{Side}
use Rattle.hyd_spec_certificates.specs.declared.Side.TheVariants.{Upper, Lower}
use Rattle.hyd_spec_certificates.specs.Interval.{Interval}
use Rattle.hyd_spec_certificates.specs.PeriodNetwork.{Grid}
use Rattle.hyd_spec_certificates.specs.Certificate.{IsTight}
use Rattle.hyd_spec_certificates.specs.RecordAndStanding.{Record, Standing, vector_of}
use Rattle.hyd_spec_certificates.specs.Decided.{stocks_of_tank}
use Rattle.hyd_spec_certificates.specs.Valid.{AreCertificates, IsProblem, IsGridAt}
use Rattle.hyd_theorems_on_definitions.specs.LyingInIntervals.{HasStock}
use Rattle.hyd_theorems_on_definitions.specs.SoundTanks.{IsVessel}
use Rattle.hyd_theorems_on_definitions.specs.SoundLawsAndGrids.{IsSteady}

-- ---- records

-- An interval that has a number.
abbrev pub IsOrdered : Interval → Type 0
IsOrdered x = x.lo ≤ℤ x.hi

-- At each junction the vectors of one record are as far out as those of another, or farther.
pub record LiesAbout (project : Project) (grid : Grid) (outer inner : Record) : Type 0 where
  pub upper : (problem : Problem) → IsProblem project problem
      → Each grid.junctions (λ i junction. head_at (vector_of inner problem Upper) i ≤ℤ head_at
      (vector_of outer problem Upper) i)
  pub lower : (problem : Problem) → IsProblem project problem
      → Each grid.junctions (λ i junction. head_at (vector_of outer problem Lower) i ≤ℤ head_at
      (vector_of inner problem Lower) i)

-- Two records with certificates on the grid of a standing, the one inside the other. The standing's stocks are there.
pub record AreNested (project : Project) (standing : Standing) (grid : Grid) (outer inner : Record) : Type 0 where
  pub is_grid : IsGridAt project standing grid
  pub steady : IsSteady grid
  pub levels_each : length standing.levels ≡ tank_count project
  pub ordered : (k : ℕ) → HasStock (stocks_of_tank standing k)
  pub outer_certificates : AreCertificates project grid outer
  pub inner_certificates : AreCertificates project grid inner
  pub about : LiesAbout project grid outer inner
  pub vessels : Each project.tanks.list (λ k tank. IsVessel (walls_of project tank) tank)

-- The same record but for its vectors, which are tight.
pub record IsTightened (project : Project) (grid : Grid) (row tight : Record) : Type 0 where
  pub number : tight.number ≡ row.number
  pub time : tight.time ≡ row.time
  pub length_is : tight.length ≡ row.length
  pub pinned_each : length tight.pinned ≡ tank_count project
  pub each : (problem : Problem) (side : Side) → IsProblem project problem
      → IsTight grid problem side (vector_of tight problem side)
