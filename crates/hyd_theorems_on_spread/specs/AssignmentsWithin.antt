-- Assignments of the networks within a spread, of a period whose levels lie in intervals.
-- Source: this program's.
use Rattle.std.specs.Prelude.{ℕ, ℤ, List}
use Rattle.hyd_spec.specs.ProgramTypes.{Project, LinkState}
use Rattle.hyd_spec.specs.declared.TankState.{TankState}
use Rattle.hyd_spec.specs.Assignment.{Assignment, IsAssignment}
use Rattle.hyd_spec_certificates.specs.Interval.{Interval}
use Rattle.hyd_spec_spread.specs.Spreads.{Spread}
use Rattle.hyd_spec_spread.specs.NetworksWithin.{NodeData, with_data, IsWithin}
use Rattle.hyd_theorems_on_definitions.specs.LyingInIntervals.{LevelsLie}
use Rattle.hyd_theorems_on_definitions.specs.SoundLawsAndGrids.{AreCapacitiesMade}

-- An assignment of a network within the spread where the period begins: the capacities of links are made of the file's
-- numbers, and each tank's level lies in its interval.
pub record IsAssignmentWithin (project : Project) (spread : Spread) (S time : ℕ) (intervals : List Interval)
    (levels : List ℤ) (tanks : List TankState) (links : List LinkState) (nodes : NodeData)
    (assignment : Assignment) : Type 0 where
  pub made : AreCapacitiesMade project links
  pub lie : LevelsLie S intervals levels
  pub within : IsWithin project spread time nodes
  pub assigned : IsAssignment (with_data project nodes) S time levels tanks links assignment
