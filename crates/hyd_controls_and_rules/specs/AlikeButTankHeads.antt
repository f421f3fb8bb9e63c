-- Readings that differ in the heads of tanks alone.
-- Source: this program's.
use Rattle.std.specs.Prelude.{◌≡◌, ℕ, ◌<◌, pos, slice_index_or}
use Rattle.hyd_spec.specs.ProgramTypes.{Project}
use Rattle.hyd_spec.specs.NodeNumbers.{nodes_before_tanks}
use Rattle.hyd_spec.specs.Rules.{Readings}

-- the heads of junctions and reservoirs, the carried levels, the flows and the commanded states are the same
pub record AreAlike (project : Project) (one other : Readings) : Type 0 where
  pub heads : (node : ℕ) → node < nodes_before_tanks project
      → slice_index_or one.heads node (pos 0) ≡ slice_index_or other.heads node (pos 0)
  pub levels : one.levels ≡ other.levels
  pub flows : one.flows ≡ other.flows
  pub links : one.links ≡ other.links
