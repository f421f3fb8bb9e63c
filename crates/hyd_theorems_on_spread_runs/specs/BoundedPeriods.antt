-- Periods of networks within a spread, against what a grid and a record leave open: what is asked for the record to
-- decide the period.
-- Source: this program's.
use Rattle.std.specs.Prelude.{◌≡◌, ℕ, ◌<◌, length}
use Rattle.hyd_spec.specs.ProgramTypes.{Project, Tank}
use Rattle.hyd_spec.specs.Lists.{Each}
use Rattle.hyd_spec.specs.NodeNumbers.{nodes_before_tanks, tank_count}
use Rattle.hyd_spec.specs.Assignment.{flow_at, node_heads}
use Rattle.hyd_spec.specs.Rules.{elevation_of}
use Rattle.hyd_spec.specs.Tank.{walls_of, tank_inflow}
use Rattle.hyd_spec.specs.PeriodLength.{Period}
use Rattle.hyd_spec_certificates.specs.PeriodNetwork.{Grid, GridLink}
use Rattle.hyd_spec_certificates.specs.FlowIntervals.{flow_box}
use Rattle.hyd_spec_certificates.specs.RecordAndStanding.{Record, Standing}
use Rattle.hyd_spec_certificates.specs.Decided.{heads_below, heads_above, inflow_of_tank, links_at}
use Rattle.hyd_spec_certificates.specs.Valid.{ControlsAreDecided}
use Rattle.hyd_spec_spread.specs.NetworksWithin.{NodeData, with_data}
use Rattle.hyd_theorems_on_definitions.specs.LyingInIntervals.{LiesIn, LevelsLie, LieBetween}
use Rattle.hyd_theorems_on_definitions.specs.SoundTanks.{IsVessel}
use Rattle.hyd_theorems_on_histories.specs.Agreement.{VolumesLie}

-- A period of the network with some data begins as a standing says, and its heads, flows and tank inflows lie in the
-- boxes of a grid and a record. The network with these data numbers its nodes as the file's and has its elevations.
pub record IsBounded (project : Project) (nodes : NodeData) (S : ℕ) (period : Period) (grid : Grid)
    (standing : Standing) (row : Record) : Type 0 where
  pub some : 0 < S
  pub numbers : nodes_before_tanks (with_data project nodes) ≡ nodes_before_tanks project
  pub elevations : (node : ℕ) → elevation_of (with_data project nodes) node ≡ elevation_of project node
  pub heads : LieBetween S (heads_below grid row) (heads_above grid row)
      (node_heads (with_data project nodes) S period.time period.levels period.assignment.heads)
  pub flow_each : length grid.links ≡ length period.assignment.flows
  pub flows : Each grid.links (λ l (link : GridLink). LiesIn S (flow_box link (heads_below grid row)
      (heads_above grid row)) (flow_at period.assignment.flows l))
  pub inflows : Each project.tanks.list (λ k (tank : Tank). LiesIn S (inflow_of_tank project grid row k)
      (tank_inflow project k period.assignment.flows))
  pub levels : LevelsLie S standing.levels period.levels
  pub volumes : VolumesLie S standing.volumes period.volumes
  pub time : period.time ≡ standing.time
  pub tanks : period.tanks ≡ standing.tanks
  pub tank_each : length period.tanks ≡ tank_count project
  pub links : period.links ≡ links_at project standing
  pub controls : ControlsAreDecided project standing.levels
  pub vessels : Each project.tanks.list (λ k tank. IsVessel (walls_of project tank) tank)
