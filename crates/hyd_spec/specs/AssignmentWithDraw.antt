-- The hydraulic state of a period in which water is drawn at one junction besides its demand and its emitter, as from a
-- hydrant. Heads are S-th parts of a head tick, flows of a flow tick.
-- Source: this program's, after available fire flow (AWWA Manual M31).
use Rattle.std.specs.Prelude.{◌≡◌, ◌==◌, ℕ, ◌≤◌, ℤ, ◌+ℤ◌, ◌-ℤ◌, List, length}
use Rattle.hyd_spec.specs.ProgramTypes.{Project, Junction, LinkState, TankState}
use Rattle.hyd_spec.specs.Lists.{Each}
use Rattle.hyd_spec.specs.Scale.{at_scale}
use Rattle.hyd_spec.specs.NodeNumbers.{junction_count, tank_count}
use Rattle.hyd_spec.specs.Outflow.{FollowsDemand, FollowsEmitter}
use Rattle.hyd_spec.specs.Assignment.{Assignment, LinksFollow, IsBalanced, node_heads, head_at, flow_at, where_so}
use Rattle.hyd_spec.specs.Assignment.{net_outflow}

-- Junction number j, at which q is drawn: its demand and its emitter follow its pressure, and it balances with q
-- besides.
pub record JunctionObeysDrawing (project : Project) (time S : ℕ) (assignment : Assignment) (q : ℤ) (j : ℕ)
    (junction : Junction) : Type 0 where
  pub demand : FollowsDemand project time junction S
      (head_at assignment.heads j -ℤ at_scale S junction.elevation) (flow_at assignment.demands j)
  pub emitter : FollowsEmitter junction S
      (head_at assignment.heads j -ℤ at_scale S junction.elevation) (flow_at assignment.emitters j)
  pub balance : IsBalanced S (net_outflow j project.links.list assignment.flows +ℤ q)
      (flow_at assignment.demands j) (flow_at assignment.emitters j)

-- An assignment, as of a period without a draw, but that q S-th parts of a flow tick are drawn at junction number
-- `place`.
pub record IsAssignmentDrawing (project : Project) (S time : ℕ) (levels : List ℤ) (tanks : List TankState)
    (links : List LinkState) (place : ℕ) (q : ℤ) (assignment : Assignment) : Type 0 where
  pub scale : 1 ≤ S
  pub level_each : length levels ≡ tank_count project
  pub tank_each : length tanks ≡ tank_count project
  pub head_each : length assignment.heads ≡ junction_count project
  pub demand_each : length assignment.demands ≡ junction_count project
  pub emitter_each : length assignment.emitters ≡ junction_count project
  pub links_follow : LinksFollow project tanks S (node_heads project S time levels assignment.heads)
      project.links.list links assignment.flows
  pub junctions_obey : Each project.junctions.list (λ j junction.
      JunctionObeysDrawing project time S assignment (where_so (j == place) q) j junction)
