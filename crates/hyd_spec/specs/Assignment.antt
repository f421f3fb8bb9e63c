-- The hydraulic state of a period: a head at each junction and a flow in each link that obey the
-- laws and balance at each junction. Heads are S-th parts of a head tick, flows of a flow tick.
-- Source: EPANET 2.2 User Manual, chapter 3 (hydraulic simulation model).
use Rattle.std.specs.Prelude.{◌≡◌, ℕ, ◌≤◌, ℤ, pos, ◌+ℤ◌, ◌-ℤ◌, Bool, true, false, List, [], ◌∷◌, ◌++◌, length, map}
use Rattle.std.specs.Prelude.{slice_index_or, ◌==◌}
use Rattle.hyd_spec.specs.ProgramTypes.{Project, Junction, Link, LinkState, Tank, TankState}
use Rattle.hyd_spec.specs.Scale.{at_scale}
use Rattle.hyd_spec.specs.DemandsHeadsAndPumpLifts.{reservoir_head}
use Rattle.hyd_spec.specs.Law.{Follows}
use Rattle.hyd_spec.specs.LinkLaw.{law_of}
use Rattle.hyd_spec.specs.NodeNumbers.{junction_count, tank_count}
use Rattle.hyd_spec.specs.Lists.{Each}
use Rattle.hyd_spec.specs.Outflow.{IsWithinTolerance, FollowsDemand, FollowsEmitter}

-- A head for each junction, a flow for each link from its first node to its second, a demand flow and
-- an emitter flow for each junction.
pub record Assignment : Type 0 where
  pub heads : List ℤ
  pub flows : List ℤ
  pub demands : List ℤ
  pub emitters : List ℤ

-- ---- heads of all nodes

-- A tank's head: its bottom plus its level.
abbrev pub tank_heads : ℕ → List Tank → List ℤ → List ℤ
tank_heads S [] levels = []
tank_heads S (tank ∷ tanks) [] = []
tank_heads S (tank ∷ tanks) (level ∷ levels) = (at_scale S tank.bottom +ℤ level) ∷ tank_heads S tanks levels

-- The heads of all nodes in order of their numbers: junctions, reservoirs, tanks.
abbrev pub node_heads : Project → ℕ → ℕ → List ℤ → List ℤ → List ℤ
node_heads project S time levels heads =
    heads ++ (map (λ r. at_scale S (reservoir_head project time r)) project.reservoirs.list
    ++ tank_heads S project.tanks.list levels)

-- The head of a node.
abbrev pub head_at : List ℤ → ℕ → ℤ
head_at heads node = slice_index_or heads node (pos 0)

-- The flow of a link, or one of the flows that leave a junction.
abbrev pub flow_at : List ℤ → ℕ → ℤ
flow_at flows number = slice_index_or flows number (pos 0)

-- ---- balance

-- The flow where the test holds, else nothing.
abbrev pub where_so : Bool → ℤ → ℤ
where_so true q = q
where_so false q = pos 0

-- The sum over all links of what they take out of a node, less what they bring to it.
abbrev pub net_outflow : ℕ → List Link → List ℤ → ℤ
net_outflow node [] flows = pos 0
net_outflow node (link ∷ links) [] = pos 0
net_outflow node (link ∷ links) (q ∷ flows) =
    (where_so (link.from == node) q -ℤ where_so (link.to == node) q) +ℤ net_outflow node links flows

-- Inflow minus outflow minus demand flow minus emitter flow is within the tolerance of 0.
abbrev pub IsBalanced : ℕ → ℤ → ℤ → ℤ → Type 0
IsBalanced S outflow demand emitter = IsWithinTolerance S (pos 0) ((outflow +ℤ demand) +ℤ emitter)

-- ---- the assignment

-- Each link's flow and the head difference between its ends follow its law, in its state and between
-- its tanks.
pub data LinksFollow (project : Project) (tanks : List TankState) (S : ℕ) (heads : List ℤ) : List Link
    → List LinkState → List ℤ → Type 0 where
  none : LinksFollow project tanks S heads [] [] []
  more : {link : Link} {links : List Link} {state : LinkState} {states : List LinkState} {q : ℤ} {flows : List ℤ}
      → Follows (law_of project tanks link state) S (head_at heads link.from -ℤ head_at heads link.to) q
      → LinksFollow project tanks S heads links states flows
      → LinksFollow project tanks S heads (link ∷ links) (state ∷ states) (q ∷ flows)

-- Junction number j: its demand and its emitter follow its pressure, and it balances.
pub record JunctionObeys (project : Project) (time S : ℕ) (assignment : Assignment) (j : ℕ)
    (junction : Junction) : Type 0 where
  pub demand : FollowsDemand project time junction S
      (head_at assignment.heads j -ℤ at_scale S junction.elevation) (flow_at assignment.demands j)
  pub emitter : FollowsEmitter junction S
      (head_at assignment.heads j -ℤ at_scale S junction.elevation) (flow_at assignment.emitters j)
  pub balance : IsBalanced S (net_outflow j project.links.list assignment.flows)
      (flow_at assignment.demands j) (flow_at assignment.emitters j)

-- An assignment, at a scale S of at least 1, of a period that begins at `time` with these levels (S-th parts of a head
-- tick) and tank states, one for each tank, and link states.
pub record IsAssignment (project : Project) (S time : ℕ) (levels : List ℤ) (tanks : List TankState)
    (links : List LinkState) (assignment : Assignment) : Type 0 where
  pub scale : 1 ≤ S
  pub level_each : length levels ≡ tank_count project
  pub tank_each : length tanks ≡ tank_count project
  pub head_each : length assignment.heads ≡ junction_count project
  pub demand_each : length assignment.demands ≡ junction_count project
  pub emitter_each : length assignment.emitters ≡ junction_count project
  pub links_follow : LinksFollow project tanks S (node_heads project S time levels assignment.heads)
      project.links.list links assignment.flows
  pub junctions_obey : Each project.junctions.list (JunctionObeys project time S assignment)
