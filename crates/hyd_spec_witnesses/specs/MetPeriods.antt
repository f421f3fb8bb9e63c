-- Periods of a witness, and when one is met: it follows from the period before, its flows are met at its heads, they
-- balance, and it has its length. Heads, levels, volumes and flows are S-th parts of ticks.
-- Source: this program's.
use Rattle.std.specs.Prelude.{◌≡◌, ℕ, suc, ◌≤◌, ℤ, ◌-ℤ◌, List, [], ◌∷◌, length, Option, Some, None, unsigned_abs, ⊤}
use Rattle.std.specs.List.{AllZip}
use Rattle.hyd_spec.specs.ProgramTypes.{Project, Junction, LinkState}
use Rattle.hyd_spec.specs.Lists.{Each}
use Rattle.hyd_spec.specs.Scale.{at_scale}
use Rattle.hyd_spec.specs.NodeNumbers.{junction_count, tank_count}
use Rattle.hyd_spec.specs.DemandsHeadsAndPumpLifts.{demand_of}
use Rattle.hyd_spec.specs.Assignment.{IsBalanced, node_heads, head_at, flow_at, net_outflow}
use Rattle.hyd_spec.specs.PumpPatternsAndSimpleControls.{started, acts_at}
use Rattle.hyd_spec.specs.PeriodLength.{Period, HasItsLength}
use Rattle.hyd_spec.specs.History.{tank_states, Begins, ComesAfter, commanded_after, initial_levels, initial_volumes}
use Rattle.hyd_spec.specs.History.{initial_links}
use Rattle.hyd_spec_certificates.specs.PeriodNetwork.{GridLink, GridJunction, IsJunctionOf, grid_links}
use Rattle.hyd_spec_certificates.specs.Valid.{demand_limit}
use Rattle.hyd_spec_witnesses.specs.MetFlows.{IsMetBy, IsDemandMetBy, IsEmitterMetBy}

-- ---- moments

-- A period as a witness tells it: its number, counted from 0, its time and its length (seconds); a head, a demand flow
-- and an emitter flow for each junction, a flow for each link; and a level and a volume for each tank, those of its
-- beginning.
pub record Moment : Type 0 where
  pub number : ℕ
  pub time : ℕ
  pub length : ℕ
  pub heads : List ℤ
  pub flows : List ℤ
  pub demands : List ℤ
  pub emitters : List ℤ
  pub levels : List ℤ
  pub volumes : List ℤ

-- It has so many of each as the network.
pub record HasItsLists (project : Project) (moment : Moment) : Type 0 where
  pub head_each : length moment.heads ≡ junction_count project
  pub flow_each : length moment.flows ≡ length project.links.list
  pub demand_each : length moment.demands ≡ junction_count project
  pub emitter_each : length moment.emitters ≡ junction_count project
  pub level_each : length moment.levels ≡ tank_count project
  pub volume_each : length moment.volumes ≡ tank_count project

-- ---- the course of periods

-- Where a course of periods stands: how many were met, and the last of them.
pub record Reached : Type 0 where
  pub count : ℕ
  pub last : Option Period

-- It stands before the first period.
abbrev pub at_start : Reached
at_start = record { count = 0; last = None }

-- It stands after one more.
abbrev pub after_period : Reached → Period → Reached
after_period reached period = record { count = suc reached.count; last = Some period }

-- The link states that were commanded where it stands.
abbrev pub commanded_at : Project → ℕ → Option Period → List LinkState
commanded_at project S None = initial_links project
commanded_at project S (Some before) = commanded_after project S before

-- The period that a moment tells, where the course stands so: its tanks are in the states of their levels, its links in
-- those that pump patterns and controls give them.
abbrev pub period_of : Project → ℕ → Reached → Moment → Period
period_of project S reached moment = record {
  time = moment.time;
  length = moment.length;
  levels = moment.levels;
  volumes = moment.volumes;
  tanks = tank_states S project.tanks.list moment.levels;
  links = started project moment.time (acts_at S moment.levels) (commanded_at project S reached.last);
  assignment = record {
    heads = moment.heads;
    flows = moment.flows;
    demands = moment.demands;
    emitters = moment.emitters;
  };
}

-- The course stands after a moment that was met.
abbrev pub after_moment : Project → ℕ → Reached → Moment → Reached
after_moment project S reached moment = after_period reached (period_of project S reached moment)

-- ---- clauses

-- A period begins a history, or comes after the last one of the course.
abbrev pub GoesOnFrom : Project → ℕ → Option Period → Period → Type 0
GoesOnFrom project S None period =
    Begins project S 0 (initial_levels project S) (initial_volumes project S) (initial_links project) period
GoesOnFrom project S (Some before) period = ComesAfter project S before period

-- The moment is the next one by its number, and its period goes on from where the course stands.
pub record StartIsMet (project : Project) (S : ℕ) (reached : Reached) (moment : Moment) : Type 0 where
  pub number : moment.number ≡ reached.count
  pub goes_on : GoesOnFrom project S reached.last (period_of project S reached moment)

-- The demand of a junction is at most 10^15 flow ticks in magnitude.
abbrev pub HasSmallDemand : Project → ℕ → ℕ → Junction → Type 0
HasSmallDemand project time j junction = unsigned_abs (demand_of project time junction) ≤ demand_limit

-- The links of a period, in their states and between its tanks.
abbrev pub links_of : Project → Period → List GridLink
links_of project period = grid_links project period.tanks project.links.list period.links

-- The heads of all nodes in a period.
abbrev pub heads_of : Project → ℕ → Period → List ℤ
heads_of project S period = node_heads project S period.time period.levels period.assignment.heads

-- The head difference between the ends of a link.
abbrev pub difference_of : Project → ℕ → Period → GridLink → ℤ
difference_of project S period link =
    head_at (heads_of project S period) link.from -ℤ head_at (heads_of project S period) link.to

-- The flow of link number l is met.
abbrev pub LinkIsMet : Project → ℕ → Period → ℕ → GridLink → Type 0
LinkIsMet project S period l link =
    IsMetBy link.law S (difference_of project S period link) (flow_at period.assignment.flows l)

-- The junctions of a period, with the laws of their demands then.
abbrev pub AreJunctionsOf : Project → Period → List GridJunction → Type 0
AreJunctionsOf project period junctions = AllZip (IsJunctionOf project period.time) project.junctions.list junctions

-- The pressure at a junction.
abbrev pub pressure_of : ℕ → Period → ℕ → GridJunction → ℤ
pressure_of S period j junction = head_at period.assignment.heads j -ℤ at_scale S junction.elevation

-- The demand flow of junction number j is met.
abbrev pub DemandIsMet : ℕ → Period → ℕ → GridJunction → Type 0
DemandIsMet S period j junction =
    IsDemandMetBy junction.demand S (pressure_of S period j junction) (flow_at period.assignment.demands j)

-- So is its emitter flow.
abbrev pub EmitterIsMet : ℕ → Period → ℕ → GridJunction → Type 0
EmitterIsMet S period j junction =
    IsEmitterMetBy junction.emitter S (pressure_of S period j junction) (flow_at period.assignment.emitters j)

-- The flows at junction number j balance.
abbrev pub BalanceIsMet : Project → ℕ → Period → ℕ → GridJunction → Type 0
BalanceIsMet project S period j junction =
    IsBalanced S (net_outflow j project.links.list period.assignment.flows) (flow_at period.assignment.demands j)
    (flow_at period.assignment.emitters j)

-- ---- a moment

-- The moment is met where the course stands so.
pub record IsMet (project : Project) (S : ℕ) (reached : Reached) (moment : Moment) : Type 0 where
  pub start : StartIsMet project S reached moment
  pub small : Each project.junctions.list (HasSmallDemand project moment.time)
  pub links : Each (links_of project (period_of project S reached moment))
      (LinkIsMet project S (period_of project S reached moment))
  pub junctions : List GridJunction
  pub are_junctions : AreJunctionsOf project (period_of project S reached moment) junctions
  pub demands : Each junctions (DemandIsMet S (period_of project S reached moment))
  pub emitters : Each junctions (EmitterIsMet S (period_of project S reached moment))
  pub balance : Each junctions (BalanceIsMet project S (period_of project S reached moment))
  pub lasts : HasItsLength project S (period_of project S reached moment)

-- The moments are met one after another, from where a course stands.
abbrev pub AreMetFrom : Project → ℕ → Reached → List Moment → Type 0
AreMetFrom project S reached [] = ⊤
AreMetFrom project S reached (moment ∷ rest) =
    IsMet project S reached moment × AreMetFrom project S (after_moment project S reached moment) rest

-- They are met from the start of a run.
abbrev pub AreMet : Project → ℕ → List Moment → Type 0
AreMet project S moments = AreMetFrom project S at_start moments

-- Where the course stands after them.
abbrev pub reached_after : Project → ℕ → Reached → List Moment → Reached
reached_after project S reached [] = reached
reached_after project S reached (moment ∷ rest) =
    reached_after project S (after_moment project S reached moment) rest

-- The periods that moments tell, one after another from where a course stands.
abbrev pub periods_from : Project → ℕ → Reached → List Moment → List Period
periods_from project S reached [] = []
periods_from project S reached (moment ∷ rest) =
    period_of project S reached moment ∷ periods_from project S (after_moment project S reached moment) rest

-- Those of a whole witness.
abbrev pub periods_of : Project → ℕ → List Moment → List Period
periods_of project S moments = periods_from project S at_start moments
