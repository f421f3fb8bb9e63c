-- The network of one period as certificates see it: laws of links and outflows, the heads of
-- reservoirs, and an interval for each tank's head. Heads are in head ticks.
-- Source: Rheinboldt 1970 (networks with given boundary values).
use Rattle.std.specs.Prelude.{◌≡◌, ℕ, ℤ, List, [], ◌∷◌, ◌++◌, map, Option, MatchBool, ◌==◌, if◌then◌else◌}
use Rattle.std.specs.List.{AllZip}
use Rattle.hyd_num.specs.CapacityPairs.{IsMade}
use Rattle.hyd_spec.specs.ProgramTypes.{Project, Junction, Link, LinkState, Tank, Capacity, PressureDemand}
use Rattle.hyd_spec.specs.declared.TankState.{TankState}
use Rattle.hyd_spec_certificates.specs.declared.Problem.{Problem}
use Rattle.hyd_spec_certificates.specs.declared.Problem.TheVariants.{Main, Pinned}
use Rattle.hyd_spec_certificates.specs.declared.Side.{Side}
use Rattle.hyd_spec_certificates.specs.declared.Side.TheVariants.{Upper, Lower}
use Rattle.hyd_spec.specs.Lists.{map_from}
use Rattle.hyd_spec_certificates.specs.Interval.{Interval, shifted}
use Rattle.hyd_spec.specs.DemandsHeadsAndPumpLifts.{is_us, demand_of, reservoir_head, minimum_pressure}
use Rattle.hyd_spec.specs.DemandsHeadsAndPumpLifts.{required_pressure}
use Rattle.hyd_spec.specs.Law.{Law}
use Rattle.hyd_spec.specs.LinkLaw.{law_of}
use Rattle.hyd_spec.specs.Outflow.{is_pressure_driven}
use Rattle.hyd_spec_certificates.specs.EnclosingFunctions.{DemandLaw, Fixed, Driven}

-- A link: the numbers of its nodes, and its law in its state and between its tanks.
pub record GridLink : Type 0 where
  pub from : ℕ
  pub to : ℕ
  pub law : Law

-- A junction: its elevation (head ticks), the law of its demand, and its emitter.
pub record GridJunction : Type 0 where
  pub elevation : ℤ
  pub demand : DemandLaw
  pub emitter : Option Capacity

-- All of them in order, with the head of each reservoir and the head interval of each tank.
pub record Grid : Type 0 where
  pub junctions : List GridJunction
  pub reservoirs : List ℤ
  pub tanks : List Interval
  pub links : List GridLink

-- ---- the grid of a network

-- The capacity of a pressure-driven demand is the one that is made of the demand and the two pressures.
pub record IsDriven (project : Project) (demand : ℤ) (law : DemandLaw) : Type 0 where
  pub capacity : Capacity
  pub origin : capacity.origin ≡ PressureDemand demand project.options.p0 project.options.pf (is_us project)
  pub made : IsMade capacity
  pub is_law : law ≡ Driven demand capacity (minimum_pressure project) (required_pressure project)

-- The law of a demand (flow ticks): driven by pressure where it depends on that, else fixed.
abbrev pub IsDemandLaw : Project → ℤ → DemandLaw → Type 0
IsDemandLaw project demand law =
    MatchBool (is_pressure_driven project demand) (IsDriven project demand law) (law ≡ Fixed demand)

-- This is the junction of the grid at a time: its elevation, the law of its demand then, and its emitter.
pub record IsJunctionOf (project : Project) (time : ℕ) (junction : Junction) (here : GridJunction) : Type 0 where
  pub elevation : here.elevation ≡ junction.elevation
  pub demand : IsDemandLaw project (demand_of project time junction) here.demand
  pub emitter : here.emitter ≡ junction.emitter

-- The links with their nodes and their laws, in their states and between tanks in theirs.
abbrev pub grid_links : Project → List TankState → List Link → List LinkState → List GridLink
grid_links project tanks [] states = []
grid_links project tanks (link ∷ links) [] = []
grid_links project tanks (link ∷ links) (state ∷ states) =
    record { from = link.from; to = link.to; law = law_of project tanks link state }
    ∷ grid_links project tanks links states

-- The head interval of a tank: its bottom plus its level.
abbrev pub tank_intervals : List Tank → List Interval → List Interval
tank_intervals [] levels = []
tank_intervals (tank ∷ tanks) [] = []
tank_intervals (tank ∷ tanks) (level ∷ levels) = shifted tank.bottom level ∷ tank_intervals tanks levels

-- The grid of a period that begins at `time` with level intervals, tank states and link states.
pub record IsGrid (project : Project) (time : ℕ) (levels : List Interval) (tanks : List TankState)
    (links : List LinkState) (grid : Grid) : Type 0 where
  pub junctions : AllZip (IsJunctionOf project time) project.junctions.list grid.junctions
  pub reservoirs : grid.reservoirs ≡ map (reservoir_head project time) project.reservoirs.list
  pub tank_heads : grid.tanks ≡ tank_intervals project.tanks.list levels
  pub links_are : grid.links ≡ grid_links project tanks project.links.list links

-- ---- fixed heads

-- The end of an interval on a side.
abbrev pub end_on : Side → Interval → ℤ
end_on Upper x = x.hi
end_on Lower x = x.lo

-- The other side.
abbrev pub opposite : Side → Side
opposite Upper = Lower
opposite Lower = Upper

-- On which side tank number k stands: on that of the vector, but for the pinned tank.
abbrev pub tank_side : Problem → Side → ℕ → Side
tank_side Main side k = side
tank_side (Pinned tank) side k = if tank == k then opposite side else side

-- The heads of reservoirs and tanks in a problem and side.
abbrev pub fixed_heads : Grid → Problem → Side → List ℤ
fixed_heads grid problem side =
    grid.reservoirs ++ map_from (λ k tank. end_on (tank_side problem side k) tank) 0 grid.tanks

-- The heads of all nodes, a vector's for the junctions.
abbrev pub all_heads : Grid → Problem → Side → List ℤ → List ℤ
all_heads grid problem side u = u ++ fixed_heads grid problem side
