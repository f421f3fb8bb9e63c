-- The two outermost networks within a spread, one a side, as certificates see them. Where heads are greatest, each
-- demand is at its least and each reservoir's head at its greatest; where they are least, the other way round. An
-- emitter takes in water below its junction's elevation and gives it above: on both sides its capacity reaches from the
-- lower end of the least coefficient's to the upper end of the greatest one's.
-- Source: this program's, after Rheinboldt 1970 (networks with given boundary values).
use Rattle.std.specs.Prelude.{◌≡◌, ℕ, ℤ, List, map, Option, Some, None, ⊤}
use Rattle.std.specs.List.{AllZip}
use Rattle.hyd_spec.specs.ProgramTypes.{Project, LinkState, Capacity}
use Rattle.hyd_spec.specs.declared.TankState.{TankState}
use Rattle.hyd_spec_certificates.specs.declared.Problem.{Problem}
use Rattle.hyd_spec_certificates.specs.declared.Side.{Side}
use Rattle.hyd_spec_certificates.specs.Interval.{Interval}
use Rattle.hyd_spec_certificates.specs.PeriodNetwork.{Grid, GridJunction, IsDemandLaw, grid_links, tank_intervals}
use Rattle.hyd_spec_certificates.specs.PeriodNetwork.{end_on, opposite}
use Rattle.hyd_spec_certificates.specs.Certificate.{IsCertificate}
use Rattle.hyd_spec_spread.specs.Spreads.{Factors, Spread}
use Rattle.hyd_spec_spread.specs.IntervalsOfData.{KnownJunction, products, known_junctions, known_heads}
use Rattle.hyd_spec_spread.specs.NetworksWithin.{coefficient_of, IsEmitterOf}

-- ---- junctions

-- A capacity reaches over those of all emitters within the factors. It is said to come from the file's own numbers,
-- which it encloses too. No pair encloses 0, so there is none where the least coefficient is 0.
pub record ReachesOver (factors : Factors) (own capacity : Capacity) : Type 0 where
  pub least : Capacity
  pub is_least : IsEmitterOf own.origin (products factors (coefficient_of own.origin)).lo least
  pub greatest : Capacity
  pub is_greatest : IsEmitterOf own.origin (products factors (coefficient_of own.origin)).hi greatest
  pub lower_end : capacity.lo ≡ least.lo
  pub upper_end : capacity.hi ≡ greatest.hi
  pub origin : capacity.origin ≡ own.origin

-- The emitter of an outermost junction: none where the file has none.
abbrev pub IsOutermostEmitter : Factors → Option Capacity → Option Capacity → Type 0
IsOutermostEmitter factors None None = ⊤
IsOutermostEmitter factors None (Some capacity) = ⊥
IsOutermostEmitter factors (Some own) None = ⊥
IsOutermostEmitter factors (Some own) (Some capacity) = ReachesOver factors own capacity

-- The demand of an outermost junction: the least one for the side of the greatest heads, and the other way round.
abbrev pub outermost_demand : Side → KnownJunction → ℤ
outermost_demand side known = end_on (opposite side) known.demand

-- The junction of the outermost grid of a side.
pub record IsOutermostJunction (project : Project) (side : Side) (known : KnownJunction) (here : GridJunction) : Type 0
  where
    pub elevation : here.elevation ≡ known.elevation
    pub demand : IsDemandLaw project (outermost_demand side known) here.demand
    pub emitter : IsOutermostEmitter known.factors known.emitter here.emitter

-- ---- grids

-- The outermost grid of a side, of a period that begins at `time` with level intervals, tank states and link states.
-- Tanks and links are the file's.
pub record IsOutermostGrid (project : Project) (spread : Spread) (side : Side) (time : ℕ) (levels : List Interval)
    (tanks : List TankState) (links : List LinkState) (grid : Grid) : Type 0 where
  pub junctions : AllZip (IsOutermostJunction project side) (known_junctions project spread time) grid.junctions
  pub reservoirs : grid.reservoirs ≡ map (end_on side) (known_heads project spread time)
  pub tank_heads : grid.tanks ≡ tank_intervals project.tanks.list levels
  pub links_are : grid.links ≡ grid_links project tanks project.links.list links

-- A certificate for the whole spread: one on the outermost grid of its side.
pub record IsCertificateOver (project : Project) (spread : Spread) (time : ℕ) (levels : List Interval)
    (tanks : List TankState) (links : List LinkState) (problem : Problem) (side : Side) (u : List ℤ) : Type 0 where
  pub grid : Grid
  pub is_outermost : IsOutermostGrid project spread side time levels tanks links grid
  pub is_certificate : IsCertificate grid problem side u
