-- The networks within a spread at a time: the file's own with other demands, reservoir heads and emitters, each within
-- what the spread leaves open then.
-- Source: this program's.
use Rattle.std.specs.Prelude.{◌≡◌, ℕ, ℤ, pos, Option, Some, None, ⊤}
use Rattle.std.specs.List.{AllZip}
use Rattle.hyd_num.specs.CapacityPairs.{IsMade}
use Rattle.hyd_net.specs.ListView.{ListView}
use Rattle.hyd_spec.specs.ProgramTypes.{Project, Junction, Reservoir, Decimal, FlowUnit, Capacity, Origin, Emitter}
use Rattle.hyd_spec.specs.DemandsHeadsAndPumpLifts.{demand_of, reservoir_head}
use Rattle.hyd_spec_certificates.specs.Interval.{Interval}
use Rattle.hyd_spec_spread.specs.Spreads.{Factors, Spread, Holds}
use Rattle.hyd_spec_spread.specs.IntervalsOfData.{KnownJunction, products, known_junctions, known_heads}

-- ---- networks with other data

-- What may be other in a network within a spread: its junctions with their demands and emitters, its reservoirs, and
-- the multiplier of demands and the pattern of those that name none.
pub record NodeData : Type 0 where
  pub junctions : ListView Junction
  pub reservoirs : ListView Reservoir
  pub multiplier : Decimal
  pub default_pattern : Option ℕ

-- The network with these data. All else is the file's: its tanks, links, patterns, curves, controls, rules and times.
abbrev pub with_data : Project → NodeData → Project
with_data project nodes = record project {
  options = record project.options { multiplier = nodes.multiplier; default_pattern = nodes.default_pattern };
  junctions = nodes.junctions;
  reservoirs = nodes.reservoirs;
}

-- The data of the file.
abbrev pub own_data : Project → NodeData
own_data project = record {
  junctions = project.junctions;
  reservoirs = project.reservoirs;
  multiplier = project.options.multiplier;
  default_pattern = project.options.default_pattern;
}

-- ---- emitters

-- The coefficient of an emitter, in billionths of the file's unit.
abbrev pub coefficient_of : Origin → ℤ
coefficient_of (Emitter coefficient unit) = coefficient.nano
coefficient_of other = pos 0

-- The emitter of a coefficient of so many billionths, in the unit of another emitter.
pub record IsEmitterOf (own : Origin) (nano : ℤ) (capacity : Capacity) : Type 0 where
  pub own_coefficient : Decimal
  pub coefficient : Decimal
  pub unit : FlowUnit
  pub own_is : own ≡ Emitter own_coefficient unit
  pub origin : capacity.origin ≡ Emitter coefficient unit
  pub nano_is : coefficient.nano ≡ nano
  pub made : IsMade capacity

-- An emitter whose coefficient is that of another one times one of the factors.
pub record IsEmitterWithin (factors : Factors) (own capacity : Capacity) : Type 0 where
  pub nano : ℤ
  pub within : Holds (products factors (coefficient_of own.origin)) nano
  pub is_emitter : IsEmitterOf own.origin nano capacity

-- A junction has an emitter where the file gives it one, and that is within the factors.
abbrev pub EmitterIsWithin : Factors → Option Capacity → Option Capacity → Type 0
EmitterIsWithin factors None None = ⊤
EmitterIsWithin factors None (Some capacity) = ⊥
EmitterIsWithin factors (Some own) None = ⊥
EmitterIsWithin factors (Some own) (Some capacity) = IsEmitterWithin factors own capacity

-- ---- networks within

-- A junction of a network is one of those that are known so: it has the elevation, its demand at the time lies in the
-- interval, and its emitter is within the factors.
pub record IsJunctionWithin (project : Project) (time : ℕ) (known : KnownJunction) (junction : Junction) : Type 0 where
  pub elevation : junction.elevation ≡ known.elevation
  pub demand : Holds known.demand (demand_of project time junction)
  pub emitter : EmitterIsWithin known.factors known.emitter junction.emitter

-- The head of a reservoir of a network at the time lies in the interval.
abbrev pub HasHeadWithin : Project → ℕ → Interval → Reservoir → Type 0
HasHeadWithin project time known reservoir = Holds known (reservoir_head project time reservoir)

-- The network with these data is within the spread at a time.
pub record IsWithin (project : Project) (spread : Spread) (time : ℕ) (nodes : NodeData) : Type 0 where
  pub junctions : AllZip (IsJunctionWithin (with_data project nodes) time) (known_junctions project spread time)
      nodes.junctions.list
  pub reservoirs : AllZip (HasHeadWithin (with_data project nodes) time) (known_heads project spread time)
      nodes.reservoirs.list
