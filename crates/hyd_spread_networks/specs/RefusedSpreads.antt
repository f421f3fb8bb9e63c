-- Why a network has no nets for a spread.
use Rattle.std.specs.Prelude.{◌≡◌, ◌⊎◌, ℕ, ◌^◌, ◌<◌, ℤ, pos, ◌≤ℤ◌, ◌<ℤ◌, Option, Some, slice_get, ⊤}
use Rattle.hyd_num.specs.CapacityRange.{IsRefused}
use Rattle.hyd_spec.specs.ProgramTypes.{Project, Reservoir, Capacity, Emitter, Decimal, FlowUnit}
use Rattle.hyd_spec.specs.Lists.{Each}
use Rattle.hyd_spec_spread.specs.Spreads.{Factors, Spread}
use Rattle.hyd_spec_spread.specs.IntervalsOfData.{products}
use Rattle.hyd_spread_networks.specs.NetsOfSpreads.{KnownEmitter, IsOutermost, known_emitters}
use Rattle.hyd_spread_networks.specs.HeadsBySpreads.{HeadsStay}
use Rattle.hyd_spread_networks.specs.declared.fault.SpreadNetsRefused.{SpreadNetsRefused}
use Rattle.hyd_spread_networks.specs.declared.fault.SpreadNetsRefused.TheVariants.{OutOfMemory, Emitter as OfEmitter}
use Rattle.hyd_spread_networks.specs.declared.fault.SpreadNetsRefused.TheVariants.{Head as OfHead}

-- ---- emitters

-- A coefficient of so many billionths is none of a file: it isn't above 0, or it is above a million.
abbrev pub IsNoCoefficient : ℤ → Type 0
IsNoCoefficient nano = (nano ≤ℤ pos 0) ⊎ (pos (10 ^ 15) <ℤ nano)

-- The capacity of an emitter of this coefficient is out of range.
pub record HasNoCapacity (unit : FlowUnit) (nano : ℤ) : Type 0 where
  pub coefficient : Decimal
  pub nano_is : coefficient.nano ≡ nano
  pub refused : IsRefused (Emitter coefficient unit)

-- One of the two.
abbrev pub IsRefusedAt : FlowUnit → ℤ → Type 0
IsRefusedAt unit nano = IsNoCoefficient nano ⊎ HasNoCapacity unit nano

-- So it is with the least coefficient of an emitter, or with the greatest one.
pub record IsRefusedEmitter (factors : Factors) (own : Capacity) : Type 0 where
  pub coefficient : Decimal
  pub unit : FlowUnit
  pub own_is : own.origin ≡ Emitter coefficient unit
  pub refused : IsRefusedAt unit (products factors coefficient.nano).lo
      ⊎ IsRefusedAt unit (products factors coefficient.nano).hi

abbrev pub IsRefusedOne : KnownEmitter → Type 0
IsRefusedOne known = (own : Capacity) × ((known.own ≡ Some own) × IsRefusedEmitter known.factors own)

-- The first junction that has no outermost emitter.
pub record IsFirstEmitter (project : Project) (spread : Spread) (j : ℕ) : Type 0 where
  pub known : KnownEmitter
  pub is_known : slice_get (known_emitters project spread) j ≡ Some known
  pub refused : IsRefusedOne known
  pub first : (earlier : ℕ) (before : KnownEmitter) → earlier < j
      → slice_get (known_emitters project spread) earlier ≡ Some before → (e : Option Capacity) × IsOutermost before e

-- ---- heads of reservoirs

-- The first reservoir that has a head which leaves its range.
pub record IsFirstHead (project : Project) (spread : Spread) (r : ℕ) : Type 0 where
  pub reservoir : Reservoir
  pub is_reservoir : slice_get project.reservoirs.list r ≡ Some reservoir
  pub leaves : HeadsStay project spread r reservoir → ⊥
  pub first : (earlier : ℕ) (before : Reservoir) → earlier < r
      → slice_get project.reservoirs.list earlier ≡ Some before → HeadsStay project spread earlier before

-- ---- why there are no nets

-- Want of memory says nothing.
abbrev pub IsEmitterFault : Project → Spread → SpreadNetsRefused → Type 0
IsEmitterFault project spread OutOfMemory = ⊤
IsEmitterFault project spread (OfEmitter junction) = IsFirstEmitter project spread junction
IsEmitterFault project spread (OfHead reservoir) = ⊥

-- Heads of reservoirs are judged first.
abbrev pub IsRefusedFor : Project → Spread → SpreadNetsRefused → Type 0
IsRefusedFor project spread OutOfMemory = ⊤
IsRefusedFor project spread (OfEmitter junction) =
    Each project.reservoirs.list (HeadsStay project spread) × IsFirstEmitter project spread junction
IsRefusedFor project spread (OfHead reservoir) = IsFirstHead project spread reservoir
