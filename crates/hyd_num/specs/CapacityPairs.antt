-- Which pair each kind of capacity is, step by step, from the numbers of a file. A capacity is the square of the flow
-- in ticks that one head tick drives. Head losses are Manning's, with Chezy's form of the friction (EPANET 2.2 User
-- Manual, Analysis Algorithms): in feet and cubic feet a second, 4.66 n^2 L d^-5.33 q^2 for friction and 0.02517 K d^-4
-- q^2 for minor losses.
-- A number that is negative counts as 0. No pair encloses 0, so a number that counts as 0 stands for none; a pipe's
-- minor
--     coefficient of 0 is left out.
use Rattle.std.specs.Prelude.{◌≡◌, ℕ, zero, suc, ◌*◌, ◌^◌, Bool, ℤ, ◌-ℤ◌}
use borrow.Author.Differences.{up}
use Rattle.hyd_num.specs.declared.pairs.Pair.{Pair}
use Rattle.hyd_num.specs.declared.decimals.Decimal.{Decimal}
use Rattle.hyd_num.specs.declared.flow_units.FlowUnit.{FlowUnit}
use Rattle.hyd_num.specs.declared.link_capacities.Capacity.{Capacity}
use Rattle.hyd_num.specs.declared.link_capacities.Origin.{Origin}
use Rattle.hyd_num.specs.declared.link_capacities.Origin.TheVariants.{Pipe, Valve, Pump, Emitter, PressureDemand}
use Rattle.hyd_num.specs.Fraction.{Fraction}
use Rattle.hyd_num.specs.Pairs.{IsRatio, IsProduct, IsQuotient, IsSum, IsPower, IsRoot533}
use Rattle.hyd_num.specs.FileQuantity.{billionths, ordinary, feet, feet_across, flow_fraction, pressure_fraction}
use Rattle.hyd_num.specs.FileQuantity.{head_ticks, is_us_unit, ten_thousandths_of_metre_in_foot}

-- r encloses x as tightly as can be
abbrev pub IsPairOf : Fraction → Pair → Type 0
IsPairOf x r = IsRatio x.num x.den r

-- the capacity of a link that loses one foot at one cubic foot a second
abbrev pub IsUnitPair : Pair → Type 0
IsUnitPair r = IsRatio (86400 ^ 2 * ten_thousandths_of_metre_in_foot ^ 5 * 10) (10 ^ 20) r

-- the feet lost to friction at one cubic foot a second: 4.66 times the roughness, times the roughness, times the
-- length, divided by the diameter to the power 5.33
pub record IsFrictionPair (length diameter roughness : Decimal) (us : Bool) (r : Pair) : Type 0 where
  pub factor : Pair
  pub factor_is : IsRatio 466 100 factor
  pub rough : Pair
  pub rough_is : IsPairOf (ordinary (billionths roughness)) rough
  pub long : Pair
  pub long_is : IsPairOf (feet us (billionths length)) long
  pub across : Pair
  pub across_is : IsPairOf (feet_across us (billionths diameter)) across
  pub root : Pair
  pub root_is : IsRoot533 across root
  pub once_rough : Pair
  pub once_rough_is : IsProduct factor rough once_rough
  pub twice_rough : Pair
  pub twice_rough_is : IsProduct once_rough rough twice_rough
  pub along : Pair
  pub along_is : IsProduct twice_rough long along
  pub friction_is : IsQuotient along root r

-- the feet lost to a minor loss at one cubic foot a second: 0.02517 times its coefficient, divided by the diameter to
-- the power 4
pub record IsMinorPair (diameter k : Decimal) (us : Bool) (r : Pair) : Type 0 where
  pub factor : Pair
  pub factor_is : IsRatio 2517 100000 factor
  pub coefficient : Pair
  pub coefficient_is : IsPairOf (ordinary (billionths k)) coefficient
  pub across : Pair
  pub across_is : IsPairOf (feet_across us (billionths diameter)) across
  pub fourth : Pair
  pub fourth_is : IsPower across 4 fourth
  pub scaled : Pair
  pub scaled_is : IsProduct factor coefficient scaled
  pub minor_is : IsQuotient scaled fourth r

-- the unit pair divided by the feet lost at one cubic foot a second
pub record IsUnitOver (lost r : Pair) : Type 0 where
  pub unit : Pair
  pub unit_is : IsUnitPair unit
  pub capacity_is : IsQuotient unit lost r

-- a pipe without minor losses
pub record IsPipePairWithoutMinor (length diameter roughness : Decimal) (us : Bool) (r : Pair) : Type 0 where
  pub friction : Pair
  pub friction_is : IsFrictionPair length diameter roughness us friction
  pub capacity_is : IsUnitOver friction r

-- a pipe with minor losses, which are added to its friction
pub record IsFittedPipePair (length diameter roughness minor : Decimal) (us : Bool) (r : Pair) : Type 0 where
  pub friction : Pair
  pub friction_is : IsFrictionPair length diameter roughness us friction
  pub fittings : Pair
  pub fittings_is : IsMinorPair diameter minor us fittings
  pub lost : Pair
  pub lost_is : IsSum friction fittings lost
  pub capacity_is : IsUnitOver lost r

-- a pipe whose minor loss coefficient has this many billionths
abbrev pub IsPipePairWith : ℕ → (length diameter roughness minor : Decimal) → Bool → Pair → Type 0
IsPipePairWith zero length diameter roughness minor us r = IsPipePairWithoutMinor length diameter roughness us r
IsPipePairWith (suc k) length diameter roughness minor us r = IsFittedPipePair length diameter roughness minor us r

-- the pair of a pipe, with or without a minor loss
abbrev pub IsPipePair : (length diameter roughness minor : Decimal) → Bool → Pair → Type 0
IsPipePair length diameter roughness minor us r = IsPipePairWith (billionths minor) length diameter roughness minor us r

-- a valve that is fully open, with a minor loss coefficient k above 0
pub record IsValvePair (diameter k : Decimal) (us : Bool) (r : Pair) : Type 0 where
  pub lost : Pair
  pub lost_is : IsMinorPair diameter k us lost
  pub capacity_is : IsUnitOver lost r

-- the square of a flow divided by the head that drives it
pub record IsSquareOver (flow head r : Pair) : Type 0 where
  pub square : Pair
  pub square_is : IsProduct flow flow square
  pub capacity_is : IsQuotient square head r

-- a pump that loses `drop / thirds` of head at `flow`
pub record IsPumpPair (flow drop : Decimal) (thirds : ℕ) (unit : FlowUnit) (r : Pair) : Type 0 where
  pub flows : Pair
  pub flows_is : IsPairOf (flow_fraction unit (billionths flow)) flows
  pub head : Pair
  pub head_is : IsRatio (up (head_ticks (is_us_unit unit) drop.nano)) thirds head
  pub capacity_is : IsSquareOver flows head r

-- an emitter with this flow at one pound a square inch or one metre
pub record IsEmitterPair (coefficient : Decimal) (unit : FlowUnit) (r : Pair) : Type 0 where
  pub flows : Pair
  pub flows_is : IsPairOf (flow_fraction unit (billionths coefficient)) flows
  pub head : Pair
  pub head_is : IsPairOf (pressure_fraction (is_us_unit unit) (10 ^ 9)) head
  pub capacity_is : IsSquareOver flows head r

-- a demand that is met at the required pressure and is 0 at the minimum one
pub record IsPressurePair (demand : ℤ) (minimum required : Decimal) (us : Bool) (r : Pair) : Type 0 where
  pub flows : Pair
  pub flows_is : IsRatio (up demand) 1 flows
  pub head : Pair
  pub head_is : IsPairOf (pressure_fraction us (up (required.nano -ℤ minimum.nano))) head
  pub capacity_is : IsSquareOver flows head r

-- the pair that the numbers of a file stand for
abbrev pub StandsFor : Origin → Pair → Type 0
StandsFor (Pipe us length diameter roughness minor) r = IsPipePair length diameter roughness minor us r
StandsFor (Valve diameter k us) r = IsValvePair diameter k us r
StandsFor (Pump flow drop thirds unit) r = IsPumpPair flow drop thirds unit r
StandsFor (Emitter coefficient unit) r = IsEmitterPair coefficient unit r
StandsFor (PressureDemand demand minimum required us) r = IsPressurePair demand minimum required us r

-- the ends of a capacity are those of the pair that its origin stands for
pub record IsMade (c : Capacity) : Type 0 where
  pub pair : Pair
  pub low : pair.lo ≡ c.lo
  pub high : pair.hi ≡ c.hi
  pub made : StandsFor c.origin pair
