-- Which pairs a pipe's numbers make, step by step: the constant of powers, and the head ticks that a squared flow tick
-- loses to fittings.
-- A number that is negative counts as 0. No pair encloses 0: a number that counts as 0 stands for none, and a minor
-- coefficient of 0 makes no pair.
use Rattle.std.specs.Prelude.{◌≡◌, ℕ, zero, suc, ◌+◌, ◌-◌, ◌*◌, ◌^◌, Bool, Option, Some, None}
use Rattle.hyd_num.specs.declared.binary.Scaled.{Scaled}
use Rattle.hyd_num.specs.declared.pairs.Pair.{Pair}
use Rattle.hyd_num.specs.declared.decimals.Decimal.{Decimal}
use Rattle.hyd_num.specs.declared.flow_units.FlowUnit.TheVariants.{Cfs}
use Rattle.hyd_num.specs.Pairs.{IsRatio, IsProduct, IsQuotient, IsPower}
use Rattle.hyd_num.specs.CapacityPairs.{IsPairOf, IsMinorPair}
use Rattle.hyd_num.specs.FileQuantity.{billionths, ordinary, feet, feet_across, flow_factor}
use Rattle.hyd_num.specs.FileQuantity.{ten_thousandths_of_metre_in_foot}
use Rattle.hyd_spec_power_laws.specs.declared.power_capacities.HazenWilliamsPipe.{HazenWilliamsPipe}
use Rattle.hyd_spec_power_laws.specs.declared.power_capacities.PowerCapacity.{PowerCapacity}
use Rattle.hyd_spec_power_laws.specs.WholeFlows.{Covers}

-- flow ticks in a cubic foot a second
abbrev pub IsFlowUnit : Pair → Type 0
IsFlowUnit r = IsRatio (flow_factor Cfs).num 1000 r

-- head ticks in a foot
abbrev pub IsFoot : Pair → Type 0
IsFoot r = IsRatio (ten_thousandths_of_metre_in_foot * 10 ^ 9) 1 r

-- the flow ticks in as many cubic feet a second as the coefficient, to the power 1852, times the diameter to the power
-- 4871
pub record IsCarried (diameter c : Decimal) (us : Bool) (r : Pair) : Type 0 where
  pub unit : Pair
  pub unit_is : IsFlowUnit unit
  pub coefficient : Pair
  pub coefficient_is : IsPairOf (ordinary (billionths c)) coefficient
  pub flow : Pair
  pub flow_is : IsProduct unit coefficient flow
  pub flows : Pair
  pub flows_is : IsPower flow 1852 flows
  pub across : Pair
  pub across_is : IsPairOf (feet_across us (billionths diameter)) across
  pub widths : Pair
  pub widths_is : IsPower across 4871 widths
  pub carried_is : IsProduct flows widths r

-- 4.727 times the length, in head ticks, to the power 1000
pub record IsDragged (length : Decimal) (us : Bool) (r : Pair) : Type 0 where
  pub factor : Pair
  pub factor_is : IsRatio 4727 1000 factor
  pub long : Pair
  pub long_is : IsPairOf (feet us (billionths length)) long
  pub drag : Pair
  pub drag_is : IsProduct factor long drag
  pub foot : Pair
  pub foot_is : IsFoot foot
  pub ticks : Pair
  pub ticks_is : IsProduct drag foot ticks
  pub dragged_is : IsPower ticks 1000 r

-- the constant of powers: what the power 1000 of the head lost to friction is multiplied by to give the power 1852 of
-- the flow
pub record IsConstant (length diameter c : Decimal) (us : Bool) (r : Pair) : Type 0 where
  pub carried : Pair
  pub carried_is : IsCarried diameter c us carried
  pub dragged : Pair
  pub dragged_is : IsDragged length us dragged
  pub constant_is : IsQuotient carried dragged r

-- the head ticks that a squared flow tick loses to fittings
pub record IsMinorTicks (diameter k : Decimal) (us : Bool) (r : Pair) : Type 0 where
  pub lost : Pair
  pub lost_is : IsMinorPair diameter k us lost
  pub foot : Pair
  pub foot_is : IsFoot foot
  pub ticks : Pair
  pub ticks_is : IsProduct lost foot ticks
  pub unit : Pair
  pub unit_is : IsFlowUnit unit
  pub square : Pair
  pub square_is : IsProduct unit unit square
  pub minor_is : IsQuotient ticks square r

-- the lower end of the constant, lessened by its 2^49th part
pub record IsLessened (constant : Pair) (low : Scaled) : Type 0 where
  pub factor : Pair
  pub factor_is : IsRatio (2 ^ 49 - 1) (2 ^ 49) factor
  pub less : Pair
  pub less_is : IsProduct constant factor less
  pub low_is : less.lo ≡ low

-- its upper end, raised by its 2^49th part
pub record IsRaised (constant : Pair) (high : Scaled) : Type 0 where
  pub factor : Pair
  pub factor_is : IsRatio (2 ^ 49 + 1) (2 ^ 49) factor
  pub more : Pair
  pub more_is : IsProduct constant factor more
  pub high_is : more.hi ≡ high

-- a minor loss whose coefficient has this many billionths
abbrev pub IsMinorWith : ℕ → (diameter minor : Decimal) → Bool → Option Pair → Type 0
IsMinorWith zero diameter minor us made = made ≡ None
IsMinorWith (suc n) diameter minor us made = (r : Pair) × (made ≡ Some r) × IsMinorTicks diameter minor us r

-- the ends and the minor loss that a pipe's numbers make
pub record StandsFor (pipe : HazenWilliamsPipe) (low high : Scaled) (minor : Option Pair) : Type 0 where
  pub constant : Pair
  pub constant_is : IsConstant pipe.length pipe.diameter pipe.coefficient pipe.us constant
  pub low_is : IsLessened constant low
  pub high_is : IsRaised constant high
  pub minor_is : IsMinorWith (billionths pipe.minor) pipe.diameter pipe.minor pipe.us minor

-- a capacity is what its pipe's numbers make
abbrev pub IsMade : PowerCapacity → Type 0
IsMade c = StandsFor c.pipe c.low c.high c.minor

-- what the pipe's numbers make doesn't reach each difference of heads
pub record IsRefused (pipe : HazenWilliamsPipe) : Type 0 where
  pub low : Scaled
  pub high : Scaled
  pub minor : Option Pair
  pub made : StandsFor pipe low high minor
  pub short : Covers high minor → ⊥
