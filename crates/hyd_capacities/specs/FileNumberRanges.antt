-- The ranges that an input file allows for the numbers behind a capacity. A number comes as its billionths.
use Rattle.std.specs.Prelude.{ℕ, ◌*◌, ◌^◌, pos, ◌+ℤ◌, ◌≤ℤ◌, ◌<ℤ◌, Bool}
use Rattle.hyd_num.specs.declared.decimals.Decimal.{Decimal}
use Rattle.hyd_num.specs.declared.flow_units.FlowUnit.{FlowUnit}
use Rattle.hyd_net.specs.NumberRanges.{head_limit, flow_limit}
use Rattle.hyd_num.specs.FileQuantity.{billionths, flow_ticks, pressure_fraction}
use Rattle.hyd_num.specs.Fraction.{AtMost, whole}

-- A number above 0 and at most this many units.
pub record IsPositiveUpTo (most : ℕ) (number : Decimal) : Type 0 where
  pub positive : pos 0 <ℤ number.nano
  pub at_most : number.nano ≤ℤ pos (most * 10 ^ 9)

-- A pipe's length: above 0, at most a million feet or metres.
abbrev pub IsLength : Decimal → Type 0
IsLength = IsPositiveUpTo (10 ^ 6)

-- A diameter of a pipe or valve: above 0, at most 10,000 inches or millimetres.
abbrev pub IsDiameter : Decimal → Type 0
IsDiameter = IsPositiveUpTo (10 ^ 4)

-- Manning's roughness of a pipe: above 0, at most 10.
abbrev pub IsRoughness : Decimal → Type 0
IsRoughness = IsPositiveUpTo 10

-- A minor loss coefficient that isn't 0, or an emitter's coefficient: above 0, at most a million.
abbrev pub IsCoefficient : Decimal → Type 0
IsCoefficient = IsPositiveUpTo (10 ^ 6)

-- A pipe's minor loss coefficient: 0 where it has none.
pub record IsMinorCoefficient (minor : Decimal) : Type 0 where
  pub not_negative : pos 0 ≤ℤ minor.nano
  pub at_most : minor.nano ≤ℤ pos (10 ^ 6 * 10 ^ 9)

-- A flow of a pump's curve: above 0, at most the greatest flow after the cut to whole ticks.
pub record IsCurveFlow (unit : FlowUnit) (flow : Decimal) : Type 0 where
  pub positive : pos 0 <ℤ flow.nano
  pub at_most : flow_ticks unit flow.nano ≤ℤ pos flow_limit

-- The minimum and the required pressure of pressure-driven demands: not negative, at most the limit of heads,
-- the required one at least a tenth of a pound a square inch or of a metre above the minimum one.
pub record ArePressures (us : Bool) (minimum required : Decimal) : Type 0 where
  pub not_negative : pos 0 ≤ℤ minimum.nano
  pub apart : (minimum.nano +ℤ pos (10 ^ 8)) ≤ℤ required.nano
  pub at_most : AtMost (pressure_fraction us (billionths required)) (whole head_limit)
