-- Exact quantities that numbers of a file stand for. A number comes as its billionths.
-- A head tick is 10^-13 m, a flow tick 10^-7 m^3 a day. One foot is 0.3048 m, one inch 25.4 mm, and one foot of water
--     0.4333 pounds a square inch.
-- Source: EPANET 2.2 User Manual, appendix A (units of measurement); 0.4333 and the cut of flows are this program's.
use Rattle.std.specs.Prelude.{ℕ, ◌*◌, ◌^◌, Bool, true, false, ℤ, pos, ◌*ℤ◌, int_div}
use borrow.Author.Differences.{up}
use Rattle.hyd_num.specs.Fraction.{Fraction, fraction}
use Rattle.hyd_num.specs.declared.decimals.Decimal.{Decimal}
use Rattle.hyd_num.specs.declared.flow_units.FlowUnit.{FlowUnit}
use Rattle.hyd_num.specs.declared.flow_units.FlowUnit.TheVariants.{Cfs, Gpm, Mgd, Imgd, Afd, Lps, Lpm, Mld, Cmh, Cmd}

-- whether a unit goes with feet, inches and pounds a square inch
abbrev pub is_us_unit : FlowUnit → Bool
is_us_unit Cfs = true
is_us_unit Gpm = true
is_us_unit Mgd = true
is_us_unit Imgd = true
is_us_unit Afd = true
is_us_unit Lps = false
is_us_unit Lpm = false
is_us_unit Mld = false
is_us_unit Cmh = false
is_us_unit Cmd = false

-- one unit in cubic metres a day, over the least power of ten
abbrev pub flow_factor : FlowUnit → Fraction
flow_factor Cfs = fraction 24465755455488 10000000000
flow_factor Gpm = fraction 545099296896 100000000000
flow_factor Mgd = fraction 3785411784 1000000
flow_factor Imgd = fraction 454609 100
flow_factor Afd = fraction 123348183754752 100000000000
flow_factor Lps = fraction 864 10
flow_factor Lpm = fraction 144 100
flow_factor Mld = fraction 1000 1
flow_factor Cmh = fraction 24 1
flow_factor Cmd = fraction 1 1

-- a foot in ten-thousandths of a metre; so many head ticks are a billionth of a foot
abbrev pub ten_thousandths_of_metre_in_foot : ℕ
ten_thousandths_of_metre_in_foot = 3048

-- a foot of water in ten-thousandths of a pound a square inch
abbrev pub ten_thousandths_of_pound_in_foot : ℕ
ten_thousandths_of_pound_in_foot = 4333

-- a billionth of a metre in head ticks
abbrev pub head_ticks_in_billionth_of_metre : ℕ
head_ticks_in_billionth_of_metre = 10000

-- a billionth of a pound a square inch in head ticks, times the ten-thousandths of a pound in a foot
abbrev pub numerator_of_billionth_of_pound : ℕ
numerator_of_billionth_of_pound = 10000 * ten_thousandths_of_metre_in_foot

-- the billionths of a number that isn't negative, 0 for a negative one
abbrev pub billionths : Decimal → ℕ
billionths d = up d.nano

-- a number as it is, in no unit
abbrev pub ordinary : ℕ → Fraction
ordinary v = fraction v (10 ^ 9)

-- a head of v billionths of a foot or a metre, in head ticks
abbrev pub head_ticks : Bool → ℤ → ℤ
head_ticks true v = pos ten_thousandths_of_metre_in_foot *ℤ v
head_ticks false v = pos head_ticks_in_billionth_of_metre *ℤ v

-- a flow of v billionths of a unit, in flow ticks
abbrev pub flow_fraction : FlowUnit → ℕ → Fraction
flow_fraction unit v = fraction (v * (flow_factor unit).num) (100 * (flow_factor unit).den)

-- that flow cut toward zero to whole flow ticks
abbrev pub flow_ticks : FlowUnit → ℤ → ℤ
flow_ticks unit v = int_div (v *ℤ pos (flow_factor unit).num) (pos (100 * (flow_factor unit).den))

-- a pressure of v billionths of a pound a square inch or a metre, in head ticks: the numerator, and the denominator
-- below it
abbrev pub pressure_numerator : Bool → ℤ → ℤ
pressure_numerator true v = pos numerator_of_billionth_of_pound *ℤ v
pressure_numerator false v = pos head_ticks_in_billionth_of_metre *ℤ v

-- the denominator of a pressure in head ticks
abbrev pub pressure_denominator : Bool → ℕ
pressure_denominator true = ten_thousandths_of_pound_in_foot
pressure_denominator false = 1

-- a pressure that isn't negative, in head ticks
abbrev pub pressure_fraction : Bool → ℕ → Fraction
pressure_fraction true v = fraction (numerator_of_billionth_of_pound * v) ten_thousandths_of_pound_in_foot
pressure_fraction false v = fraction (head_ticks_in_billionth_of_metre * v) 1

-- a length of v billionths of a foot or a metre, in feet
abbrev pub feet : Bool → ℕ → Fraction
feet true v = fraction v (10 ^ 9)
feet false v = fraction (10 ^ 4 * v) (ten_thousandths_of_metre_in_foot * 10 ^ 9)

-- a diameter of v billionths of an inch or a millimetre, in feet
abbrev pub feet_across : Bool → ℕ → Fraction
feet_across true v = fraction v (12 * 10 ^ 9)
feet_across false v = fraction (10 * v) (ten_thousandths_of_metre_in_foot * 10 ^ 9)
