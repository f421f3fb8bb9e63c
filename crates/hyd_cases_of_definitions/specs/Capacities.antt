-- Capacities of realistic size, as the binary numbers between which they lie, and head differences at which they are
-- tried.
use Rattle.std.specs.Prelude.{◌≡◌, ℕ, ℤ, pos, neg_ℤ, List, [], ◌∷◌}
use Rattle.hyd_spec.specs.ProgramTypes.{Capacity}
use Rattle.hyd_spec_certificates.specs.EnclosingFunctions.{DemandLaw, Driven}

-- The mantissas and exponents of both ends of a capacity.
pub record HasEnds (capacity : Capacity) (low_mantissa : ℕ) (low_exponent : ℤ) (high_mantissa : ℕ)
    (high_exponent : ℤ) : Type 0 where
  pub low_mantissa_is : capacity.lo.mant ≡ low_mantissa
  pub low_exponent_is : capacity.lo.exp ≡ low_exponent
  pub high_mantissa_is : capacity.hi.mant ≡ high_mantissa
  pub high_exponent_is : capacity.hi.exp ≡ high_exponent

-- A valve of 304.8 mm with the loss coefficient 100.
abbrev pub IsValve : Capacity → Type 0
IsValve capacity = HasEnds capacity 5361655754717038823 (neg_ℤ (pos 36)) 5361655754717038826 (neg_ℤ (pos 36))

-- A pipe of 1000 m, 300 mm across, of roughness 0.011, without minor losses.
abbrev pub IsPipe : Capacity → Type 0
IsPipe capacity = HasEnds capacity 6703202733254145186 (neg_ℤ (pos 36)) 6703202733254145207 (neg_ℤ (pos 36))

-- A pipe of 5280.123456789 feet, 8.123456789 inches across, of roughness 0.013, with a minor loss coefficient of 2.5.
abbrev pub IsPipeInFeet : Capacity → Type 0
IsPipeInFeet capacity = HasEnds capacity 6432419053715539634 (neg_ℤ (pos 40)) 6432419053715539655 (neg_ℤ (pos 40))

-- A pump with a curve of one point, 40 m at 2160 cubic metres a day.
abbrev pub IsPump : Capacity → Type 0
IsPump capacity = HasEnds capacity 7694822175827558399 (neg_ℤ (pos 41)) 7694822175827558401 (neg_ℤ (pos 41))

-- A pump with a curve of three points that loses 63 feet at 600 gallons a minute.
abbrev pub IsPumpInFeet : Capacity → Type 0
IsPumpInFeet capacity = HasEnds capacity 6124886692936332063 (neg_ℤ (pos 40)) 6124886692936332066 (neg_ℤ (pos 40))

-- An emitter that passes 43.2 cubic metres a day at a pressure of one metre.
abbrev pub IsEmitter : Capacity → Type 0
IsEmitter capacity = HasEnds capacity 5252998605364946534 (neg_ℤ (pos 48)) 5252998605364946535 (neg_ℤ (pos 48))

-- A demand of 800 cubic metres a day between pressures of 5 and 20 m.
abbrev pub IsDriven : Capacity → Type 0
IsDriven capacity = HasEnds capacity 7505999378950826666 (neg_ℤ (pos 44)) 7505999378950826667 (neg_ℤ (pos 44))

-- A demand of 545.1 cubic metres a day between 5 and 20.000000001 pounds a square inch.
abbrev pub IsDrivenInPounds : Capacity → Type 0
IsDrivenInPounds capacity = HasEnds capacity 4953984467136903447 (neg_ℤ (pos 44)) 4953984467136903448 (neg_ℤ (pos 44))

-- None, one tick, a ten-thousandth of a millimetre, 1 m, 12.3 m and 100 m, in both directions.
abbrev pub differences : List ℤ
differences = pos 0 ∷ pos 1 ∷ neg_ℤ (pos 1) ∷ pos 1000003 ∷ neg_ℤ (pos 1000003) ∷ pos 10000000000000
    ∷ neg_ℤ (pos 10000000000000)
    ∷ pos 123456789012345 ∷ neg_ℤ (pos 123456789012345) ∷ pos 1000000000000000 ∷ neg_ℤ (pos 1000000000000000) ∷ []

-- The law of the demand in metres.
abbrev pub driven : Capacity → DemandLaw
driven capacity = Driven (pos 8000000000) capacity (record {
  num = pos 50000000000000;
  den = 1;
}) (record { num = pos 200000000000000; den = 1 })

-- Pressures around its minimum and its required one.
abbrev pub around : List ℤ
around = neg_ℤ (pos 10000000000000) ∷ pos 49999999999999 ∷ pos 50000000000000 ∷ pos 50000000000001
    ∷ pos 100000000000000 ∷ pos 199999999999999
    ∷ pos 200000000000000 ∷ pos 200000000000001 ∷ pos 1000000000000000 ∷ []

-- The law of the demand in pounds.
abbrev pub driven_in_pounds : Capacity → DemandLaw
driven_in_pounds capacity = Driven (pos 5451000000) capacity
    (record { num = pos 152400000000000000; den = 4333 }) (record { num = pos 609600000030480000; den = 4333 })

-- Pressures around its minimum and its required one.
abbrev pub around_in_pounds : List ℤ
around_in_pounds = neg_ℤ (pos 10000000000000) ∷ pos 35171936302792 ∷ pos 35171936302793 ∷ pos 35171936302794
    ∷ pos 100000000000000
    ∷ pos 140687745218203 ∷ pos 140687745218204 ∷ pos 140687745218205 ∷ pos 140687745218206 ∷ pos 1000000000000000 ∷ []
