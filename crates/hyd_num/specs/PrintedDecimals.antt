-- Printed decimals: the quantity of a number of ticks in the file's units, what makes a number of ten-thousandths that
-- quantity rounded down or up, and the text of such a number.
-- Source: EPANET 2.2 User Manual, appendix A (units of measurement); the rounding is this program's.
use Rattle.std.specs.Prelude.{ℕ, zero, suc, ◌+◌, ◌*◌, ◌/◌, ◌%◌, ◌^◌, Bool, true, false, List, [], ◌∷◌, ◌++◌, ℤ, pos}
use Rattle.std.specs.Prelude.{◌*ℤ◌, unsigned_abs, codes}
use Rattle.std.specs.Int.{is_negative}
use Rattle.std.specs.Fmt.{decimal, sign_text}
use Rattle.hyd_num.specs.FileQuantity.{flow_factor, head_ticks_in_billionth_of_metre}
use Rattle.hyd_num.specs.FileQuantity.{ten_thousandths_of_metre_in_foot, ten_thousandths_of_pound_in_foot}
use Rattle.hyd_num.specs.Rational.{Rational}
use Rattle.hyd_num.specs.QuotientsAndRoots.{IsFloor, IsCeiling}
use Rattle.hyd_num.specs.declared.flow_units.FlowUnit.{FlowUnit}

-- ---- quantities in the file's units

-- a head or a level, in feet (0.3048 m) or metres; a tick is 10^-13 m
abbrev pub head_quantity : Bool → ℤ → Rational
head_quantity true ticks = record { num = ticks; den = ten_thousandths_of_metre_in_foot * 10 ^ 9 }
head_quantity false ticks = record { num = ticks; den = head_ticks_in_billionth_of_metre * 10 ^ 9 }

-- a pressure as a height of water, in pounds a square inch (0.4333 a foot) or metres
abbrev pub pressure_quantity : Bool → ℤ → Rational
pressure_quantity true ticks =
    record {
      num = pos ten_thousandths_of_pound_in_foot *ℤ ticks;
      den = 10 ^ 4 * (ten_thousandths_of_metre_in_foot * 10 ^ 9);
    }
pressure_quantity false ticks = head_quantity false ticks

-- a flow in one of the ten units; a tick is 10^-7 m^3 a day
abbrev pub flow_quantity : FlowUnit → ℤ → Rational
flow_quantity unit ticks = record { num = pos (flow_factor unit).den *ℤ ticks; den = 10 ^ 7 * (flow_factor unit).num }

-- ---- rounding to four decimals

-- the greatest whole number of ten-thousandths at most the quantity
abbrev pub IsRoundedDown : Rational → ℤ → Type 0
IsRoundedDown x count = IsFloor (pos (10 ^ 4) *ℤ x.num) (pos x.den) count

-- the least whole number of ten-thousandths at least the quantity
abbrev pub IsRoundedUp : Rational → ℤ → Type 0
IsRoundedUp x count = IsCeiling (pos (10 ^ 4) *ℤ x.num) (pos x.den) count

-- ---- texts

-- the last decimal digits of n, as many as there are places
abbrev pub last_digits : ℕ → ℕ → List ℕ
last_digits zero n = []
last_digits (suc places) n = last_digits places (n / 10) ++ (48 + n % 10) ∷ []

-- n units of the last of these decimal places: the whole part, a point, and the places
unfoldable pub fixed_point : ℕ → ℕ → List ℕ
fixed_point places n = decimal (n / 10 ^ places) ++ (codes "." ++ last_digits places n)

-- a number of ten-thousandths: `-` where it is below 0, then its four decimals
abbrev pub decimal_text : ℤ → List ℕ
decimal_text count = sign_text (is_negative count) ++ fixed_point 4 (unsigned_abs count)

-- a number of billionths, as a link's setting is shown
abbrev pub setting_text : ℕ → List ℕ
setting_text billionths = fixed_point 9 billionths
