-- A quantity has one decimal rounded down and one rounded up, and the text of a decimal fits a buffer of 48 bytes.
use Rattle.std.proofs.Common.{◌≡◌, ◌<◌, ◌≤◌, ◌^◌, Bool, true, false, ℤ, length, unsigned_abs, arith, length-append}
use Rattle.std.specs.Fmt.{sign_text}
use Rattle.std.specs.Int.{is_negative}
use Rattle.hyd_num.specs.Rational.{Rational}
use Rattle.hyd_num.specs.PrintedDecimals.{IsRoundedDown, IsRoundedUp, decimal_text, fixed_point}
use Rattle.hyd_num.proofs.Floors.{one_floor, one_ceiling}
use Rattle.hyd_units.proofs.Digits.{short_four_places}

pub IsRoundedDown-unique : (x : Rational) (a b : ℤ) → IsRoundedDown x a → IsRoundedDown x b → a ≡ b
IsRoundedDown-unique x a b f g = one_floor _ _ a b f g

pub IsRoundedUp-unique : (x : Rational) (a b : ℤ) → IsRoundedUp x a → IsRoundedUp x b → a ≡ b
IsRoundedUp-unique x a b f g = one_ceiling _ _ a b f g

short_sign : (negative : Bool) → length (sign_text negative) ≤ 1
short_sign true = omega arith
short_sign false = omega arith

pub short_decimal : (count : ℤ) → unsigned_abs count < 2 ^ 128 → length (decimal_text count) ≤ 41
short_decimal count h =
    let e = length-append (sign_text (is_negative count)) (fixed_point 4 (unsigned_abs count)) in
    omega (arith, e, short_sign (is_negative count), short_four_places (unsigned_abs count) h)
