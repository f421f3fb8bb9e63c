-- What a call that prints a decimal says of the text.
use Rattle.std.specs.Prelude.{◌≡◌, List, ℕ, ℤ}
use Rattle.hyd_num.specs.Rational.{Rational}
use Rattle.hyd_num.specs.QuotientsAndRoots.{IsFloor, IsCeiling}
use Rattle.hyd_units.specs.declared.printed_quantities.Way.{Way}
use Rattle.hyd_units.specs.declared.printed_quantities.Way.TheVariants.{Down, Up}
use Rattle.hyd_num.specs.PrintedDecimals.{IsRoundedDown, IsRoundedUp, decimal_text}

-- k is the whole number next to n / d in this direction, or n / d itself
abbrev pub IsWhole : Way → ℤ → ℤ → ℤ → Type 0
IsWhole Down n d k = IsFloor n d k
IsWhole Up n d k = IsCeiling n d k

-- a number of ten-thousandths that is the quantity rounded this way
abbrev pub IsRounded : Way → Rational → ℤ → Type 0
IsRounded Down x count = IsRoundedDown x count
IsRounded Up x count = IsRoundedUp x count

-- the text is that of the quantity rounded this way to four decimals
pub record IsDecimalOf (way : Way) (x : Rational) (text : List ℕ) : Type 0 where
  pub count : ℤ
  pub rounded : IsRounded way x count
  pub shown : text ≡ decimal_text count
