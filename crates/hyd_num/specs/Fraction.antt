-- Fractions of naturals, a numerator over a denominator above 0. They are compared by cross products, and none is
-- reduced.
use Rattle.std.specs.Prelude.{ℕ, ◌+◌, ◌-◌, ◌*◌, ◌^◌, ◌≤◌}

-- num over den
pub record Fraction : Type 0 where
  pub num : ℕ
  pub den : ℕ

-- n over d
abbrev pub fraction : ℕ → ℕ → Fraction
fraction n d = record { num = n; den = d }

-- n as a fraction
abbrev pub whole : ℕ → Fraction
whole n = fraction n 1

-- the product
abbrev pub times : Fraction → Fraction → Fraction
times x y = fraction (x.num * y.num) (x.den * y.den)

-- the sum
abbrev pub plus : Fraction → Fraction → Fraction
plus x y = fraction (x.num * y.den + y.num * x.den) (x.den * y.den)

-- x minus y, or 0 where y is above x
abbrev pub minus : Fraction → Fraction → Fraction
minus x y = fraction (x.num * y.den - y.num * x.den) (x.den * y.den)

-- x divided by y, a y above 0
abbrev pub over : Fraction → Fraction → Fraction
over x y = fraction (x.num * y.den) (x.den * y.num)

-- x to the power n
abbrev pub power : Fraction → ℕ → Fraction
power x n = fraction (x.num ^ n) (x.den ^ n)

-- x is at most y
pub record AtMost (x y : Fraction) : Type 0 where
  pub crossed : x.num * y.den ≤ y.num * x.den
