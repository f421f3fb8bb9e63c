-- Exact values and amounts, as the code has them.
-- Source: this program's.
use Rattle.std.specs.Prelude.{◌≡◌, ◌*◌, ◌^◌, ◌<◌, ◌≤◌, ℤ, pos, ◌+ℤ◌, ◌*ℤ◌, unsigned_abs}
use Rattle.hyd_num.specs.Rational.{Rational}
use Rattle.hyd_stocks_at_scale.specs.declared.carried_levels.ExactLevel.{ExactLevel}
use Rattle.hyd_stocks_at_scale.specs.ExactLevels.{IsLevel}
use Rattle.hyd_rules_at_scale.specs.declared.amounts.Amount.{Amount}
use Rattle.hyd_rules_at_scale.specs.declared.quantities.Quantity.{Quantity}

-- a whole number and a proper part, of which multiples fit
pub record IsProper (value : ExactLevel) : Type 0 where
  pub part : value.part < value.of
  pub of : value.of ≤ 10 ^ 21
  pub small : unsigned_abs value.whole ≤ 4 * 10 ^ 24

-- the exact value is this fraction, which is one
pub record IsExactly (value : ExactLevel) (x : Rational) : Type 0 where
  pub level : IsLevel value x
  pub some : 0 < x.den

-- how many shares the value has, where `of` of them make a whole
abbrev pub numerator_of : ExactLevel → ℤ
numerator_of value = (pos value.of *ℤ value.whole) +ℤ pos value.part

-- the value over its parts is this fraction
pub record IsQuantity (quantity : Quantity) (x : Rational) : Type 0 where
  pub some : 0 < x.den
  pub same : pos (quantity.value.of * quantity.parts) *ℤ x.num
      ≡ pos x.den *ℤ numerator_of quantity.value

-- the amount as a fraction
abbrev pub fraction_of : Amount → Rational
fraction_of amount = record { num = amount.num; den = amount.den }
