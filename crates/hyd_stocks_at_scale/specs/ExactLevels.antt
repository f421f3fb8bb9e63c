-- Exact levels, as the code has them.
use Rattle.std.specs.Prelude.{◌≡◌, ◌*◌, ◌^◌, ◌<◌, ◌≤◌, pos, ◌+ℤ◌, ◌*ℤ◌}
use Rattle.hyd_num.specs.Rational.{Rational}
use Rattle.hyd_stocks_at_scale.specs.declared.carried_levels.ExactLevel.{ExactLevel}
use Rattle.hyd_stocks_at_scale.specs.declared.volume_curve.Mixed.{Mixed}
use Rattle.hyd_stocks_at_scale.specs.VolumeCurves.{value_of}

-- the exact level is this value
pub record IsLevel (level : ExactLevel) (x : Rational) : Type 0 where
  pub proper : level.part < level.of
  pub of : level.of ≤ 10 ^ 21
  pub same : pos level.of *ℤ x.num ≡ pos x.den *ℤ ((pos level.of *ℤ level.whole) +ℤ pos level.part)

-- a level in shares of which 864 make a part of a tick, in parts of a tick
abbrev pub in_parts_of : Mixed → Rational
in_parts_of exact = record { num = (value_of exact).num; den = exact.of * 864 }
