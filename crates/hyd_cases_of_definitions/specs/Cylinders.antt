-- Cylindrical tanks: only their levels are kept.
use Rattle.std.specs.Prelude.{ℤ, pos, None, false}
use Rattle.hyd_spec.specs.ProgramTypes.{Decimal, Tank}
use Rattle.hyd_spec.specs.Tank.{Stock}
use Rattle.hyd_spec_certificates.specs.Interval.{Interval, exactly}
use Rattle.hyd_spec_certificates.specs.Stocks.{Stocks}

-- Its stock at a level.
abbrev pub at_level : ℤ → Stock
at_level level = record { level = level; volume = pos 0 }

-- Its stocks over an interval of levels.
abbrev pub at_levels : Interval → Stocks
at_levels level = record { level = level; volume = exactly (pos 0) }

-- A cylinder of 10 square metres and one metre high.
abbrev pub cylinder : ℤ → ℤ → Decimal → Tank
cylinder bottom initial diameter = record {
  bottom = bottom;
  initial = initial;
  minimum = pos 0;
  maximum = pos 10000000000000;
  area = pos 10000000000;
  diameter = diameter;
  shape = None;
  overflow = false;
}
