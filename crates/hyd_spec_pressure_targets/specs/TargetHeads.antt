-- A target pressure at a junction: the whole head ticks around it, and what a head says of the pressure. A target is an
-- exact pressure in head ticks, a head tick 10^-13 m of water.
-- Source: this program's.
use Rattle.std.specs.Prelude.{ℕ, ℤ, ◌+ℤ◌, ◌-ℤ◌, IsTrue}
use Rattle.hyd_num.specs.Rational.{Rational, floor, ceiling, is_less}
use Rattle.hyd_spec.specs.Scale.{at_scale}
use Rattle.hyd_spec.specs.Outflow.{pressure_at}

-- The greatest whole head at an elevation with at most the target pressure.
abbrev pub target_low : ℤ → Rational → ℤ
target_low elevation target = elevation +ℤ floor target

-- The least whole head with at least it.
abbrev pub target_high : ℤ → Rational → ℤ
target_high elevation target = elevation +ℤ ceiling target

-- The pressure at head h (S-th parts of a head tick) is above the target.
abbrev pub IsAboveTarget : ℕ → ℤ → Rational → ℤ → Type 0
IsAboveTarget S elevation target h = IsTrue (is_less target (pressure_at S (h -ℤ at_scale S elevation)))

-- It is below the target.
abbrev pub IsBelowTarget : ℕ → ℤ → Rational → ℤ → Type 0
IsBelowTarget S elevation target h = IsTrue (is_less (pressure_at S (h -ℤ at_scale S elevation)) target)
