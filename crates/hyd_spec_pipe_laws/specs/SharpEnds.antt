-- How near the ends of a capacity by powers stand.
use Rattle.std.specs.Prelude.{◌+◌, ◌*◌, ◌^◌, ◌≤◌}
use Rattle.std.specs.Option.{IfSome}
use Rattle.hyd_num.specs.declared.binary.Scaled.{Scaled}
use Rattle.hyd_num.specs.BinaryNumbers.{numerator, denominator}
use Rattle.hyd_spec_power_laws.specs.declared.power_capacities.PowerCapacity.{PowerCapacity}

-- The upper end exceeds the lower one by at most the 2^40th part of it.
abbrev pub AreNear : Scaled → Scaled → Type 0
AreNear low high =
    (numerator high * denominator low) * 2 ^ 40 ≤ (numerator low * denominator high) * (2 ^ 40 + 1)

-- So do the ends of the constant, and those of the minor loss, if there is one.
pub record IsSharp (capacity : PowerCapacity) : Type 0 where
  pub constant : AreNear capacity.low capacity.high
  pub fittings : IfSome capacity.minor (λ minor. AreNear minor.lo minor.hi)
