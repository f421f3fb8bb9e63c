-- Which exact law by powers a capacity encloses.
use Rattle.std.specs.Prelude.{◌<◌}
use Rattle.hyd_num.specs.declared.pairs.Pair.{Pair}
use Rattle.hyd_num.specs.Fraction.{Fraction}
use Rattle.hyd_num.specs.Pairs.{Encloses}
use Rattle.hyd_spec_power_laws.specs.declared.power_capacities.PowerCapacity.{PowerCapacity}
use Rattle.hyd_spec_power_laws.specs.PowerCapacities.{IsLessened, IsRaised}
use Rattle.hyd_spec_power_laws.specs.PowerLosses.{EnclosesMinor}

-- its ends are those of a pair that encloses the constant k, lessened and raised, and its minor loss encloses r
pub record EnclosesLaw (capacity : PowerCapacity) (k r : Fraction) : Type 0 where
  pub constant : Pair
  pub low_is : IsLessened constant capacity.low
  pub high_is : IsRaised constant capacity.high
  pub encloses : Encloses constant k
  pub fittings : EnclosesMinor capacity.minor r
  pub constant_above : 0 < k.den
  pub fittings_above : 0 < r.den
