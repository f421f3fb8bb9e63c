-- Which pairs are no capacities.
use Rattle.std.specs.Prelude.{◌*◌, ◌^◌, ◌≤◌, ◌<◌, ◌⊎◌}
use Rattle.hyd_num.specs.declared.pairs.Pair.{Pair}
use Rattle.hyd_num.specs.declared.link_capacities.Origin.{Origin}
use Rattle.hyd_num.specs.BinaryNumbers.{numerator, denominator}
use Rattle.hyd_num.specs.CapacityPairs.{StandsFor}

-- The upper end is at least 2^66, or the lower end is below 2^-61.
abbrev pub IsOutside : Pair → Type 0
IsOutside r = (2 ^ 66 * denominator r.hi ≤ numerator r.hi) ⊎ (numerator r.lo * 2 ^ 61 < denominator r.lo)

-- The pair that numbers of a file stand for is outside.
pub record IsRefused (origin : Origin) : Type 0 where
  pub pair : Pair
  pub made : StandsFor origin pair
  pub outside : IsOutside pair
