-- What is known of each capacity that is kept.
use Rattle.hyd_num.specs.CapacityPairs as manning
use Rattle.hyd_num.specs.CapacityRange.{IsRefused}
use Rattle.hyd_spec.specs.ProgramTypes.{Capacity}
use Rattle.hyd_spec.specs.CapacityEnclosure.{IsEnclosure, IsSharp}
use Rattle.hyd_spec_power_laws.specs.declared.power_capacities.PowerCapacity.{PowerCapacity}
use Rattle.hyd_spec_power_laws.specs.PowerCapacities as power

-- The capacity that numbers of a file make, which aren't refused.
pub record IsPipeCapacity (capacity : Capacity) : Type 0 where
  pub made : manning.IsMade capacity
  pub encloses : IsEnclosure capacity
  pub sharp : IsSharp capacity
  pub accepted : IsRefused capacity.origin → ⊥

-- The capacity that the numbers of a pipe with a Hazen-Williams coefficient make, which aren't refused.
pub record IsPowerPipeCapacity (capacity : PowerCapacity) : Type 0 where
  pub made : power.IsMade capacity
  pub accepted : power.IsRefused capacity.pipe → ⊥
