use Rattle.std.proofs.Common.{refl}
use Rattle.hyd_cases_of_definitions.proofs.links.throttle_valves_at_tanks.Goals as goal
use Rattle.hyd_spec_certificates.specs.EnclosingFunctions.{root_up}
use Rattle.hyd_theorems_on_definitions.proofs.Roots.{root_down-quick, quick_root}

pub returns-clause-low : goal.returns-clause-low
unfolding root_up quick_root
returns-clause-low c = λ project capacity unit junctions reservoirs tanks ends.
    rw (
      junctions,
      reservoirs,
      tanks.tanks_are,
      tanks.first_is,
      tanks.second_is,
      ends.low_mantissa_is,
      ends.low_exponent_is,
      ends.high_mantissa_is,
      ends.high_exponent_is,
    ) (rw root_down-quick refl)

pub returns-clause-high : goal.returns-clause-high
unfolding root_up quick_root
returns-clause-high c = λ project capacity unit junctions reservoirs tanks ends.
    rw (
      junctions,
      reservoirs,
      tanks.tanks_are,
      tanks.first_is,
      tanks.second_is,
      ends.low_mantissa_is,
      ends.low_exponent_is,
      ends.high_mantissa_is,
      ends.high_exponent_is,
    ) (rw root_down-quick refl)
