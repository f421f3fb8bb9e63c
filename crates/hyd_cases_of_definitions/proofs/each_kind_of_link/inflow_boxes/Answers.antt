use Rattle.std.proofs.Common.{refl}
use Rattle.hyd_cases_of_definitions.proofs.each_kind_of_link.inflow_boxes.Goals as goal
use Rattle.hyd_spec_certificates.specs.EnclosingFunctions.{root_up}
use Rattle.hyd_theorems_on_definitions.proofs.Roots.{root_down-quick, quick_root}

pub returns-clause-main : goal.returns-clause-main
unfolding root_up quick_root
returns-clause-main c = λ parts. simp (
  parts.valve_is.low_mantissa_is,
  parts.valve_is.low_exponent_is,
  parts.valve_is.high_mantissa_is,
  parts.valve_is.high_exponent_is,
  parts.control_is.low_mantissa_is,
  parts.control_is.low_exponent_is,
  parts.control_is.high_mantissa_is,
  parts.control_is.high_exponent_is,
)
    (rw root_down-quick refl)

pub returns-clause-pinned : goal.returns-clause-pinned
unfolding root_up quick_root
returns-clause-pinned c = λ parts. simp (
  parts.valve_is.low_mantissa_is,
  parts.valve_is.low_exponent_is,
  parts.valve_is.high_mantissa_is,
  parts.valve_is.high_exponent_is,
  parts.control_is.low_mantissa_is,
  parts.control_is.low_exponent_is,
  parts.control_is.high_mantissa_is,
  parts.control_is.high_exponent_is,
)
    (rw root_down-quick refl)
