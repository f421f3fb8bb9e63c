use Rattle.std.proofs.Common.{refl}
use Rattle.hyd_cases_of_definitions.proofs.each_kind_of_link.flow_boxes.Goals as goal
use Rattle.hyd_spec_certificates.specs.EnclosingFunctions.{root_up}
use Rattle.hyd_theorems_on_definitions.proofs.Roots.{root_down-quick, quick_root}

pub returns-clause-pipe : goal.returns-clause-pipe
unfolding root_up quick_root
returns-clause-pipe c = λ parts. simp (
  parts.pipe_is.low_mantissa_is,
  parts.pipe_is.low_exponent_is,
  parts.pipe_is.high_mantissa_is,
  parts.pipe_is.high_exponent_is,
) (rw root_down-quick refl)

pub returns-clause-check_pipe : goal.returns-clause-check_pipe
unfolding root_up quick_root
returns-clause-check_pipe c = λ parts. simp (
  parts.check_is.low_mantissa_is,
  parts.check_is.low_exponent_is,
  parts.check_is.high_mantissa_is,
  parts.check_is.high_exponent_is,
) (rw root_down-quick refl)

pub returns-clause-pump : goal.returns-clause-pump
unfolding root_up quick_root
returns-clause-pump c = λ parts. simp (
  parts.pump_is.low_mantissa_is,
  parts.pump_is.low_exponent_is,
  parts.pump_is.high_mantissa_is,
  parts.pump_is.high_exponent_is,
) (rw root_down-quick refl)

pub returns-clause-throttle_valve : goal.returns-clause-throttle_valve
unfolding root_up quick_root
returns-clause-throttle_valve c = λ parts. simp (
  parts.valve_is.low_mantissa_is,
  parts.valve_is.low_exponent_is,
  parts.valve_is.high_mantissa_is,
  parts.valve_is.high_exponent_is,
) (rw root_down-quick refl)

pub returns-clause-control_valve : goal.returns-clause-control_valve
unfolding root_up quick_root
returns-clause-control_valve c = λ parts. simp (
  parts.control_is.low_mantissa_is,
  parts.control_is.low_exponent_is,
  parts.control_is.high_mantissa_is,
  parts.control_is.high_exponent_is,
) (rw root_down-quick refl)
