use Rattle.std.proofs.Common.{refl}
use Rattle.hyd_cases_of_definitions.proofs.each_kind_of_link.high_net_outflows.Goals as goal
use Rattle.hyd_spec_certificates.specs.EnclosingFunctions.{root_up}
use Rattle.hyd_theorems_on_definitions.proofs.Roots.{root_down-quick, quick_root}

pub returns-clause-main_first : goal.returns-clause-main_first
unfolding root_up quick_root
returns-clause-main_first c = λ parts. simp (
  parts.pipe_is.low_mantissa_is,
  parts.pipe_is.low_exponent_is,
  parts.pipe_is.high_mantissa_is,
  parts.pipe_is.high_exponent_is,
  parts.check_is.low_mantissa_is,
  parts.check_is.low_exponent_is,
  parts.check_is.high_mantissa_is,
  parts.check_is.high_exponent_is,
  parts.valve_is.low_mantissa_is,
  parts.valve_is.low_exponent_is,
  parts.valve_is.high_mantissa_is,
  parts.valve_is.high_exponent_is,
  parts.driven_is.low_mantissa_is,
  parts.driven_is.low_exponent_is,
  parts.driven_is.high_mantissa_is,
  parts.driven_is.high_exponent_is,
) (rw root_down-quick refl)

pub returns-clause-main_second : goal.returns-clause-main_second
unfolding root_up quick_root
returns-clause-main_second c = λ parts. simp (
  parts.check_is.low_mantissa_is,
  parts.check_is.low_exponent_is,
  parts.check_is.high_mantissa_is,
  parts.check_is.high_exponent_is,
  parts.pump_is.low_mantissa_is,
  parts.pump_is.low_exponent_is,
  parts.pump_is.high_mantissa_is,
  parts.pump_is.high_exponent_is,
  parts.control_is.low_mantissa_is,
  parts.control_is.low_exponent_is,
  parts.control_is.high_mantissa_is,
  parts.control_is.high_exponent_is,
  parts.emitter_is.low_mantissa_is,
  parts.emitter_is.low_exponent_is,
  parts.emitter_is.high_mantissa_is,
  parts.emitter_is.high_exponent_is,
) (rw root_down-quick refl)

pub returns-clause-pinned_first : goal.returns-clause-pinned_first
unfolding root_up quick_root
returns-clause-pinned_first c = λ parts. simp (
  parts.pipe_is.low_mantissa_is,
  parts.pipe_is.low_exponent_is,
  parts.pipe_is.high_mantissa_is,
  parts.pipe_is.high_exponent_is,
  parts.check_is.low_mantissa_is,
  parts.check_is.low_exponent_is,
  parts.check_is.high_mantissa_is,
  parts.check_is.high_exponent_is,
  parts.valve_is.low_mantissa_is,
  parts.valve_is.low_exponent_is,
  parts.valve_is.high_mantissa_is,
  parts.valve_is.high_exponent_is,
  parts.driven_is.low_mantissa_is,
  parts.driven_is.low_exponent_is,
  parts.driven_is.high_mantissa_is,
  parts.driven_is.high_exponent_is,
) (rw root_down-quick refl)

pub returns-clause-pinned_second : goal.returns-clause-pinned_second
unfolding root_up quick_root
returns-clause-pinned_second c = λ parts. simp (
  parts.check_is.low_mantissa_is,
  parts.check_is.low_exponent_is,
  parts.check_is.high_mantissa_is,
  parts.check_is.high_exponent_is,
  parts.pump_is.low_mantissa_is,
  parts.pump_is.low_exponent_is,
  parts.pump_is.high_mantissa_is,
  parts.pump_is.high_exponent_is,
  parts.control_is.low_mantissa_is,
  parts.control_is.low_exponent_is,
  parts.control_is.high_mantissa_is,
  parts.control_is.high_exponent_is,
  parts.emitter_is.low_mantissa_is,
  parts.emitter_is.low_exponent_is,
  parts.emitter_is.high_mantissa_is,
  parts.emitter_is.high_exponent_is,
) (rw root_down-quick refl)
