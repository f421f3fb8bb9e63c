use Rattle.std.proofs.Common.{refl}
use Rattle.hyd_cases_of_definitions.proofs.each_kind_of_link.out_boxes.Goals as goal
use Rattle.hyd_spec_certificates.specs.EnclosingFunctions.{root_up}
use Rattle.hyd_theorems_on_definitions.proofs.Roots.{root_down-quick, quick_root}

pub returns-clause-first_near : goal.returns-clause-first_near
returns-clause-first_near c = λ parts. refl

pub returns-clause-first_apart : goal.returns-clause-first_apart
unfolding root_up quick_root
returns-clause-first_apart c = λ parts. simp (
  parts.driven_is.low_mantissa_is,
  parts.driven_is.low_exponent_is,
  parts.driven_is.high_mantissa_is,
  parts.driven_is.high_exponent_is,
) (rw root_down-quick refl)

pub returns-clause-second_near : goal.returns-clause-second_near
unfolding root_up quick_root
returns-clause-second_near c = λ parts. simp (
  parts.emitter_is.low_mantissa_is,
  parts.emitter_is.low_exponent_is,
  parts.emitter_is.high_mantissa_is,
  parts.emitter_is.high_exponent_is,
) (rw root_down-quick refl)

pub returns-clause-second_apart : goal.returns-clause-second_apart
unfolding root_up quick_root
returns-clause-second_apart c = λ parts. simp (
  parts.emitter_is.low_mantissa_is,
  parts.emitter_is.low_exponent_is,
  parts.emitter_is.high_mantissa_is,
  parts.emitter_is.high_exponent_is,
) (rw root_down-quick refl)
