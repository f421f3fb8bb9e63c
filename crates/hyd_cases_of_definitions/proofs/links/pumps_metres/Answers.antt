use Rattle.std.proofs.Common.{refl}
use Rattle.hyd_cases_of_definitions.proofs.links.pumps_metres.Goals as goal
use Rattle.hyd_spec_certificates.specs.EnclosingFunctions.{root_up}
use Rattle.hyd_theorems_on_definitions.proofs.Roots.{root_down-quick, quick_root}

pub returns-clause-slow_low : goal.returns-clause-slow_low
unfolding root_up quick_root
returns-clause-slow_low c = λ capacity shutoff head pattern ends is.
    rw (is, ends.low_mantissa_is, ends.low_exponent_is, ends.high_mantissa_is, ends.high_exponent_is)
    (rw root_down-quick refl)

pub returns-clause-slow_high : goal.returns-clause-slow_high
unfolding root_up quick_root
returns-clause-slow_high c = λ capacity shutoff head pattern ends is.
    rw (is, ends.low_mantissa_is, ends.low_exponent_is, ends.high_mantissa_is, ends.high_exponent_is)
    (rw root_down-quick refl)

pub returns-clause-running_low : goal.returns-clause-running_low
unfolding root_up quick_root
returns-clause-running_low c = λ capacity shutoff head pattern ends is.
    rw (is, ends.low_mantissa_is, ends.low_exponent_is, ends.high_mantissa_is, ends.high_exponent_is)
    (rw root_down-quick refl)

pub returns-clause-running_high : goal.returns-clause-running_high
unfolding root_up quick_root
returns-clause-running_high c = λ capacity shutoff head pattern ends is.
    rw (is, ends.low_mantissa_is, ends.low_exponent_is, ends.high_mantissa_is, ends.high_exponent_is)
    (rw root_down-quick refl)

pub returns-clause-closed_low : goal.returns-clause-closed_low
returns-clause-closed_low c = λ capacity shutoff head pattern. refl

pub returns-clause-closed_high : goal.returns-clause-closed_high
returns-clause-closed_high c = λ capacity shutoff head pattern. refl
