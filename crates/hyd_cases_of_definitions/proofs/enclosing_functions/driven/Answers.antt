use Rattle.std.proofs.Common.{refl}
use Rattle.hyd_cases_of_definitions.proofs.enclosing_functions.driven.Goals as goal
use Rattle.hyd_spec_certificates.specs.EnclosingFunctions.{root_down, root_up, greatest_root}

pub returns-clause-low : goal.returns-clause-low
unfolding root_down root_up greatest_root
returns-clause-low c = λ capacity mant exp hi_mant hi_exp. rw (mant, exp) refl

pub returns-clause-high : goal.returns-clause-high
unfolding root_down root_up greatest_root
returns-clause-high c = λ capacity mant exp hi_mant hi_exp. rw (hi_mant, hi_exp) refl
