use Rattle.std.proofs.Common.{refl}
use Rattle.hyd_cases_of_definitions.proofs.net_outflows.out_boxes.Goals as goal
use Rattle.hyd_spec_certificates.specs.EnclosingFunctions.{root_down, root_up, greatest_root}

pub returns-clause-plain : goal.returns-clause-plain
unfolding root_down root_up greatest_root
returns-clause-plain c = refl

pub returns-clause-forced_out : goal.returns-clause-forced_out
unfolding root_down root_up greatest_root
returns-clause-forced_out c = λ capacity mant exp hi_mant hi_exp. rw (mant, exp, hi_mant, hi_exp) refl

pub returns-clause-drawn_in : goal.returns-clause-drawn_in
unfolding root_down root_up greatest_root
returns-clause-drawn_in c = λ capacity mant exp hi_mant hi_exp. rw (mant, exp, hi_mant, hi_exp) refl
