use Rattle.std.proofs.Common.{refl}
use Rattle.hyd_cases_of_definitions.proofs.texts.refusals.Goals as goal
use Rattle.std.specs.Fmt.{digits}

pub returns-clause-place : goal.returns-clause-place
unfolding digits
returns-clause-place c = λ project. refl

pub returns-clause-demand : goal.returns-clause-demand
unfolding digits
returns-clause-demand c = λ project. refl

pub returns-clause-fails : goal.returns-clause-fails
unfolding digits
returns-clause-fails c = λ project node_ids. rw (node_ids) refl

pub returns-clause-open : goal.returns-clause-open
unfolding digits
returns-clause-open c = λ project. refl

pub returns-clause-length : goal.returns-clause-length
unfolding digits
returns-clause-length c = λ project. refl

pub returns-clause-after : goal.returns-clause-after
unfolding digits
returns-clause-after c = λ project. refl

pub returns-clause-end : goal.returns-clause-end
unfolding digits
returns-clause-end c = refl
