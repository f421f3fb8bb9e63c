use Rattle.std.proofs.Common.{refl}
use Rattle.hyd_cases_of_definitions.proofs.texts.stops.Goals as goal
use Rattle.std.specs.Fmt.{digits}

pub returns-clause-no_certificate : goal.returns-clause-no_certificate
unfolding digits
returns-clause-no_certificate c = λ project node_ids. rw (node_ids) refl

pub returns-clause-no_certificate_pinned : goal.returns-clause-no_certificate_pinned
unfolding digits
returns-clause-no_certificate_pinned c = λ project node_ids j r. rw (j, r, node_ids) refl

pub returns-clause-rounds : goal.returns-clause-rounds
unfolding digits
returns-clause-rounds c = λ project. refl

pub returns-clause-demand : goal.returns-clause-demand
unfolding digits
returns-clause-demand c = λ project node_ids. rw (node_ids) refl

pub returns-clause-event : goal.returns-clause-event
unfolding digits
returns-clause-event c = λ project. refl

pub returns-clause-tank : goal.returns-clause-tank
unfolding digits
returns-clause-tank c = λ project node_ids j r. rw (j, r, node_ids) refl

pub returns-clause-control : goal.returns-clause-control
unfolding digits
returns-clause-control c = λ project. refl

pub returns-clause-rule : goal.returns-clause-rule
unfolding digits
returns-clause-rule c = λ project rule rules id. rw (rules, id) refl
