use Rattle.std.proofs.Common.{refl}
use Rattle.hyd_cases_of_definitions.proofs.texts.lines.Goals as goal
use Rattle.std.specs.Fmt.{digits}
use Rattle.hyd_num.specs.PrintedDecimals.{fixed_point}

pub returns-clause-control : goal.returns-clause-control
unfolding digits fixed_point
returns-clause-control c = λ project link_ids. rw (link_ids) refl

pub returns-clause-control_setting : goal.returns-clause-control_setting
unfolding digits fixed_point
returns-clause-control_setting c = λ project link_ids. rw (link_ids) refl

pub returns-clause-time : goal.returns-clause-time
unfolding digits fixed_point
returns-clause-time c = λ project. refl

pub returns-clause-junction : goal.returns-clause-junction
unfolding digits fixed_point
returns-clause-junction c = λ project node_ids. rw (node_ids) refl

pub returns-clause-reservoir : goal.returns-clause-reservoir
unfolding digits fixed_point
returns-clause-reservoir c = λ project node_ids j. rw (j, node_ids) refl

pub returns-clause-tank : goal.returns-clause-tank
unfolding digits fixed_point
returns-clause-tank c = λ project node_ids j r. rw (j, r, node_ids) refl

pub returns-clause-link : goal.returns-clause-link
unfolding digits fixed_point
returns-clause-link c = λ project link_ids. rw (link_ids) refl

pub returns-clause-filled : goal.returns-clause-filled
unfolding digits fixed_point
returns-clause-filled c = λ project node_ids j r. rw (j, r, node_ids) refl

pub returns-clause-emptied : goal.returns-clause-emptied
unfolding digits fixed_point
returns-clause-emptied c = λ project node_ids j r. rw (j, r, node_ids) refl

pub returns-clause-reached : goal.returns-clause-reached
unfolding digits fixed_point
returns-clause-reached c = λ project node_ids j r. rw (j, r, node_ids) refl

pub returns-clause-rule : goal.returns-clause-rule
unfolding digits fixed_point
returns-clause-rule c = λ project rule rules id link_ids. rw (link_ids, rules, id) refl
