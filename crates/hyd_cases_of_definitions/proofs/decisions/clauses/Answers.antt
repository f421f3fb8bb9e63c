use Rattle.std.proofs.Common.{refl}
use Rattle.hyd_cases_of_definitions.proofs.decisions.clauses.Goals as goal

pub returns-clause-flow_240815 : goal.returns-clause-flow_240815
returns-clause-flow_240815 c = λ project span number lo. rw (lo) refl

pub returns-clause-flow_20010 : goal.returns-clause-flow_20010
returns-clause-flow_20010 c = λ project span number lo. rw (lo) refl

pub returns-clause-flow_20011 : goal.returns-clause-flow_20011
returns-clause-flow_20011 c = λ project span number lo. rw (lo) refl

pub returns-clause-head_60 : goal.returns-clause-head_60
returns-clause-head_60 c = λ project span number l2 r1 lo. rw (l2, r1, lo) refl

pub returns-clause-head_61 : goal.returns-clause-head_61
returns-clause-head_61 c = λ project span number l2 r1 lo. rw (l2, r1, lo) refl

pub returns-clause-head_95 : goal.returns-clause-head_95
returns-clause-head_95 c = λ project span number l2 r1 lo. rw (l2, r1, lo) refl

pub returns-clause-head_96 : goal.returns-clause-head_96
returns-clause-head_96 c = λ project span number l2 r1 lo. rw (l2, r1, lo) refl

pub returns-clause-level_0 : goal.returns-clause-level_0
returns-clause-level_0 c = λ project bottom initial diameter span number tanks l2 r1 lo. rw (tanks, l2, r1, lo) refl

pub returns-clause-level_1 : goal.returns-clause-level_1
returns-clause-level_1 c = λ project bottom initial diameter span number tanks l2 r1 lo. rw (tanks, l2, r1, lo) refl

pub returns-clause-level_96993791 : goal.returns-clause-level_96993791
returns-clause-level_96993791 c = λ project bottom initial diameter span number tanks l2 r1 lo. rw (tanks, l2, r1, lo)
    refl

pub returns-clause-tank_head_20 : goal.returns-clause-tank_head_20
returns-clause-tank_head_20 c = λ project initial diameter span number tanks l2 r1 lo. rw (tanks, l2, r1, lo) refl

pub returns-clause-tank_head_96993811 : goal.returns-clause-tank_head_96993811
returns-clause-tank_head_96993811 c = λ project initial diameter span number tanks l2 r1 lo. rw (tanks, l2, r1, lo) refl

pub returns-clause-tank_head_96993812 : goal.returns-clause-tank_head_96993812
returns-clause-tank_head_96993812 c = λ project initial diameter span number tanks l2 r1 lo. rw (tanks, l2, r1, lo) refl
