use Rattle.std.proofs.Common.{refl}
use Rattle.hyd_cases_of_definitions.proofs.scales_and_patterns.lifts.Goals as goal

pub returns-clause-feet_one_point_down : goal.returns-clause-feet_one_point_down
returns-clause-feet_one_point_down c = λ head nano. rw nano refl

pub returns-clause-feet_one_point_up : goal.returns-clause-feet_one_point_up
returns-clause-feet_one_point_up c = λ head nano. rw nano refl

pub returns-clause-feet_three_points_down : goal.returns-clause-feet_three_points_down
returns-clause-feet_three_points_down c = λ head nano. rw nano refl

pub returns-clause-feet_three_points_up : goal.returns-clause-feet_three_points_up
returns-clause-feet_three_points_up c = λ head nano. rw nano refl

pub returns-clause-metres_one_point_down : goal.returns-clause-metres_one_point_down
returns-clause-metres_one_point_down c = λ head nano. rw nano refl

pub returns-clause-metres_one_point_up : goal.returns-clause-metres_one_point_up
returns-clause-metres_one_point_up c = λ head nano. rw nano refl

pub returns-clause-metres_three_points_down : goal.returns-clause-metres_three_points_down
returns-clause-metres_three_points_down c = λ head nano. rw nano refl

pub returns-clause-metres_three_points_up : goal.returns-clause-metres_three_points_up
returns-clause-metres_three_points_up c = λ head nano. rw nano refl
