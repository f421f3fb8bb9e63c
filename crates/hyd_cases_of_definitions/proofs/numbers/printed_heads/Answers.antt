use Rattle.std.proofs.Common.{refl}
use Rattle.hyd_cases_of_definitions.proofs.numbers.printed_heads.Goals as goal
use Rattle.std.specs.Fmt.{digits}
use Rattle.hyd_num.specs.PrintedDecimals.{fixed_point}

pub returns-clause-head_feet_down : goal.returns-clause-head_feet_down
unfolding digits fixed_point
returns-clause-head_feet_down c = refl

pub returns-clause-pressure_feet_down : goal.returns-clause-pressure_feet_down
unfolding digits fixed_point
returns-clause-pressure_feet_down c = refl

pub returns-clause-head_feet_up : goal.returns-clause-head_feet_up
unfolding digits fixed_point
returns-clause-head_feet_up c = refl

pub returns-clause-pressure_feet_up : goal.returns-clause-pressure_feet_up
unfolding digits fixed_point
returns-clause-pressure_feet_up c = refl

pub returns-clause-head_metres_down : goal.returns-clause-head_metres_down
unfolding digits fixed_point
returns-clause-head_metres_down c = refl

pub returns-clause-pressure_metres_down : goal.returns-clause-pressure_metres_down
unfolding digits fixed_point
returns-clause-pressure_metres_down c = refl

pub returns-clause-head_metres_up : goal.returns-clause-head_metres_up
unfolding digits fixed_point
returns-clause-head_metres_up c = refl

pub returns-clause-pressure_metres_up : goal.returns-clause-pressure_metres_up
unfolding digits fixed_point
returns-clause-pressure_metres_up c = refl
