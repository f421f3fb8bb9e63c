use Rattle.hyd_theorems_on_definitions.proofs.TargetsOfVolumeCurves.{rising_target, falling_target, at_maximum}
use Rattle.hyd_theorems_on_definitions.proofs.TargetsOfVolumeCurves.{risen_to}
use Rattle.hyd_theorems_on_definitions.proofs.tanks.curve_levels.Goals as goal

pub returns-clause-rising : goal.returns-clause-rising
returns-clause-rising c = rising_target

pub returns-clause-falling : goal.returns-clause-falling
returns-clause-falling c = falling_target

pub returns-clause-maximum : goal.returns-clause-maximum
returns-clause-maximum c = at_maximum

pub returns-clause-risen : goal.returns-clause-risen
returns-clause-risen c = risen_to
