use Rattle.std.proofs.Common.{refl}
use Rattle.hyd_cases_of_definitions.proofs.starts.level_controls.Goals as goal

pub returns-clause-above : goal.returns-clause-above
returns-clause-above c = refl

pub returns-clause-below : goal.returns-clause-below
returns-clause-below c = refl
