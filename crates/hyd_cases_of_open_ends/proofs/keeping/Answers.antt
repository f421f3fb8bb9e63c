use Rattle.std.proofs.Common.{refl}
use Rattle.hyd_cases_of_open_ends.proofs.keeping.Goals as goal

pub returns-clause-above : goal.returns-clause-above
returns-clause-above c = refl

pub returns-clause-below : goal.returns-clause-below
returns-clause-below c = refl

pub returns-clause-neither : goal.returns-clause-neither
returns-clause-neither c = refl

pub returns-clause-no_control : goal.returns-clause-no_control
returns-clause-no_control c = refl

pub returns-clause-hulls : goal.returns-clause-hulls
returns-clause-hulls c = refl
