use Rattle.std.proofs.Common.{refl}
use Rattle.hyd_cases_of_open_ends.proofs.arrivals.Goals as goal

pub returns-clause-its_tank : goal.returns-clause-its_tank
returns-clause-its_tank c = refl

pub returns-clause-a_second : goal.returns-clause-a_second
returns-clause-a_second c = refl

pub returns-clause-another_tank : goal.returns-clause-another_tank
returns-clause-another_tank c = refl

pub returns-clause-no_level : goal.returns-clause-no_level
returns-clause-no_level c = refl
