use Rattle.std.proofs.Common.{refl}
use Rattle.hyd_cases_of_definitions.proofs.rules.statuses.Goals as goal

pub returns-clause-equal_open : goal.returns-clause-equal_open
returns-clause-equal_open c = refl

pub returns-clause-equal_closed : goal.returns-clause-equal_closed
returns-clause-equal_closed c = refl

pub returns-clause-equal_active : goal.returns-clause-equal_active
returns-clause-equal_active c = refl

pub returns-clause-unequal_open : goal.returns-clause-unequal_open
returns-clause-unequal_open c = refl

pub returns-clause-unequal_closed : goal.returns-clause-unequal_closed
returns-clause-unequal_closed c = refl

pub returns-clause-unequal_active : goal.returns-clause-unequal_active
returns-clause-unequal_active c = refl
