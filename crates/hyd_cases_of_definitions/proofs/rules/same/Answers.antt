use Rattle.std.proofs.Common.{refl}
use Rattle.hyd_cases_of_definitions.proofs.rules.same.Goals as goal

pub returns-clause-open : goal.returns-clause-open
returns-clause-open c = refl

pub returns-clause-closed : goal.returns-clause-closed
returns-clause-closed c = refl

pub returns-clause-speed : goal.returns-clause-speed
returns-clause-speed c = refl

pub returns-clause-throttle : goal.returns-clause-throttle
returns-clause-throttle c = refl

pub returns-clause-limit : goal.returns-clause-limit
returns-clause-limit c = refl
