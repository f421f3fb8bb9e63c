use Rattle.std.proofs.Common.{refl}
use Rattle.hyd_cases_of_definitions.proofs.levels.reached.Goals as goal

pub returns-clause-rising_may : goal.returns-clause-rising_may
returns-clause-rising_may c = λ tank. refl

pub returns-clause-rising_must : goal.returns-clause-rising_must
returns-clause-rising_must c = λ tank. refl

pub returns-clause-falling_may : goal.returns-clause-falling_may
returns-clause-falling_may c = λ tank. refl

pub returns-clause-falling_must : goal.returns-clause-falling_must
returns-clause-falling_must c = λ tank. refl
