use Rattle.std.proofs.Common.{refl}
use Rattle.hyd_cases_of_definitions.proofs.stocks.reached.Goals as goal

pub returns-clause-rising_may : goal.returns-clause-rising_may
returns-clause-rising_may c = λ diameter. refl

pub returns-clause-rising_must : goal.returns-clause-rising_must
returns-clause-rising_must c = λ diameter. refl

pub returns-clause-to_maximum_may : goal.returns-clause-to_maximum_may
returns-clause-to_maximum_may c = λ diameter. refl

pub returns-clause-to_maximum_must : goal.returns-clause-to_maximum_must
returns-clause-to_maximum_must c = λ diameter. refl

pub returns-clause-to_minimum_may : goal.returns-clause-to_minimum_may
returns-clause-to_minimum_may c = λ diameter. refl

pub returns-clause-to_minimum_must : goal.returns-clause-to_minimum_must
returns-clause-to_minimum_must c = λ diameter. refl

pub returns-clause-falling_may : goal.returns-clause-falling_may
returns-clause-falling_may c = λ diameter. refl

pub returns-clause-falling_must : goal.returns-clause-falling_must
returns-clause-falling_must c = λ diameter. refl

pub returns-clause-above_maximum : goal.returns-clause-above_maximum
returns-clause-above_maximum c = λ diameter. refl
