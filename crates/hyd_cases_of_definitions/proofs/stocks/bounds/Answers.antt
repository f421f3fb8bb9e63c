use Rattle.std.proofs.Common.{refl}
use Rattle.hyd_cases_of_definitions.proofs.stocks.bounds.Goals as goal

pub returns-clause-minimum : goal.returns-clause-minimum
returns-clause-minimum c = λ diameter. refl

pub returns-clause-above_minimum : goal.returns-clause-above_minimum
returns-clause-above_minimum c = λ diameter. refl

pub returns-clause-carried_before : goal.returns-clause-carried_before
returns-clause-carried_before c = λ diameter. refl

pub returns-clause-maximum : goal.returns-clause-maximum
returns-clause-maximum c = λ diameter. refl

pub returns-clause-below_maximum : goal.returns-clause-below_maximum
returns-clause-below_maximum c = λ diameter. refl

pub returns-clause-carried_below : goal.returns-clause-carried_below
returns-clause-carried_below c = λ diameter. refl
