use Rattle.std.proofs.Common.{refl}
use Rattle.hyd_cases_of_definitions.proofs.stocks.next.Goals as goal

pub returns-clause-inside : goal.returns-clause-inside
returns-clause-inside c = λ diameter. refl

pub returns-clause-emptying : goal.returns-clause-emptying
returns-clause-emptying c = λ diameter. refl

pub returns-clause-at_maximum : goal.returns-clause-at_maximum
returns-clause-at_maximum c = λ diameter. refl

pub returns-clause-filling : goal.returns-clause-filling
returns-clause-filling c = λ diameter. refl

pub returns-clause-at_minimum : goal.returns-clause-at_minimum
returns-clause-at_minimum c = λ diameter. refl

pub returns-clause-single : goal.returns-clause-single
returns-clause-single c = λ diameter. refl
