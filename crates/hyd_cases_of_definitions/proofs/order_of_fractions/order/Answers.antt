use Rattle.std.proofs.Common.{refl}
use Rattle.hyd_cases_of_definitions.proofs.order_of_fractions.order.Goals as goal

pub returns-clause-less : goal.returns-clause-less
returns-clause-less c = refl

pub returns-clause-at_most : goal.returns-clause-at_most
returns-clause-at_most c = refl

pub returns-clause-negated : goal.returns-clause-negated
returns-clause-negated c = refl

pub returns-clause-total : goal.returns-clause-total
returns-clause-total c = refl
