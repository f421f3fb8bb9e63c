use Rattle.std.proofs.Common.{refl}
use Rattle.hyd_cases_of_definitions.proofs.stocks.volumes.Goals as goal

pub returns-clause-at_levels : goal.returns-clause-at_levels
returns-clause-at_levels c = refl

pub returns-clause-below : goal.returns-clause-below
returns-clause-below c = refl

pub returns-clause-bounds : goal.returns-clause-bounds
returns-clause-bounds c = λ diameter. refl
