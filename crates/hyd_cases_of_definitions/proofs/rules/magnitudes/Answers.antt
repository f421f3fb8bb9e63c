use Rattle.std.proofs.Common.{refl}
use Rattle.hyd_cases_of_definitions.proofs.rules.magnitudes.Goals as goal

pub returns-clause-least : goal.returns-clause-least
returns-clause-least c = refl

pub returns-clause-greatest : goal.returns-clause-greatest
returns-clause-greatest c = refl
