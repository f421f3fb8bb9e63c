use Rattle.hyd_theorems_on_definitions.proofs.DecidedByEnds.{rule_tells}
use Rattle.hyd_theorems_on_definitions.proofs.decisions.rules.Goals as goal

pub returns : goal.returns
returns c = rule_tells
