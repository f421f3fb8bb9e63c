use Rattle.hyd_theorems_on_definitions.proofs.Roots.{root_down-is, root_up-is}
use Rattle.hyd_theorems_on_definitions.proofs.laws.roots.Goals as goal

pub returns-clause-down : goal.returns-clause-down
returns-clause-down c = root_down-is

pub returns-clause-up : goal.returns-clause-up
returns-clause-up c = root_up-is
