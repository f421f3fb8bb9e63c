use Rattle.hyd_theorems_on_input.proofs.OneProject.{one_project}
use Rattle.hyd_theorems_on_input.proofs.one_project.Goals as goal

pub returns : goal.returns
returns c = one_project
