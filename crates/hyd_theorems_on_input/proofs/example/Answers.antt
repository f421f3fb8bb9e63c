use Rattle.hyd_theorems_on_input.proofs.ExampleText.{no_fault, its_project}
use Rattle.hyd_theorems_on_input.proofs.example.Goals as goal

pub returns-clause-fault : goal.returns-clause-fault
returns-clause-fault c = no_fault

pub returns-clause-project : goal.returns-clause-project
returns-clause-project c = its_project
