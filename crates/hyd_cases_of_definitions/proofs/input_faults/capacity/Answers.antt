use Rattle.hyd_cases_of_definitions.proofs.GreatEmitter.{its_fault}
use Rattle.hyd_cases_of_definitions.proofs.input_faults.capacity.Goals as goal

pub returns : goal.returns
returns c = record { fault = its_fault }
