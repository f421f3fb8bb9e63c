use Rattle.hyd_theorems_on_flow_texts.proofs.OneFaultWithFlows.{one_fault, fault_no_text}
use Rattle.hyd_theorems_on_flow_texts.proofs.one_fault.Goals as goal

pub returns-clause-one : goal.returns-clause-one
returns-clause-one c = one_fault

pub returns-clause-none : goal.returns-clause-none
returns-clause-none c = fault_no_text
