use Rattle.hyd_theorems_on_flow_texts.proofs.FaultsInEntries.{fault_behind, fault_first}
use Rattle.hyd_theorems_on_flow_texts.proofs.faults.Goals as goal

pub returns-clause-in_entry : goal.returns-clause-in_entry
returns-clause-in_entry c = fault_behind

pub returns-clause-in_header : goal.returns-clause-in_header
returns-clause-in_header c = fault_first
