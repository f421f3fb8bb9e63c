use Rattle.hyd_theorems_on_flow_texts.proofs.EntriesOfOneText.{one_entry, one_reading, front_entries}
use Rattle.hyd_theorems_on_flow_texts.proofs.readings.Goals as goal

pub returns-clause-one_entry : goal.returns-clause-one_entry
returns-clause-one_entry c = one_entry

pub returns-clause-one : goal.returns-clause-one
returns-clause-one c = one_reading

pub returns-clause-first : goal.returns-clause-first
returns-clause-first c = front_entries
