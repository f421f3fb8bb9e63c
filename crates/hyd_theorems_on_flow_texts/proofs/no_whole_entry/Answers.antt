use Rattle.hyd_theorems_on_flow_texts.proofs.FaultsInEntries.{no_entry}
use Rattle.hyd_theorems_on_flow_texts.proofs.no_whole_entry.Goals as goal

pub returns : goal.returns
returns c = no_entry
