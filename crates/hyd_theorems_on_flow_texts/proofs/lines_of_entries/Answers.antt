use Rattle.hyd_theorems_on_flow_texts.proofs.LinesOfEntries.{entry-feeds}
use Rattle.hyd_theorems_on_flow_texts.proofs.lines_of_entries.Goals as goal

pub returns : goal.returns
returns c = entry-feeds
