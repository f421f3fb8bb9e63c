use Rattle.hyd_theorems_on_open_spreads.proofs.LengthsOverPairs.{ends_so, links_so}
use Rattle.hyd_theorems_on_open_spreads.proofs.ends.Goals as goal

pub returns-clause-lengths : goal.returns-clause-lengths
returns-clause-lengths c = ends_so

pub returns-clause-links : goal.returns-clause-links
returns-clause-links c = links_so
