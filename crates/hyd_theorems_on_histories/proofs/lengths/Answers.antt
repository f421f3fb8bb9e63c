use Rattle.hyd_theorems_on_histories.proofs.LengthAndLinkStates.{length_and_links}
use Rattle.hyd_theorems_on_histories.proofs.lengths.Goals as goal

pub returns : goal.returns
returns c = length_and_links
