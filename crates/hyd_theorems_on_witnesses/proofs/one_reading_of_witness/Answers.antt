use Rattle.hyd_theorems_on_witnesses.proofs.OneReading.{one-reading}
use Rattle.hyd_theorems_on_witnesses.proofs.one_reading_of_witness.Goals as goal

pub returns : goal.returns
returns c = one-reading
