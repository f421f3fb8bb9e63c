use Rattle.hyd_theorems_on_nesting.proofs.ClockLengthAndEndsExist.{earliest_is}
use Rattle.hyd_theorems_on_nesting.proofs.InnerRecordsDecide.{leaves_so}
use Rattle.hyd_theorems_on_nesting.proofs.decisions.Goals as goal

pub returns : goal.returns
returns c = λ project sound standing grid outer inner nested seconds links leaves.
    let e = earliest_is project grid standing inner sound.times.hydraulic in
    leaves_so project sound standing grid outer inner nested seconds e.0 links e.1 leaves
