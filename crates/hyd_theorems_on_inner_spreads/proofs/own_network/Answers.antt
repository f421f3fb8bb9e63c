use Rattle.hyd_theorems_on_inner_spreads.proofs.RecordsInside.{records-valid}
use Rattle.hyd_theorems_on_inner_spreads.proofs.own_network.Goals as goal

pub returns : goal.returns
returns c = λ project sound spread is alike founds last run.
    records-valid project sound spread is alike founds last run
