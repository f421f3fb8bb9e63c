use Rattle.hyd_theorems_on_checks.proofs.FirstRecords.{first_rows}
use Rattle.hyd_theorems_on_checks.proofs.fronts.Goals as goal

pub returns : goal.returns
returns c = first_rows
