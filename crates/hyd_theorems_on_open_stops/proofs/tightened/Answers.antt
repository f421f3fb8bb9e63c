use Rattle.std.proofs.Common.{arith}
use Rattle.hyd_theorems_on_open_stops.proofs.OnwardOrStopped.{tight_leads_on}
use Rattle.hyd_theorems_on_open_stops.proofs.tightened.Goals as goal

pub returns : goal.returns
returns c = λ project sound standing firm grid found next valid row tight.
    tight_leads_on project sound standing firm next.late 0 grid found next valid (omega arith) row tight
