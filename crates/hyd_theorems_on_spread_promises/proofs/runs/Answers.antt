use Rattle.hyd_theorems_on_spread_promises.proofs.RunPromisesAlone.{tells_alone, breaks_off_alone}
use Rattle.hyd_theorems_on_spread_promises.proofs.runs.Goals as goal

pub returns-clause-tells : goal.returns-clause-tells
returns-clause-tells c = tells_alone

pub returns-clause-breaks_off : goal.returns-clause-breaks_off
returns-clause-breaks_off c = breaks_off_alone
