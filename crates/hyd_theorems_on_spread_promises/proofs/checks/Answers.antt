use Rattle.hyd_theorems_on_spread_promises.proofs.CheckPromisesAlone.{accepts_alone, refuses_alone, check_ends_alone}
use Rattle.hyd_theorems_on_spread_promises.proofs.CheckPromisesAlone.{finds_alone, check_breaks_off_alone}
use Rattle.hyd_theorems_on_spread_promises.proofs.checks.Goals as goal

pub returns-clause-accepts : goal.returns-clause-accepts
returns-clause-accepts c = accepts_alone

pub returns-clause-refuses : goal.returns-clause-refuses
returns-clause-refuses c = refuses_alone

pub returns-clause-ends : goal.returns-clause-ends
returns-clause-ends c = check_ends_alone

pub returns-clause-finds : goal.returns-clause-finds
returns-clause-finds c = finds_alone

pub returns-clause-breaks_off : goal.returns-clause-breaks_off
returns-clause-breaks_off c = check_breaks_off_alone
