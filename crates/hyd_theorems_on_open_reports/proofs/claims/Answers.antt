use Rattle.hyd_theorems_on_open_reports.proofs.KnownLines.{claims_as_known, claims_as_open}
use Rattle.hyd_theorems_on_open_reports.proofs.claims.Goals as goal

pub returns-clause-as_known : goal.returns-clause-as_known
returns-clause-as_known c = claims_as_known

pub returns-clause-as_open : goal.returns-clause-as_open
returns-clause-as_open c = claims_as_open
