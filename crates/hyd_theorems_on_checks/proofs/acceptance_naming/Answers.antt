use Rattle.hyd_theorems_on_checks.proofs.WrittenAndAccepted.{accepts_naming}
use Rattle.hyd_theorems_on_checks.proofs.acceptance_naming.Goals as goal

pub returns : goal.returns
returns c = accepts_naming
