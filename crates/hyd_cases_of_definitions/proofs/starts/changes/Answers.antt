use Rattle.std.proofs.Common.{refl}
use Rattle.hyd_cases_of_definitions.proofs.starts.changes.Goals as goal

pub returns : goal.returns
returns c = λ project controls are clock. rw (are, clock) refl
