use Rattle.std.proofs.Common.{refl}
use Rattle.hyd_cases_of_definitions.proofs.starts.controls.Goals as goal

pub returns : goal.returns
returns c = λ project controls clock. rw (controls, clock) refl
