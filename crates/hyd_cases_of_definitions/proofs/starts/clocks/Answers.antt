use Rattle.std.proofs.Common.{refl}
use Rattle.hyd_cases_of_definitions.proofs.starts.clocks.Goals as goal

pub returns : goal.returns
returns c = λ project start. rw start refl
