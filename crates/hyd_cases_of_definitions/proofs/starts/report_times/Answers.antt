use Rattle.std.proofs.Common.{refl}
use Rattle.hyd_cases_of_definitions.proofs.starts.report_times.Goals as goal

pub returns : goal.returns
returns c = λ project step start. rw (start, step) refl
