use Rattle.std.proofs.Common.{refl}
use Rattle.hyd_cases_of_definitions.proofs.starts.patterns.Goals as goal

pub returns : goal.returns
returns c = λ project capacity head shutoff links multipliers step start. rw (start, step, links, multipliers) refl
