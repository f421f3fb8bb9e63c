use Rattle.std.proofs.Common.{refl}
use Rattle.hyd_cases_of_open_ends.proofs.refusals.after.Goals as goal

pub returns : goal.returns
returns c = record { refused = record { period_is = refl; refused_by = refl } }
