use Rattle.hyd_cases_of_runs.proofs.VillageRefusals.{after_end}
use Rattle.hyd_cases_of_runs.proofs.refusals.after.Goals as goal

pub returns : goal.returns
returns c = record { refused = after_end }
