use Rattle.hyd_cases_of_runs.proofs.VillageRefusals.{too_thirsty}
use Rattle.hyd_cases_of_runs.proofs.refusals.demand.Goals as goal

pub returns : goal.returns
returns c = record { refused = too_thirsty }
