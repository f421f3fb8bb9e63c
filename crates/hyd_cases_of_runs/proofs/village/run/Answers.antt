use Rattle.hyd_cases_of_runs.proofs.VillageWhole.{is_run}
use Rattle.hyd_cases_of_runs.proofs.village.run.Goals as goal

pub returns : goal.returns
returns c = is_run
