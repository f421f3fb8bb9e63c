use Rattle.hyd_cases_of_runs.proofs.VillageRefusals.{other_length}
use Rattle.hyd_cases_of_runs.proofs.refusals.length.Goals as goal

pub returns : goal.returns
returns c = record { last = other_length }
