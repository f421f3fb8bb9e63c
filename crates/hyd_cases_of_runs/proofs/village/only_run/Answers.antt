use Rattle.hyd_cases_of_runs.specs.Village.{village}
use Rattle.hyd_cases_of_runs.specs.VillageRun.{standing_0, left, founds}
use Rattle.hyd_theorems_on_runs.proofs.OneRun.{one_run}
use Rattle.hyd_cases_of_runs.proofs.VillageTight.{first_tight, second_tight, third_tight, fourth_tight, fifth_tight}
use Rattle.hyd_cases_of_runs.proofs.VillageWhole.{is_run}
use Rattle.hyd_cases_of_runs.proofs.village.only_run.Goals as goal

pub returns : goal.returns
returns c = λ others last runs tight five.
    one_run village standing_0 others founds last left runs is_run tight
    (first_tight, (second_tight, (third_tight, (fourth_tight, (fifth_tight, tt))))) five
