use Rattle.hyd_theorems_on_runs.proofs.HistoriesAlongRuns.{every_history}
use Rattle.hyd_cases_of_runs.specs.Village.{village}
use Rattle.hyd_cases_of_runs.specs.VillageRun.{founds, left}
use Rattle.hyd_cases_of_runs.proofs.VillageSound.{sound}
use Rattle.hyd_cases_of_runs.proofs.VillageWhole.{is_run}
use Rattle.hyd_cases_of_runs.proofs.VillageAgreement.{first_agrees, second_agrees, third_agrees, fourth_agrees}
use Rattle.hyd_cases_of_runs.proofs.VillageAgreement.{fifth_agrees}
use Rattle.hyd_cases_of_runs.proofs.village.agreement.Goals as goal

pub returns-clause-this : goal.returns-clause-this
returns-clause-this c = (first_agrees, (second_agrees, (third_agrees, (fourth_agrees, (fifth_agrees, tt)))))

pub returns-clause-every : goal.returns-clause-every
returns-clause-every c = every_history village sound founds left is_run
