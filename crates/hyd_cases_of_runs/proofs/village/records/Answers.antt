use Rattle.hyd_spec_certificates.specs.Valid.{none, more}
use Rattle.hyd_cases_of_runs.specs.VillageRun.{grid_0, grid_1, grid_2, grid_3, grid_4}
use Rattle.hyd_cases_of_runs.proofs.VillageRecords.{first_valid, second_valid, third_valid, fourth_valid, fifth_valid}
use Rattle.hyd_cases_of_runs.proofs.village.records.Goals as goal

pub returns-clause-first : goal.returns-clause-first
returns-clause-first c = first_valid

pub returns-clause-second : goal.returns-clause-second
returns-clause-second c = second_valid

pub returns-clause-third : goal.returns-clause-third
returns-clause-third c = third_valid

pub returns-clause-fourth : goal.returns-clause-fourth
returns-clause-fourth c = fourth_valid

pub returns-clause-fifth : goal.returns-clause-fifth
returns-clause-fifth c = fifth_valid

pub returns-clause-all : goal.returns-clause-all
returns-clause-all c = more grid_0 first_valid (more grid_1 second_valid
    (more grid_2 third_valid (more grid_3 fourth_valid (more grid_4 fifth_valid none))))
