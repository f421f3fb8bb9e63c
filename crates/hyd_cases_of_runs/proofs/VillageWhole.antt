-- The five periods of the village are a run.
use Rattle.hyd_spec_reports.specs.PromisesOfRunsAndChecks.{IsRun, none, more}
use Rattle.hyd_cases_of_runs.specs.Village.{village}
use Rattle.hyd_cases_of_runs.specs.VillageRun.{found_0, found_1, found_2, found_3, found_4, founds, left}
use Rattle.hyd_cases_of_runs.proofs.VillageRecords.{first_valid, second_valid, third_valid, fourth_valid, fifth_valid}
use Rattle.hyd_cases_of_runs.proofs.VillageReports.{first_report, second_report, third_report, fourth_report}
use Rattle.hyd_cases_of_runs.proofs.VillageReports.{fifth_report}

pub is_run : IsRun village founds left
is_run =
    more {found = found_0} (record { valid = first_valid; report = first_report })
    (more {found = found_1} (record { valid = second_valid; report = second_report })
    (more {found = found_2} (record { valid = third_valid; report = third_report })
    (more {found = found_3} (record { valid = fourth_valid; report = fourth_report })
    (more {found = found_4} (record { valid = fifth_valid; report = fifth_report }) none))))
