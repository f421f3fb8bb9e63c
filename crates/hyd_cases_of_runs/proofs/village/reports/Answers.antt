use Rattle.hyd_cases_of_runs.proofs.VillageReports.{first_report, second_report, third_report, fourth_report}
use Rattle.hyd_cases_of_runs.proofs.VillageReports.{fifth_report}
use Rattle.hyd_cases_of_runs.proofs.village.reports.Goals as goal

pub returns-clause-first : goal.returns-clause-first
returns-clause-first c = first_report

pub returns-clause-second : goal.returns-clause-second
returns-clause-second c = second_report

pub returns-clause-third : goal.returns-clause-third
returns-clause-third c = third_report

pub returns-clause-fourth : goal.returns-clause-fourth
returns-clause-fourth c = fourth_report

pub returns-clause-fifth : goal.returns-clause-fifth
returns-clause-fifth c = fifth_report
