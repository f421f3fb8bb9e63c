use Rattle.std.proofs.Common.{ap}
use Rattle.hyd_cases_of_runs.proofs.two_tank_town_report.texts.Goals as goal
use Rattle.hyd_cases_of_runs.proofs.TwoTankTownAsOneValue.{town_is}
use Rattle.std.specs.Fmt.{digits}
use Rattle.hyd_num.specs.PrintedDecimals.{fixed_point}
use Rattle.std.specs.Prelude.{◌++◌, map}
use Rattle.hyd_spec_certificates.specs.EndsOfPeriods.{events_of}
use Rattle.hyd_spec_reports.specs.Report.{event_line}
use Rattle.hyd_spec_reports.specs.Report.{control_lines}
use Rattle.hyd_spec_reports.specs.ReportLine.{line_text, report_text, done_line}
use Rattle.hyd_cases_of_runs.specs.TwoTankTownPeriods.{standing_at_two, grid_at_two, row_at_two}
use Rattle.hyd_cases_of_runs.specs.TwoTankTownReport.{lines_at_two}

pub returns-clause-text_state : goal.returns-clause-text_state
unfolding digits fixed_point
returns-clause-text_state c = λ project town. ap (λ project. map (line_text project) lines_at_two) (town_is town)

pub returns-clause-text_report : goal.returns-clause-text_report
unfolding digits fixed_point
returns-clause-text_report c = λ project town. ap (λ project. report_text project
    (control_lines project standing_at_two ++ (lines_at_two ++ map (event_line 7313)
    (events_of project grid_at_two standing_at_two row_at_two))) (done_line 1)) (town_is town)
