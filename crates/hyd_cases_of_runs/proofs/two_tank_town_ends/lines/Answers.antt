use Rattle.std.proofs.Common.{ap}
use Rattle.hyd_cases_of_runs.proofs.two_tank_town_ends.lines.Goals as goal
use Rattle.hyd_cases_of_runs.proofs.TwoTankTownAsOneValue.{town_is}
use Rattle.std.specs.Fmt.{digits}
use Rattle.hyd_num.specs.PrintedDecimals.{fixed_point}
use Rattle.std.specs.Prelude.{map}
use Rattle.hyd_spec_certificates.specs.EndsOfPeriods.{events_of}
use Rattle.hyd_spec_reports.specs.Report.{event_line}
use Rattle.hyd_spec_reports.specs.ReportLine.{line_text}
use Rattle.hyd_cases_of_runs.specs.TwoTankTownPeriods.{standing_at_two, standing_when_full, grid_at_two, grid_when_full}
use Rattle.hyd_cases_of_runs.specs.TwoTankTownPeriods.{row_at_two, row_when_full}

pub returns-clause-at_two : goal.returns-clause-at_two
returns-clause-at_two c = λ project town. ap (λ project. map (event_line 7313)
    (events_of project grid_at_two standing_at_two row_at_two)) (town_is town)

pub returns-clause-when_full : goal.returns-clause-when_full
returns-clause-when_full c = λ project town. ap (λ project. map (event_line 8640)
    (events_of project grid_when_full standing_when_full row_when_full)) (town_is town)

pub returns-clause-before : goal.returns-clause-before
returns-clause-before c = λ project town. ap (λ project. map (event_line 7312)
    (events_of project grid_at_two standing_at_two (record row_at_two { length = 112 }))) (town_is town)

pub returns-clause-text_at_two : goal.returns-clause-text_at_two
unfolding digits fixed_point
returns-clause-text_at_two c = λ project town. ap (λ project. map (line_text project)
    (map (event_line 7313) (events_of project grid_at_two standing_at_two row_at_two))) (town_is town)
