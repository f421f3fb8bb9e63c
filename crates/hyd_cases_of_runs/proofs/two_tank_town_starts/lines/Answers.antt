use Rattle.std.proofs.Common.{ap}
use Rattle.hyd_cases_of_runs.proofs.two_tank_town_starts.lines.Goals as goal
use Rattle.hyd_cases_of_runs.proofs.TwoTankTownAsOneValue.{town_is}
use Rattle.std.specs.Fmt.{digits}
use Rattle.hyd_num.specs.PrintedDecimals.{fixed_point}
use Rattle.std.specs.Prelude.{map}
use Rattle.hyd_spec_reports.specs.Report.{control_lines}
use Rattle.hyd_spec_reports.specs.ReportLine.{line_text}
use Rattle.hyd_cases_of_runs.specs.TwoTankTownPeriods.{standing_at_one, standing_when_full, standing_at_three}

pub returns-clause-at_one : goal.returns-clause-at_one
returns-clause-at_one c = λ project town. ap (λ project. control_lines project standing_at_one) (town_is town)

pub returns-clause-when_full : goal.returns-clause-when_full
returns-clause-when_full c = λ project town. ap (λ project. control_lines project standing_when_full) (town_is town)

pub returns-clause-at_three : goal.returns-clause-at_three
returns-clause-at_three c = λ project town. ap (λ project. control_lines project standing_at_three) (town_is town)

pub returns-clause-text_at_one : goal.returns-clause-text_at_one
unfolding digits fixed_point
returns-clause-text_at_one c = λ project town. ap (λ project. map (line_text project)
    (control_lines project standing_at_one)) (town_is town)

pub returns-clause-text_when_full : goal.returns-clause-text_when_full
unfolding digits fixed_point
returns-clause-text_when_full c = λ project town. ap (λ project. map (line_text project)
    (control_lines project standing_when_full)) (town_is town)
