use Rattle.std.proofs.Common.{ap}
use Rattle.hyd_cases_of_runs.proofs.two_tank_town_rules.lines.Goals as goal
use Rattle.hyd_cases_of_runs.proofs.TwoTankTownAsOneValue.{town_is}
use Rattle.std.specs.Fmt.{digits}
use Rattle.hyd_num.specs.PrintedDecimals.{fixed_point}
use Rattle.std.specs.Prelude.{map}
use Rattle.hyd_spec_certificates.specs.Decided.{decided_changes}
use Rattle.hyd_spec_reports.specs.Report.{change_line}
use Rattle.hyd_spec_reports.specs.ReportLine.{line_text}
use Rattle.hyd_cases_of_runs.specs.TwoTankTownPeriods.{standing_when_full, grid_when_full, row_when_full}

pub returns-clause-when_full : goal.returns-clause-when_full
returns-clause-when_full c = λ project town. ap (λ project. map (change_line 8640)
    (decided_changes project grid_when_full standing_when_full row_when_full row_when_full.length)) (town_is town)

pub returns-clause-before : goal.returns-clause-before
returns-clause-before c = λ project town. ap (λ project. map (change_line 8280)
    (decided_changes project grid_when_full standing_when_full (record row_when_full { length = 967 }) 967))
    (town_is town)

pub returns-clause-text_when_full : goal.returns-clause-text_when_full
unfolding digits fixed_point
returns-clause-text_when_full c = λ project town. ap (λ project. map (line_text project)
    (map (change_line 8640) (decided_changes project grid_when_full standing_when_full row_when_full
    row_when_full.length))) (town_is town)
