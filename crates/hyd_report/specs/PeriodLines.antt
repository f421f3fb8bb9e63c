-- The lines of a period, as the program makes them, and what it needs of the period.
use Rattle.std.specs.Prelude.{◌≡◌, ◌+◌, pos, List, [], ◌∷◌, ◌++◌, length, map, take, drop, All, if◌then◌else◌}
use Rattle.hyd_spec.specs.ProgramTypes.{Project, LinkState}
use Rattle.hyd_spec.specs.Lists.{map_from}
use Rattle.hyd_spec.specs.NodeNumbers.{tank_count}
use Rattle.hyd_spec_certificates.specs.PeriodNetwork.{Grid}
use Rattle.hyd_spec_certificates.specs.RecordAndStanding.{Record}
use Rattle.hyd_spec_certificates.specs.Decided.{heads_below, heads_above}
use Rattle.hyd_spec_certificates.specs.PrintedIntervals.{is_report_time}
use Rattle.hyd_spec_reports.specs.Report.{event_line}
use Rattle.hyd_spec_reports.specs.Report.{change_line}
use Rattle.hyd_spec_reports.specs.ReportLine.{ReportLine, TimeLine}
use Rattle.hyd_period_network.specs.NetView.{NetView}
use Rattle.hyd_period_network.specs.NetAsPeriodNetwork.{grid_of}
use Rattle.hyd_bounds.specs.VectorsInOrder.{IsVector, AreInOrder}
use Rattle.hyd_period_facts.specs.declared.facts.Facts.{Facts}
use Rattle.hyd_report.specs.PrintedIntervals.{IsSmall}
use Rattle.hyd_report.specs.EventTextsAndChangesByRules.{before_rules}
use Rattle.hyd_report.specs.NodeAndLinkLines.{junction_line, reservoir_line, tank_line, link_line}

-- ---- what is needed

-- Each tank has its levels, its state and its inflow, which can be printed.
pub record AreTankFacts (project : Project) (facts : Facts) : Type 0 where
  pub levels : length facts.levels.list ≡ tank_count project
  pub inflows : length facts.inflows.list ≡ tank_count project
  pub states : length facts.tanks.list ≡ tank_count project
  pub small : All IsSmall facts.inflows.list

-- The vectors of a record with all tanks alike are heads of a net's junctions in the box, each below at most the one
-- above, and
-- so are the heads of its other nodes.
pub record AreBounds (net : NetView) (row : Record) : Type 0 where
  pub lower : IsVector net row.main.lower
  pub upper : IsVector net row.main.upper
  pub ordered : AreInOrder (pos 0) (heads_below (grid_of net) row) (heads_above (grid_of net) row)

-- ---- lines

-- The lines of a report time.
abbrev pub state_lines : Project → Grid → List LinkState → Record → Facts → List ReportLine
state_lines project grid states row facts =
    TimeLine facts.time ∷ (map_from (junction_line project row.main.lower row.main.upper) 0 grid.junctions
    ++ (map_from (reservoir_line project) 0 grid.reservoirs
    ++ (map_from (tank_line project facts.levels.list facts.inflows.list facts.tanks.list) 0 project.tanks.list
    ++ map_from (link_line project grid (heads_below grid row) (heads_above grid row) states) 0 project.links.list)))

-- The lines of changes by controls at the start.
abbrev pub start_lines : Facts → List ReportLine
start_lines facts = map (change_line facts.time) (take (before_rules facts.changes.list) facts.changes.list)

-- The lines of a report time, where the period is reported.
abbrev pub middle_lines : Project → Grid → List LinkState → Record → Facts → List ReportLine
middle_lines project grid states row facts =
    if is_report_time project facts.time then state_lines project grid states row facts else []

-- The lines of events and of changes by rules at the end.
abbrev pub end_lines : Facts → List ReportLine
end_lines facts =
    map (event_line (facts.time + facts.length)) facts.events.list
    ++ map (change_line (facts.time + facts.length)) (drop (before_rules facts.changes.list) facts.changes.list)

-- All lines of the period.
abbrev pub lines_of : Project → Grid → List LinkState → Record → Facts → List ReportLine
lines_of project grid states row facts =
    start_lines facts ++ (middle_lines project grid states row facts ++ end_lines facts)
