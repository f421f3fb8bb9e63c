-- The lines of a period of a run for a spread, as the program makes them from the grids of both sides, from vectors
-- below and above and from facts, and what it needs of the vectors.
use Rattle.std.specs.Prelude.{ℕ, ◌==◌, ◌&&◌, ℤ, pos, List, [], ◌∷◌, ◌++◌, map, slice_index_or, if◌then◌else◌}
use Rattle.hyd_spec.specs.ProgramTypes.{Project, LinkState}
use Rattle.hyd_spec.specs.Lists.{map_from}
use Rattle.hyd_spec.specs.Assignment.{head_at}
use Rattle.hyd_spec_certificates.specs.declared.Event.{Event}
use Rattle.hyd_spec_certificates.specs.PeriodNetwork.{GridJunction}
use Rattle.hyd_spec_certificates.specs.RecordAndStanding.{Record}
use Rattle.hyd_spec_certificates.specs.Decided.{heads_below, heads_above}
use Rattle.hyd_spec_certificates.specs.PrintedIntervals.{is_report_time}
use Rattle.hyd_spec_reports.specs.ReportLine.{ReportLine, TimeLine}
use Rattle.hyd_spec_open_reports.specs.OpenReportLine.{OpenLine, known_line}
use Rattle.hyd_spec_spread_runs.specs.OutermostPairs.{Pair, spanned, spanning, outflow_over}
use Rattle.hyd_period_network.specs.NetView.{NetView}
use Rattle.hyd_bounds.specs.VectorsInOrder.{IsVector, AreInOrder}
use Rattle.hyd_period_facts.specs.declared.facts.Facts.{Facts}
use Rattle.hyd_spread_bounds.specs.BothSides.{pair_of}
use Rattle.hyd_report.specs.NodeAndLinkLines.{junction_at, reservoir_between, tank_line, link_line}
use Rattle.hyd_open_report.specs.OpenPeriodLines.{open_start_lines, open_end_lines}
use Rattle.hyd_open_report.specs.declared.late.Late.{Late}

-- ---- what is needed

-- The vectors of a record with all tanks alike are heads of the junctions of both nets in the box, LOWER ones of the
-- LOWER net and UPPER ones of the UPPER net, each below at most the one above, and so are the heads of other nodes.
pub record AreBoundsOver (upper lower : NetView) (row : Record) : Type 0 where
  pub low : IsVector lower row.main.lower
  pub high : IsVector upper row.main.upper
  pub ordered : AreInOrder (pos 0) (heads_below (spanned (pair_of upper lower)) (spanning (pair_of upper lower) row))
      (heads_above (spanned (pair_of upper lower)) (spanning (pair_of upper lower) row))

-- ---- nodes and links

-- The line of junction number j by its places in both grids, between two of its heads.
abbrev pub junction_over : Project → ℕ → GridJunction → GridJunction → ℤ → ℤ → ReportLine
junction_over project j upper lower low high =
    junction_at project j upper.elevation (record { lo = low; hi = high }) (outflow_over upper lower low high)

-- The line of junction number j by vectors below and above.
abbrev pub junction_line_over : Project → Pair → List ℤ → List ℤ → ℕ → GridJunction → ReportLine
junction_line_over project pair low high j upper =
    junction_over project j upper (slice_index_or pair.lower.junctions j upper) (head_at low j) (head_at high j)

-- The line of reservoir number r, by its head in the UPPER grid.
abbrev pub reservoir_line_over : Project → Pair → ℕ → ℤ → ReportLine
reservoir_line_over project pair r greatest =
    reservoir_between project r (record { lo = head_at pair.lower.reservoirs r; hi = greatest })

-- The lines of tanks.
abbrev pub tank_lines_by : Project → Facts → List ReportLine
tank_lines_by project facts =
    map_from (tank_line project facts.levels.list facts.inflows.list facts.tanks.list) 0 project.tanks.list

-- The lines of links.
abbrev pub link_lines_over : Project → Pair → List LinkState → Record → List ReportLine
link_lines_over project pair states row =
    map_from (link_line project (spanned pair) (heads_below (spanned pair) (spanning pair row))
    (heads_above (spanned pair) (spanning pair row)) states) 0 project.links.list

-- ---- the period

-- The lines of a report time.
abbrev pub state_lines_over : Project → Pair → List LinkState → Record → Facts → List ReportLine
state_lines_over project pair states row facts =
    TimeLine facts.time
    ∷ (map_from (junction_line_over project pair row.main.lower row.main.upper) 0 pair.upper.junctions
    ++ (map_from (reservoir_line_over project pair) 0 pair.upper.reservoirs
    ++ (tank_lines_by project facts ++ link_lines_over project pair states row)))

-- The lines of a report time, where the start is known to the second and the period is reported.
abbrev pub middle_lines_over : Project → Pair → List LinkState → Record → Facts → ℕ → List ReportLine
middle_lines_over project pair states row facts late =
    if (late == 0) && is_report_time project facts.time then state_lines_over project pair states row facts else []

-- All lines of the period.
abbrev pub spread_lines_by : Project → Pair → List LinkState → Record → Facts → Late → List Event → List OpenLine
spread_lines_by project pair states row facts late events =
    open_start_lines facts late.start
    ++ (map known_line (middle_lines_over project pair states row facts late.start)
    ++ open_end_lines facts late.end events)
