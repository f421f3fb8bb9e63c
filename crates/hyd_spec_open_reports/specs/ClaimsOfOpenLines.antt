-- What a line whose time may be open claims of a period of a history.
-- Source: this program's.
use Rattle.std.specs.Prelude.{ℕ, ◌+◌, ◌≤◌, List}
use Rattle.hyd_spec.specs.ProgramTypes.{Project, LinkState}
use Rattle.hyd_spec.specs.PeriodLength.{Period}
use Rattle.hyd_spec_reports.specs.ReportLine.{ReportLine, ControlLine, FilledLine, EmptiedLine, ReachedLine}
use Rattle.hyd_spec_reports.specs.Claims.{LineHolds}
use Rattle.hyd_spec_open_reports.specs.OpenReportLine.{OpenLine}

-- The same line with its time so many seconds later. The time of a rule's line and of a report time is known.
abbrev pub later_by : ℕ → ReportLine → ReportLine
later_by seconds (ControlLine time number link state) = ControlLine (time + seconds) number link state
later_by seconds (FilledLine time tank) = FilledLine (time + seconds) tank
later_by seconds (EmptiedLine time tank) = EmptiedLine (time + seconds) tank
later_by seconds (ReachedLine time tank control) = ReachedLine (time + seconds) tank control
later_by seconds told = told

-- At a second from its time to its last the line holds of a period of a history at scale S, before which the links were
-- commanded so.
pub record OpenLineHolds (project : Project) (S : ℕ) (commanded : List LinkState) (period : Period)
    (each : OpenLine) : Type 0 where
  pub seconds : ℕ
  pub in_time : seconds ≤ each.late
  pub holds : LineHolds project S commanded period (later_by seconds each.line)
