-- The report of a period whose start or end may be open by some seconds: which lines it has.
-- Source: this program's format.
use Rattle.std.specs.Prelude.{◌≡◌, ℕ, ◌+◌, ◌==◌, ◌&&◌, Bool, List, [], ◌++◌, map, Option, MatchBool}
use Rattle.hyd_spec.specs.ProgramTypes.{Project}
use Rattle.hyd_spec.specs.Lists.{map_from, present}
use Rattle.hyd_spec.specs.declared.Change.{Change}
use Rattle.hyd_spec_certificates.specs.declared.Event.{Event}
use Rattle.hyd_spec_certificates.specs.Interval.{Interval}
use Rattle.hyd_spec_certificates.specs.PeriodNetwork.{Grid}
use Rattle.hyd_spec_certificates.specs.RecordAndStanding.{Record, Standing}
use Rattle.hyd_spec_certificates.specs.PrintedIntervals.{is_report_time}
use Rattle.hyd_spec_certificates.specs.Decided.{Watch}
use Rattle.hyd_spec_certificates.specs.ChangesAtStart.{changes_at}
use Rattle.hyd_spec_certificates.specs.EndsOfPeriods.{tank_events, control_event}
use Rattle.hyd_spec_reports.specs.ReportLine.{ReportLine}
use Rattle.hyd_spec_reports.specs.Report.{AreStateLines, event_line, change_line}
use Rattle.hyd_spec_open_ends.specs.OpenStandings.{OpenStanding, OpenRecord}
use Rattle.hyd_spec_open_ends.specs.RulesOverLengths.{open_changes}
use Rattle.hyd_spec_open_ends.specs.OpenEnds.{Way, ByRules, ByInstant, ByWatched, EndsIn, first_end, late_at_end}
use Rattle.hyd_spec_open_ends.specs.Arrivals.{Arrives}
use Rattle.hyd_spec_open_ends.specs.OpenRecords.{carried_left}
use Rattle.hyd_spec_open_reports.specs.OpenReportLine.{OpenLine, known_line}

-- ---- the start

-- One line for each change by a control at the start of a period, in order of the controls: at any of its seconds.
abbrev pub open_control_lines : Project → OpenStanding → List OpenLine
open_control_lines project standing =
    map (λ change. record { line = change_line standing.known.time change; late = standing.late })
    (changes_at project standing.known)

-- The start is known to the second, and a report time. (No open start is one, in a run: no instant of the clock lies
-- in it.)
abbrev pub tells_state : Project → OpenStanding → Bool
tells_state project standing = (standing.late == 0) && is_report_time project standing.known.time

-- ---- the end

-- The carried levels of all tanks at the end of the record's period, where this level was just reached.
abbrev pub all_carried_left : Project → Grid → Standing → OpenRecord → Option Watch → List Interval
all_carried_left project grid standing found reached =
    map_from (carried_left project grid standing found reached) 0 project.tanks.list

-- The events at the end: those of tanks in order, then those of level controls in order.
abbrev pub events_left : Project → Grid → Standing → OpenRecord → Option Watch → List Event
events_left project grid standing found reached =
    let carried = all_carried_left project grid standing found reached in
    tank_events 0 project.tanks.list standing.tanks carried
    ++ present (map_from (control_event standing.levels carried) 0 project.controls.list)

-- What rules change there: nothing where something else ends the period.
abbrev pub changes_left : Project → Grid → OpenStanding → Record → Way → List Change
changes_left project grid standing row (ByRules seconds) = open_changes project grid standing row seconds
changes_left project grid standing row (ByInstant seconds) = []
changes_left project grid standing row (ByWatched earliest latest) = []

-- A line of an end that is reached in this way.
abbrev pub line_at_end : OpenStanding → Way → (ℕ → ReportLine) → OpenLine
line_at_end standing way told = record {
  line = told (standing.known.time + first_end way);
  late = late_at_end standing.late way;
}

-- The lines of a period's end: one for each event, then one for each change by a rule, in order of the links. The
-- period at the end of the run has none.
pub data AreOpenEndLines (project : Project) (grid : Grid) (standing : OpenStanding) (found : OpenRecord)
    : List OpenLine → Type 0 where
  at_last : standing.known.time ≡ project.times.duration → AreOpenEndLines project grid standing found []
  at_end : (way : Way) (reached : Option Watch) → EndsIn project grid standing found.row way
      → Arrives project grid standing.known found.row way reached
      → AreOpenEndLines project grid standing found
      (map (λ event. line_at_end standing way (λ time. event_line time event))
      (events_left project grid standing.known found reached)
      ++ map (λ change. line_at_end standing way (λ time. change_line time change))
      (changes_left project grid standing found.row way))

-- ---- a period's lines

-- The lines of a period: changes by controls, the state where it is a report time, then what its end brings.
pub record IsOpenReport (project : Project) (grid : Grid) (standing : OpenStanding) (found : OpenRecord)
    (lines : List OpenLine) : Type 0 where
  pub state : List ReportLine
  pub state_are : MatchBool (tells_state project standing)
      (AreStateLines project grid standing.known found.row state) (state ≡ [])
  pub at_end : List OpenLine
  pub at_end_are : AreOpenEndLines project grid standing found at_end
  pub lines_are : lines ≡ open_control_lines project standing ++ (map known_line state ++ at_end)
