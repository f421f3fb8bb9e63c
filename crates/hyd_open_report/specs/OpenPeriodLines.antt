-- The lines of a period whose start or end may be open by some seconds, as the program makes them from its facts.
use Rattle.std.specs.Prelude.{ℕ, ◌+◌, ◌==◌, ◌&&◌, List, [], ◌++◌, map, take, drop, if◌then◌else◌}
use Rattle.hyd_spec.specs.ProgramTypes.{Project, LinkState}
use Rattle.hyd_spec.specs.Lists.{joined}
use Rattle.hyd_spec_certificates.specs.declared.Event.{Event}
use Rattle.hyd_spec_certificates.specs.PeriodNetwork.{Grid}
use Rattle.hyd_spec_certificates.specs.RecordAndStanding.{Record}
use Rattle.hyd_spec_certificates.specs.PrintedIntervals.{is_report_time}
use Rattle.hyd_spec_reports.specs.ReportLine.{ReportLine}
use Rattle.hyd_spec_reports.specs.Report.{event_line, change_line}
use Rattle.hyd_spec_open_reports.specs.OpenReportLine.{OpenLine, known_line, open_line_text}
use Rattle.hyd_period_facts.specs.declared.facts.Facts.{Facts}
use Rattle.hyd_report.specs.EventTextsAndChangesByRules.{before_rules}
use Rattle.hyd_report.specs.PeriodLines.{state_lines}
use Rattle.hyd_open_report.specs.declared.late.Late.{Late}

-- The bytes of lines, one after another.
abbrev pub open_texts : Project → List OpenLine → List ℕ
open_texts project lines = joined (map (open_line_text project) lines)

-- The lines of changes by controls at a start that is open by so many seconds.
abbrev pub open_start_lines : Facts → ℕ → List OpenLine
open_start_lines facts late =
    map (λ change. record { line = change_line facts.time change; late = late })
    (take (before_rules facts.changes.list) facts.changes.list)

-- The lines of a report time, where the start is known to the second and the period is reported.
abbrev pub open_middle_lines : Project → Grid → List LinkState → Record → Facts → ℕ → List ReportLine
open_middle_lines project grid states row facts late =
    if (late == 0) && is_report_time project facts.time then state_lines project grid states row facts else []

-- The lines of events at an end that is open by so many seconds.
abbrev pub opened_lines : Facts → ℕ → List Event → List OpenLine
opened_lines facts late events =
    map (λ event. record { line = event_line (facts.time + facts.length) event; late = late }) events

-- The lines of events and of changes by rules at an end that is known, then those of events at one that is open by so
-- many seconds.
abbrev pub open_end_lines : Facts → ℕ → List Event → List OpenLine
open_end_lines facts late events =
    map (λ event. known_line (event_line (facts.time + facts.length) event)) facts.events.list
    ++ (map (λ change. known_line (change_line (facts.time + facts.length) change))
    (drop (before_rules facts.changes.list) facts.changes.list)
    ++ opened_lines facts late events)

-- All lines of the period.
abbrev pub open_lines_by : Project → Grid → List LinkState → Record → Facts → Late → List Event → List OpenLine
open_lines_by project grid states row facts late events =
    open_start_lines facts late.start
    ++ (map known_line (open_middle_lines project grid states row facts late.start)
    ++ open_end_lines facts late.end events)
