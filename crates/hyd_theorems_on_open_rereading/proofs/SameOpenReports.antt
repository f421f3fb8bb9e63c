-- The reports of records with open ends, and their text, are the same of alike parts.
use Rattle.std.proofs.Common.{◌≡◌, ℕ, ◌+◌, List, [], ◌∷◌, ◌++◌, map, refl, ap, subst, sym, ◌∙◌}
use Rattle.std.specs.Prelude.{Option, codes}
use Rattle.std.specs.Fmt.{decimal}
use Rattle.hyd_spec.specs.ProgramTypes.{Project}
use Rattle.hyd_spec.specs.declared.Change.{Change}
use Rattle.hyd_spec.specs.Lists.{map_from, joined, present}
use Rattle.hyd_spec_certificates.specs.Interval.{Interval}
use Rattle.hyd_spec_certificates.specs.PeriodNetwork.{Grid}
use Rattle.hyd_spec_certificates.specs.Decided.{Watch}
use Rattle.hyd_spec_certificates.specs.declared.Event.{Event}
use Rattle.hyd_spec_certificates.specs.EndsOfPeriods.{tank_events, control_event}
use Rattle.hyd_spec_certificates.specs.CertificateText.{line}
use Rattle.hyd_spec_reports.specs.ReportLine.{ReportLine, ControlLine, TimeLine, JunctionLine, ReservoirLine, TankLine}
use Rattle.hyd_spec_reports.specs.ReportLine.{LinkLine, FilledLine, EmptiedLine, ReachedLine, RuleLine}
use Rattle.hyd_spec_reports.specs.Report.{event_line, change_line}
use Rattle.hyd_spec_open_ends.specs.OpenStandings.{OpenStanding, OpenRecord}
use Rattle.hyd_spec_open_ends.specs.OpenEnds.{Way, ByRules, ByInstant, ByWatched}
use Rattle.hyd_spec_open_ends.specs.OpenRecords.{carried_left}
use Rattle.hyd_spec_open_reports.specs.OpenReportLine.{OpenLine, known_line, open_event_words, open_words}
use Rattle.hyd_spec_open_reports.specs.OpenReportLine.{open_line_text, open_report_text}
use Rattle.hyd_spec_open_reports.specs.OpenReport.{open_control_lines, tells_state, events_left, changes_left}
use Rattle.hyd_spec_open_reports.specs.OpenReport.{line_at_end, AreOpenEndLines, at_last, at_end, IsOpenReport}
use Rattle.hyd_spec_open_reports.specs.PromisesOfOpenReports.{Reported, AreReports}
use Rattle.hyd_theorems_on_rereading.proofs.PartsWithSpares.{Inner, with_inner, AreAlike}
use Rattle.hyd_theorems_on_rereading.proofs.SameQuantities.{same_map}
use Rattle.hyd_theorems_on_rereading.proofs.SameDecidedMatters.{same_map_from}
use Rattle.hyd_theorems_on_rereading.proofs.SameReports.{same_changes_at, state_by, same_tank_id, same_words}
use Rattle.hyd_theorems_on_open_rereading.proofs.SameOpenEnds.{same_open_changes, ends_on, arrives_on}
use Rattle.hyd_theorems_on_open_rereading.proofs.SameOpenRecords.{same_carried_left}

module _ (p : Project) (x y : Inner) (alike : AreAlike x y) where
  -- ---- the start

  same_open_control_lines : (standing : OpenStanding)
      → open_control_lines (with_inner p x) standing ≡ open_control_lines (with_inner p y) standing
  same_open_control_lines standing =
      ap (λ (changes : List Change). map (λ (change : Change). record {
        line = change_line standing.known.time change;
        late = standing.late;
      }) changes) (same_changes_at p x y alike standing.known)

  -- ---- the end

  module _ (grid : Grid) (standing : OpenStanding) (found : OpenRecord) where
    same_events_left : (reached : Option Watch)
        → events_left (with_inner p x) grid standing.known found reached
        ≡ events_left (with_inner p y) grid standing.known found reached
    same_events_left reached =
        ap (λ (carried : List Interval). tank_events 0 p.tanks.list standing.known.tanks carried
        ++ present (map_from (control_event standing.known.levels carried) 0 p.controls.list))
        (same_map_from (carried_left (with_inner p x) grid standing.known found reached)
        (carried_left (with_inner p y) grid standing.known found reached)
        (same_carried_left p x y alike grid standing.known found reached) 0 p.tanks.list)

    same_changes_left : (way : Way)
        → changes_left (with_inner p x) grid standing found.row way
        ≡ changes_left (with_inner p y) grid standing found.row way
    same_changes_left (ByRules seconds) = same_open_changes p x y alike grid standing found.row seconds
    same_changes_left (ByInstant seconds) = refl
    same_changes_left (ByWatched earliest latest) = refl

    -- what an end with these events and changes brings
    abbrev lines_of : Way → List Event → List Change → List OpenLine
    lines_of way events changes =
        map (λ (event : Event). line_at_end standing way (λ time. event_line time event)) events
        ++ map (λ (change : Change). line_at_end standing way (λ time. change_line time change)) changes

    end_lines_on : (lines : List OpenLine) → AreOpenEndLines (with_inner p x) grid standing found lines
        → AreOpenEndLines (with_inner p y) grid standing found lines
    end_lines_on _ (at_last last) = at_last last
    end_lines_on _ (at_end way reached ends arrives) =
        subst (λ (es : List Event). AreOpenEndLines (with_inner p y) grid standing found
        (lines_of way es (changes_left (with_inner p x) grid standing found.row way)))
        (sym (same_events_left reached))
        (subst (λ (cs : List Change). AreOpenEndLines (with_inner p y) grid standing found
        (lines_of way (events_left (with_inner p y) grid standing.known found reached) cs))
        (sym (same_changes_left way))
        (at_end way reached (ends_on p grid standing found.row x y alike way ends)
        (arrives_on p grid standing.known found.row x y alike way reached arrives)))

    -- ---- all lines

    report_on : (lines : List OpenLine) → IsOpenReport (with_inner p x) grid standing found lines
        → IsOpenReport (with_inner p y) grid standing found lines
    report_on lines is = record {
      state = is.state;
      state_are = state_by p x y alike grid standing.known found.row (tells_state (with_inner p x) standing) is.state
          is.state_are;
      at_end = is.at_end;
      at_end_are = end_lines_on is.at_end is.at_end_are;
      lines_are = is.lines_are
          ∙ ap (λ (ls : List OpenLine). ls ++ (map known_line is.state ++ is.at_end))
          (same_open_control_lines standing);
    }

  pub reports_on : (reports : List Reported) → AreReports (with_inner p x) reports
      → AreReports (with_inner p y) reports
  reports_on [] are = tt
  reports_on (each ∷ reports) are = (
    report_on each.here.grid each.here.standing each.here.found each.lines are.0,
    reports_on reports are.1,
  )

  -- ---- texts

  same_open_words : (late : ℕ) (told : ReportLine)
      → open_words (with_inner p x) late told ≡ open_words (with_inner p y) late told
  same_open_words late (ControlLine time number link state) = refl
  same_open_words late (FilledLine time tank) =
      ap (λ (id : List ℕ). open_event_words id time late (codes "FULL" ∷ [])) (same_tank_id p x y alike tank)
  same_open_words late (EmptiedLine time tank) =
      ap (λ (id : List ℕ). open_event_words id time late (codes "EMPTY" ∷ [])) (same_tank_id p x y alike tank)
  same_open_words late (ReachedLine time tank control) =
      ap (λ (id : List ℕ). open_event_words id time late (codes "CONTROL" ∷ (decimal (control + 1) ∷ [])))
      (same_tank_id p x y alike tank)
  same_open_words late (TimeLine time) = same_words p x y alike (TimeLine time)
  same_open_words late (JunctionLine j head pressure outflow) =
      same_words p x y alike (JunctionLine j head pressure outflow)
  same_open_words late (ReservoirLine r head) = same_words p x y alike (ReservoirLine r head)
  same_open_words late (TankLine k head level inflow state) =
      same_words p x y alike (TankLine k head level inflow state)
  same_open_words late (LinkLine l flow status) = same_words p x y alike (LinkLine l flow status)
  same_open_words late (RuleLine time rule link state) = same_words p x y alike (RuleLine time rule link state)

  same_open_line : (each : OpenLine) → open_line_text (with_inner p x) each ≡ open_line_text (with_inner p y) each
  same_open_line each = ap line (same_open_words each.late each.line)

  pub same_open_report : (lines : List OpenLine) (last : List ℕ)
      → open_report_text (with_inner p x) lines last ≡ open_report_text (with_inner p y) lines last
  same_open_report lines last =
      ap (λ (texts : List (List ℕ)). line (codes "HYD" ∷ (decimal 1 ∷ [])) ++ (joined texts ++ last))
      (same_map (open_line_text (with_inner p x)) (open_line_text (with_inner p y)) same_open_line lines)
