-- The lines that the program makes are the report of the period.
use Rattle.std.proofs.Common.{◌≡◌, ℕ, ◌+◌, ◌==◌, ◌&&◌, Bool, true, false, MatchBool, List, [], ◌++◌, length, map}
use Rattle.std.proofs.lemmas.List.{length-map}
use Rattle.std.proofs.Common.{take, drop, refl, sym, ap, subst, ◌∙◌, append-nil, if◌then◌else◌}
use Rattle.hyd_spec.specs.ProgramTypes.{Project, LinkState}
use Rattle.hyd_spec.specs.declared.Change.{Change}
use Rattle.hyd_spec_certificates.specs.declared.Event.{Event}
use Rattle.hyd_spec_certificates.specs.PeriodNetwork.{Grid}
use Rattle.hyd_spec_certificates.specs.RecordAndStanding.{Record}
use Rattle.hyd_spec_certificates.specs.PrintedIntervals.{is_report_time}
use Rattle.hyd_spec_certificates.specs.ChangesAtStart.{changes_at}
use Rattle.hyd_spec_reports.specs.ReportLine.{ReportLine}
use Rattle.hyd_spec_reports.specs.Report.{AreStateLines, event_line, change_line}
use Rattle.hyd_spec_open_ends.specs.OpenStandings.{OpenStanding, OpenRecord}
use Rattle.hyd_spec_open_ends.specs.OpenEnds.{first_end, late_at_end}
use Rattle.hyd_spec_open_reports.specs.OpenReportLine.{OpenLine, known_line}
use Rattle.hyd_spec_open_reports.specs.OpenReport.{AreOpenEndLines, IsOpenReport, events_left, changes_left}
use Rattle.hyd_spec_open_reports.specs.OpenReport as report
use Rattle.hyd_period_network.specs.NetAsPeriodNetwork.{grid_of, states_of}
use Rattle.hyd_period_network.specs.NetsSetToPeriods.{IsNetOf, ends_of}
use Rattle.hyd_period_network.specs.NetView.{NetView}
use Rattle.hyd_period_network.proofs.GridJunctionsAndLinks.{links_count}
use Rattle.hyd_period_facts.specs.declared.facts.Facts.{Facts}
use Rattle.hyd_open_facts.specs.FactsOfOpenPeriod.{AreOpenFacts, EndBringsOpenly, at_last, at_known, at_open}
use Rattle.hyd_report.specs.EventTextsAndChangesByRules.{before_rules}
use Rattle.hyd_report.specs.PeriodLines.{AreTankFacts, state_lines}
use Rattle.hyd_open_report.specs.OpenPeriodLines.{open_start_lines, open_middle_lines, open_end_lines, open_lines_by}
use Rattle.hyd_open_report.specs.declared.late.Late.{Late}
use Rattle.hyd_open_report.proofs.ChangesApart.{changes_apart, no_rules}
use Rattle.hyd_open_report.proofs.OpenStateLines.{state_are}

-- ---- the end

-- lines of an end that comes first at a time and is open by so many seconds
told_at : ℕ → ℕ → List Event → List Change → List OpenLine
told_at time late events changes =
    map (λ (event : Event). record { line = event_line time event; late = late }) events
    ++ map (λ (change : Change). record { line = change_line time change; late = late }) changes

-- those at a known end, and then those at an open one
end_by : ℕ → ℕ → List Event → List Change → List Event → List OpenLine
end_by time late known changes opened =
    map (λ (event : Event). known_line (event_line time event)) known
    ++ (map (λ (change : Change). known_line (change_line time change)) changes
    ++ map (λ (event : Event). record { line = event_line time event; late = late }) opened)

known_end : (time none : ℕ) (known : List Event) (changes : List Change) → none ≡ 0
    → told_at time none known changes ≡ end_by time 0 known changes []
unfolding told_at end_by
known_end time none known changes is =
    ap (λ n. told_at time n known changes) is
    ∙ ap (λ ls. map (λ (event : Event). known_line (event_line time event)) known ++ ls)
    (sym (append-nil (map (λ (change : Change). known_line (change_line time change)) changes)))

opened_end : (time late : ℕ) (changes : List Change) (opened : List Event) → changes ≡ []
    → told_at time late opened changes ≡ end_by time late [] changes opened
unfolding told_at end_by
opened_end time late changes opened none =
    ap (λ cs. told_at time late opened cs) none
    ∙ (append-nil (map (λ (event : Event). record { line = event_line time event; late = late }) opened)
    ∙ ap (λ cs. end_by time late [] cs opened) (sym none))

ends_are : (project : Project) (grid : Grid) (standing : OpenStanding) (found : OpenRecord) (first late : ℕ)
    (known opened : List Event) (rules : List Change)
    → EndBringsOpenly project grid standing found first late known opened rules
    → AreOpenEndLines project grid standing found (end_by (standing.known.time + first) late known rules opened)
unfolding told_at end_by
ends_are project grid standing found first late known opened rules (at_last e) = report.at_last e
ends_are project grid standing found first late known opened rules (at_known way reached ends arrives none) =
    subst (λ (ls : List OpenLine). AreOpenEndLines project grid standing found ls)
    (known_end (standing.known.time + first_end way) (late_at_end standing.late way)
    (events_left project grid standing.known found reached) (changes_left project grid standing found.row way) none)
    (report.at_end way reached ends arrives)
ends_are project grid standing found first late known opened rules (at_open way reached ends arrives some) =
    subst (λ (ls : List OpenLine). AreOpenEndLines project grid standing found ls)
    (opened_end (standing.known.time + first_end way) (late_at_end standing.late way)
    (changes_left project grid standing found.row way) (events_left project grid standing.known found reached)
    (no_rules project grid standing found.row way some))
    (report.at_end way reached ends arrives)

-- ---- the period

module _ (project : Project) (grid : Grid) (states : List LinkState) (standing : OpenStanding) (found : OpenRecord)
    (first : ℕ) (late : Late) (events : List Event) (facts : Facts) (start : late.start ≡ standing.late)
    (are : AreOpenFacts project grid standing found first late.end events facts)
    (tanks : AreTankFacts project facts) (same : states ≡ facts.links.list)
    (each : length grid.links ≡ length project.links.list) where
  where_reported : (b : Bool) (state : List ReportLine) → AreStateLines project grid standing.known found.row state
      → MatchBool b (AreStateLines project grid standing.known found.row (if b then state else []))
      ((if b then state else []) ≡ [])
  where_reported true state is = is
  where_reported false state is = refl

  apart : (take (before_rules facts.changes.list) facts.changes.list ≡ changes_at project standing.known)
      × (drop (before_rules facts.changes.list) facts.changes.list ≡ are.by_rules)
  apart = changes_apart project grid standing found first late.end facts.events.list events facts.changes.list
      are.by_rules are.changes are.brings

  middle : List ReportLine
  middle = open_middle_lines project grid states found.row facts late.start

  middle_are : MatchBool ((standing.late == 0) && is_report_time project standing.known.time)
      (AreStateLines project grid standing.known found.row middle) (middle ≡ [])
  unfolding middle
  middle_are =
      subst (λ (n : ℕ). MatchBool ((n == 0) && is_report_time project standing.known.time)
      (AreStateLines project grid standing.known found.row middle) (middle ≡ [])) start
      (subst (λ (t : ℕ). MatchBool ((late.start == 0) && is_report_time project t)
      (AreStateLines project grid standing.known found.row middle) (middle ≡ [])) are.time
      (where_reported ((late.start == 0) && is_report_time project facts.time)
      (state_lines project grid states found.row facts)
      (state_are project grid states standing found first late.end events facts are tanks same each)))

  pub end_is : AreOpenEndLines project grid standing found (open_end_lines facts late.end events)
  unfolding end_by
  end_is =
      subst (λ (t : ℕ). AreOpenEndLines project grid standing found (end_by (t + facts.length) late.end
      facts.events.list (drop (before_rules facts.changes.list) facts.changes.list) events)) (sym are.time)
      (subst (λ (n : ℕ). AreOpenEndLines project grid standing found (end_by (standing.known.time + n) late.end
      facts.events.list (drop (before_rules facts.changes.list) facts.changes.list) events)) (sym are.length)
      (subst (λ (cs : List Change). AreOpenEndLines project grid standing found (end_by
      (standing.known.time + first) late.end facts.events.list cs events)) (sym apart.1)
      (ends_are project grid standing found first late.end facts.events.list events are.by_rules are.brings)))

  pub start_is : open_start_lines facts late.start ≡ report.open_control_lines project standing
  start_is =
      ap (λ (n : ℕ). map (λ (change : Change). record { line = change_line facts.time change; late = n })
      (take (before_rules facts.changes.list) facts.changes.list)) start
      ∙ (ap (λ (t : ℕ). map (λ (change : Change). record { line = change_line t change; late = standing.late })
      (take (before_rules facts.changes.list) facts.changes.list)) are.time
      ∙ ap (λ (cs : List Change). map (λ (change : Change). record {
        line = change_line standing.known.time change;
        late = standing.late;
      }) cs) apart.0)

  lines_are : IsOpenReport project grid standing found (open_lines_by project grid states found.row facts late events)
  unfolding middle
  lines_are = record {
    state = middle;
    state_are = middle_are;
    at_end = open_end_lines facts late.end events;
    at_end_are = end_is;
    lines_are = ap (λ (ls : List OpenLine). ls ++ (map known_line middle ++ open_end_lines facts late.end events))
        start_is;
  }

-- the net's grid has each link
each_link : (project : Project) (net : NetView) → IsNetOf project net
    → length (grid_of net).links ≡ length project.links.list
each_link project net of =
    let ends : length net.ends ≡ length project.links.list = ap length of.ends
    ∙ length-map project.links.list ends_of in
    links_count net.ends net.settings net.own (of.each_setting ∙ sym ends) (of.each_own ∙ sym ends) ∙ ends

-- with the net and the record that the program has
pub is_report : (project : Project) (net : NetView) (row : Record) (facts : Facts) (late : Late) (events : List Event)
    → IsNetOf project net → AreTankFacts project facts → states_of net ≡ facts.links.list
    → (standing : OpenStanding) (found : OpenRecord) (first : ℕ) → late.start ≡ standing.late → found.row ≡ row
    → AreOpenFacts project (grid_of net) standing found first late.end events facts
    → IsOpenReport project (grid_of net) standing found
    (open_lines_by project (grid_of net) (states_of net) row facts late events)
is_report project net row facts late events of tanks same standing found first start is are =
    subst (λ (r : Record). IsOpenReport project (grid_of net) standing found
    (open_lines_by project (grid_of net) (states_of net) r facts late events)) is
    (lines_are project (grid_of net) (states_of net) standing found first late events facts start are tanks same
    (each_link project net of))
