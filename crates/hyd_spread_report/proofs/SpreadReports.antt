-- The lines that the program makes of both grids are the report of the period.
use Rattle.std.proofs.Common.{◌≡◌, ℕ, ◌==◌, ◌&&◌, Bool, true, false, MatchBool, List, [], ◌++◌, length, map}
use Rattle.std.proofs.Common.{refl, sym, ap, subst, ◌∙◌, if◌then◌else◌}
use Rattle.std.proofs.lemmas.List.{length-map}
use Rattle.hyd_spec.specs.ProgramTypes.{Project, LinkState}
use Rattle.hyd_spec_certificates.specs.declared.Event.{Event}
use Rattle.hyd_spec_certificates.specs.PrintedIntervals.{is_report_time}
use Rattle.hyd_spec_certificates.specs.RecordAndStanding.{Record}
use Rattle.hyd_spec_reports.specs.ReportLine.{ReportLine}
use Rattle.hyd_spec_open_ends.specs.OpenStandings.{OpenStanding, OpenRecord}
use Rattle.hyd_spec_open_reports.specs.OpenReportLine.{OpenLine, known_line}
use Rattle.hyd_spec_spread_runs.specs.OutermostPairs.{Pair, spanned}
use Rattle.hyd_spec_open_spreads.specs.OpenRunsForSpreads.{spanning_openly}
use Rattle.hyd_spec_spread_reports.specs.SpreadReport.{AreStateLinesOver, IsSpreadReport}
use Rattle.hyd_period_network.specs.NetView.{NetView}
use Rattle.hyd_period_network.specs.NetAsPeriodNetwork.{grid_of, states_of}
use Rattle.hyd_period_network.specs.NetsSetToPeriods.{ends_of}
use Rattle.hyd_period_network.specs.GivenData.{IsNetButEmitters}
use Rattle.hyd_period_network.proofs.GridJunctionsAndLinks.{links_count}
use Rattle.hyd_period_facts.specs.declared.facts.Facts.{Facts}
use Rattle.hyd_open_facts.specs.FactsOfOpenPeriod.{AreOpenFacts}
use Rattle.hyd_report.specs.PeriodLines.{AreTankFacts}
use Rattle.hyd_open_report.specs.OpenPeriodLines.{open_end_lines}
use Rattle.hyd_open_report.specs.declared.late.Late.{Late}
use Rattle.hyd_open_report.proofs.OpenReports.{end_is, start_is}
use Rattle.hyd_spread_bounds.specs.BothSides.{pair_of, IsOrderedPair}
use Rattle.hyd_spread_bounds.proofs.HeadsOfBothSides.{junctions-alike, reservoirs-alike}
use Rattle.hyd_spread_report.specs.LinesOverBothSides.{state_lines_over, middle_lines_over, spread_lines_by}
use Rattle.hyd_spread_report.proofs.SpreadStateLines.{state_are}

module _ (project : Project) (pair : Pair) (states : List LinkState) (standing : OpenStanding) (found : OpenRecord)
    (first : ℕ) (late : Late) (events : List Event) (facts : Facts) (start : late.start ≡ standing.late)
    (are : AreOpenFacts project (spanned pair) standing (spanning_openly pair found) first late.end events facts)
    (tanks : AreTankFacts project facts) (same : states ≡ facts.links.list)
    (each : length pair.upper.links ≡ length project.links.list)
    (alike : length pair.lower.junctions ≡ length pair.upper.junctions)
    (as_many : length pair.lower.reservoirs ≡ length pair.upper.reservoirs) where
  where_reported : (b : Bool) (state : List ReportLine) → AreStateLinesOver project pair standing.known found.row state
      → MatchBool b (AreStateLinesOver project pair standing.known found.row (if b then state else []))
      ((if b then state else []) ≡ [])
  where_reported true state is = is
  where_reported false state is = refl

  middle : List ReportLine
  middle = middle_lines_over project pair states found.row facts late.start

  middle_are : MatchBool ((standing.late == 0) && is_report_time project standing.known.time)
      (AreStateLinesOver project pair standing.known found.row middle) (middle ≡ [])
  unfolding middle
  middle_are =
      subst (λ (n : ℕ). MatchBool ((n == 0) && is_report_time project standing.known.time)
      (AreStateLinesOver project pair standing.known found.row middle) (middle ≡ [])) start
      (subst (λ (t : ℕ). MatchBool ((late.start == 0) && is_report_time project t)
      (AreStateLinesOver project pair standing.known found.row middle) (middle ≡ [])) are.time
      (where_reported ((late.start == 0) && is_report_time project facts.time)
      (state_lines_over project pair states found.row facts)
      (state_are project pair states standing found first late.end events facts are tanks same each alike as_many)))

  pub lines_are : IsSpreadReport project pair standing found
      (spread_lines_by project pair states found.row facts late events)
  unfolding middle
  lines_are = record {
    state = middle;
    state_are = middle_are;
    at_end = open_end_lines facts late.end events;
    at_end_are = end_is project (spanned pair) states standing (spanning_openly pair found) first late events facts
        start are tanks same each;
    lines_are = ap (λ (ls : List OpenLine). ls ++ (map known_line middle ++ open_end_lines facts late.end events))
        (start_is project (spanned pair) states standing (spanning_openly pair found) first late events facts start
        are tanks same each);
  }

-- the net's grid has each link
each_link : (project : Project) (net : NetView) → IsNetButEmitters project net
    → length (grid_of net).links ≡ length project.links.list
each_link project net of =
    let ends : length net.ends ≡ length project.links.list = ap length of.ends
    ∙ length-map project.links.list ends_of in
    links_count net.ends net.settings net.own (of.each_setting ∙ sym ends) (of.each_own ∙ sym ends) ∙ ends

-- with the nets and the record that the program has
pub is_report : (project : Project) (upper lower : NetView) (row : Record) (facts : Facts) (late : Late)
    (events : List Event) → IsNetButEmitters project upper → IsOrderedPair (pair_of upper lower)
    → AreTankFacts project facts → states_of upper ≡ facts.links.list
    → (standing : OpenStanding) (found : OpenRecord) (first : ℕ) → late.start ≡ standing.late → found.row ≡ row
    → AreOpenFacts project (spanned (pair_of upper lower)) standing (spanning_openly (pair_of upper lower) found) first
    late.end events facts
    → IsSpreadReport project (pair_of upper lower) standing found
    (spread_lines_by project (pair_of upper lower) (states_of upper) row facts late events)
is_report project upper lower row facts late events of ordered tanks same standing found first start is are =
    subst (λ (r : Record). IsSpreadReport project (pair_of upper lower) standing found
    (spread_lines_by project (pair_of upper lower) (states_of upper) r facts late events)) is
    (lines_are project (pair_of upper lower) (states_of upper) standing found first late events facts start are tanks
    same (each_link project upper of) (junctions-alike upper lower ordered) (reservoirs-alike upper lower ordered))
