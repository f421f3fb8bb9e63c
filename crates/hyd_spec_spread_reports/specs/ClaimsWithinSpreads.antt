-- What the lines of a report for a spread claim of the histories within the spread. A line claims of a period what it
-- claims of one of a single network: of the one with the data that the period has.
-- Source: this program's.
use Rattle.std.specs.Prelude.{ℕ, ◌≤◌, List, [], ◌∷◌, map, ⊤}
use Rattle.std.specs.List.{AllByRecursion}
use Rattle.hyd_spec.specs.ProgramTypes.{Project, LinkState}
use Rattle.hyd_spec.specs.PeriodLength.{Period}
use Rattle.hyd_spec.specs.History.{initial_links, commanded_after}
use Rattle.hyd_spec.specs.Lists.{joined}
use Rattle.hyd_spec_open_reports.specs.OpenReportLine.{OpenLine}
use Rattle.hyd_spec_open_reports.specs.ClaimsOfOpenLines.{OpenLineHolds}
use Rattle.hyd_spec_spread.specs.Spreads.{Spread}
use Rattle.hyd_spec_spread.specs.NetworksWithin.{NodeData, with_data}
use Rattle.hyd_spec_spread.specs.HistoriesWithin.{IsPeriodWithin}
use Rattle.hyd_spec_open_spreads.specs.OpenRunsForSpreads.{OpenFoundOver}
use Rattle.hyd_spec_open_spreads.specs.OpenAgreementWithin.{IsKeepingHistoryWithin}
use Rattle.hyd_spec_spread_reports.specs.SpreadReport.{IsSpreadReport}

-- ---- a run and its report

-- A period of a run for a spread, and the lines of its report.
pub record ReportedOver : Type 0 where
  pub here : OpenFoundOver
  pub lines : List OpenLine

-- The lines of each period are its report.
abbrev pub AreReportsOver : Project → List ReportedOver → Type 0
AreReportsOver project reports =
    AllByRecursion (λ (each : ReportedOver). IsSpreadReport project each.here.pair each.here.standing each.here.found
    each.lines) reports

-- The periods, without their reports.
abbrev pub periods_over : List ReportedOver → List OpenFoundOver
periods_over reports = map (λ each. each.here) reports

-- The lines, period by period.
abbrev pub lines_over : List ReportedOver → List OpenLine
lines_over reports = joined (map (λ each. each.lines) reports)

-- ---- every history

-- Each line holds of the period that it was told of, which has data within the spread, period by period as far as both
-- go, before which the links were commanded so.
abbrev pub AllLinesHoldWithin : Project → Spread → ℕ → List LinkState → List Period → List ReportedOver → Type 0
AllLinesHoldWithin project spread S commanded [] reports = ⊤
AllLinesHoldWithin project spread S commanded (period ∷ periods) [] = ⊤
AllLinesHoldWithin project spread S commanded (period ∷ periods) (each ∷ reports) =
    (nodes : NodeData) × (IsPeriodWithin project spread S period nodes
    × (AllByRecursion (OpenLineHolds (with_data project nodes) S commanded period) each.lines
    × AllLinesHoldWithin project spread S (commanded_after (with_data project nodes) S period) periods reports))

-- Every line holds of every history within the spread that keeps what it reaches, at every scale.
abbrev pub EveryLineHoldsWithin : Project → Spread → List ReportedOver → Type 0
EveryLineHoldsWithin project spread reports =
    (S : ℕ) → 1 ≤ S → (history : List Period) → IsKeepingHistoryWithin project spread S history
    → AllLinesHoldWithin project spread S (initial_links project) history reports
