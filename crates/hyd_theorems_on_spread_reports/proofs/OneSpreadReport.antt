-- A record of a run for a spread has one report over a pair.
use Rattle.std.proofs.Common.{◌≡◌, ℕ, ℤ, ◌-ℤ◌, Bool, true, false, MatchBool, List, [], ◌∷◌, ◌++◌, sym, ap, subst}
use Rattle.std.proofs.Common.{◌∙◌, map}
use Rattle.hyd_num.specs.PrintedDecimals.{head_quantity, pressure_quantity, flow_quantity}
use Rattle.hyd_spec.specs.ProgramTypes.{Project, Tank, Link}
use Rattle.hyd_spec.specs.DemandsHeadsAndPumpLifts.{is_us}
use Rattle.hyd_spec_certificates.specs.Interval.{Interval}
use Rattle.hyd_spec_certificates.specs.PeriodNetwork.{GridJunction}
use Rattle.hyd_spec_certificates.specs.PrintedIntervals.{Prints}
use Rattle.hyd_spec_certificates.specs.RecordAndStanding.{Record, Standing}
use Rattle.hyd_spec_reports.specs.ReportLine.{ReportLine, TimeLine, JunctionLine, ReservoirLine}
use Rattle.hyd_spec_reports.specs.Report.{IsTankLine, IsLinkLine}
use Rattle.hyd_spec_open_ends.specs.OpenStandings.{OpenStanding, OpenRecord}
use Rattle.hyd_spec_open_reports.specs.OpenReportLine.{OpenLine, known_line}
use Rattle.hyd_spec_open_reports.specs.OpenReport.{open_control_lines, tells_state}
use Rattle.hyd_spec_spread_runs.specs.OutermostPairs.{Pair, spanned, spanning, outflow_over}
use Rattle.hyd_spec_open_spreads.specs.OpenRunsForSpreads.{spanning_openly}
use Rattle.hyd_spec_spread_reports.specs.SpreadReport.{IsJunctionLineOver, IsReservoirLineOver, AreStateLinesOver}
use Rattle.hyd_spec_spread_reports.specs.SpreadReport.{IsSpreadReport}
use Rattle.hyd_theorems_on_open_reports.proofs.OneOpenReport.{one_print, one_each, one_tank, one_link, one-end-lines}

-- ---- lines

module _ (project : Project) (pair : Pair) (standing : Standing) (row : Record) where
  one-junction : (j : ℕ) (upper : GridJunction) (l m : ReportLine) → IsJunctionLineOver project pair row j upper l
      → IsJunctionLineOver project pair row j upper m → l ≡ m
  one-junction j upper l m x y =
      let lower : y.lower ≡ x.lower = (let p = x.lower_is in let q = y.lower_is in cc) in
      let heads : y.heads ≡ x.heads = y.heads_are ∙ sym x.heads_are in
      let head = one_print (head_quantity (is_us project)) x.heads x.head y.head x.head_is
      (subst (λ (h : Interval). Prints (head_quantity (is_us project)) h y.head) heads y.head_is) in
      let pressure = one_print (pressure_quantity (is_us project)) _ x.pressure y.pressure x.pressure_is
      (subst (λ (h : Interval). Prints (pressure_quantity (is_us project)) (record {
        lo = h.lo -ℤ upper.elevation;
        hi = h.hi -ℤ upper.elevation;
      }) y.pressure) heads y.pressure_is) in
      let outflow = one_print (flow_quantity project.options.unit) _ x.outflow y.outflow x.outflow_is
      (subst (λ (g : GridJunction). Prints (flow_quantity project.options.unit)
      (outflow_over upper g x.heads.lo x.heads.hi) y.outflow) lower
      (subst (λ (h : Interval). Prints (flow_quantity project.options.unit) (outflow_over upper y.lower h.lo h.hi)
      y.outflow) heads y.outflow_is)) in
      let same : JunctionLine j x.head x.pressure x.outflow ≡ JunctionLine j y.head y.pressure y.outflow =
      λ i. JunctionLine j (head i) (pressure i) (outflow i) in
      x.is_line ∙ (same ∙ sym y.is_line)

  one-reservoir : (r : ℕ) (greatest : ℤ) (l m : ReportLine) → IsReservoirLineOver project pair r greatest l
      → IsReservoirLineOver project pair r greatest m → l ≡ m
  one-reservoir r greatest l m x y =
      let least : y.least ≡ x.least = (let p = x.least_is in let q = y.least_is in cc) in
      let head = one_print (head_quantity (is_us project)) _ x.head y.head x.head_is
      (subst (λ (z : ℤ). Prints (head_quantity (is_us project)) (record { lo = z; hi = greatest }) y.head) least
      y.head_is) in
      x.is_line ∙ (ap (ReservoirLine r) head ∙ sym y.is_line)

  one-state : (ls ms : List ReportLine) → AreStateLinesOver project pair standing row ls
      → AreStateLinesOver project pair standing row ms → ls ≡ ms
  one-state ls ms x y =
      let junctions = one_each GridJunction (IsJunctionLineOver project pair row) 0 pair.upper.junctions x.junctions
      y.junctions one-junction x.junctions_are y.junctions_are in
      let reservoirs = one_each ℤ (IsReservoirLineOver project pair) 0 pair.upper.reservoirs x.reservoirs y.reservoirs
      one-reservoir x.reservoirs_are y.reservoirs_are in
      let tanks = one_each Tank (IsTankLine project (spanned pair) standing (spanning pair row)) 0 project.tanks.list
      x.tanks y.tanks (one_tank project (spanned pair) standing (spanning pair row)) x.tanks_are y.tanks_are in
      let links = one_each Link (IsLinkLine project (spanned pair) standing (spanning pair row)) 0 project.links.list
      x.links y.links (one_link project (spanned pair) standing (spanning pair row)) x.links_are y.links_are in
      let lines = λ (a b c d : List ReportLine). TimeLine standing.time ∷ (a ++ (b ++ (c ++ d))) in
      let same : lines x.junctions x.reservoirs x.tanks x.links ≡ lines y.junctions y.reservoirs y.tanks y.links =
      λ i. lines (junctions i) (reservoirs i) (tanks i) (links i) in
      x.lines_are ∙ (same ∙ sym y.lines_are)

-- ---- the report

module _ (project : Project) (pair : Pair) (standing : OpenStanding) (found : OpenRecord) where
  by-time : (reported : Bool) (s t : List ReportLine)
      → MatchBool reported (AreStateLinesOver project pair standing.known found.row s) (s ≡ [])
      → MatchBool reported (AreStateLinesOver project pair standing.known found.row t) (t ≡ []) → s ≡ t
  by-time true s t x y = one-state project pair standing.known found.row s t x y
  by-time false s t x y = x ∙ sym y

  pub one_spread_report : (ls ms : List OpenLine) → IsSpreadReport project pair standing found ls
      → IsSpreadReport project pair standing found ms → ls ≡ ms
  one_spread_report ls ms x y =
      let state = by-time (tells_state project standing) x.state y.state x.state_are y.state_are in
      let ends = one-end-lines project (spanned pair) standing (spanning_openly pair found) x.at_end y.at_end
      x.at_end_are y.at_end_are in
      let lines = λ (s : List ReportLine) (e : List OpenLine). open_control_lines project standing
      ++ (map known_line s ++ e) in
      let same : lines x.state x.at_end ≡ lines y.state y.at_end = λ i. lines (state i) (ends i) in
      x.lines_are ∙ (same ∙ sym y.lines_are)
