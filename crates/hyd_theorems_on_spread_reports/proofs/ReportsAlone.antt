-- With the grid of the network on both sides a record has the report that it has without a spread.
use Rattle.std.proofs.Common.{◌≡◌, ℕ, suc, ◌+◌, ℤ, Bool, true, false, MatchBool, List, [], ◌∷◌, ◌++◌, refl, sym, subst}
use Rattle.std.proofs.Common.{◌∙◌, arith, map}
use Rattle.std.specs.Prelude.{Option, Some, slice_get}
use Rattle.hyd_num.specs.PrintedDecimals.{head_quantity, flow_quantity}
use Rattle.hyd_spec.specs.ProgramTypes.{Project, Tank, Link}
use Rattle.hyd_spec.specs.declared.Change.{Change}
use Rattle.hyd_spec.specs.DemandsHeadsAndPumpLifts.{is_us}
use Rattle.hyd_spec.specs.Lists.{map_from, present}
use Rattle.hyd_spec.specs.Rules.{state_of_link}
use Rattle.hyd_spec.specs.Tank.{walls_of}
use Rattle.hyd_spec_certificates.specs.declared.Event.{Event}
use Rattle.hyd_spec_certificates.specs.EndsOfPeriods.{tank_events, control_event}
use Rattle.hyd_spec_certificates.specs.FlowIntervals.{difference}
use Rattle.hyd_spec_certificates.specs.Interval.{Interval}
use Rattle.hyd_spec_certificates.specs.PeriodNetwork.{Grid, GridJunction, GridLink}
use Rattle.hyd_spec_certificates.specs.PrintedIntervals.{Prints}
use Rattle.hyd_spec_certificates.specs.RecordAndStanding.{Record}
use Rattle.hyd_spec_certificates.specs.Decided.{Watch, stocks_of_tank, links_at}
use Rattle.hyd_spec_certificates.specs.StatusesOfLinks.{status_of}
use Rattle.hyd_spec_open_ends.specs.OpenStandings.{OpenStanding, OpenRecord}
use Rattle.hyd_spec_open_ends.specs.StocksOverLengths.{carried_at_end}
use Rattle.hyd_spec_open_ends.specs.OpenEnds.{Way, ByRules, ByInstant, ByWatched}
use Rattle.hyd_spec_open_ends.specs.Arrivals.{arrival_of}
use Rattle.hyd_spec_open_reports.specs.OpenReportLine.{OpenLine}
use Rattle.hyd_spec_open_reports.specs.OpenReport.{tells_state, all_carried_left, events_left, changes_left}
use Rattle.hyd_spec_open_reports.specs.OpenReport.{line_at_end, AreOpenEndLines, at_last, at_end, IsOpenReport}
use Rattle.hyd_spec_reports.specs.Report.{LineEach, IsJunctionLine, IsReservoirLine, IsTankLine, IsLinkLine}
use Rattle.hyd_spec_reports.specs.Report.{AreStateLines, event_line, change_line}
use Rattle.hyd_spec_reports.specs.ReportLine.{ReportLine, LinkLine}
use Rattle.hyd_spec_spread_reports.specs.SpreadReport.{IsJunctionLineOver, IsReservoirLineOver, AreStateLinesOver}
use Rattle.hyd_spec_spread_reports.specs.SpreadReport.{IsSpreadReport}
use Rattle.hyd_spec_spread_runs.specs.OutermostPairs.{spanned, spanning, outflow_over}
use Rattle.hyd_lemmas.proofs.ListsOptionsAndResults.{same_item}
use Rattle.hyd_theorems_on_spread_runs.proofs.RunsAlone.{both, boxes-alone}
use Rattle.hyd_theorems_on_spread_runs.proofs.SameBoxes.{SameBoxes, turned}
use Rattle.hyd_theorems_on_open_spreads.proofs.SameBoxesOpenly.{inflow-same, changes-same, way-same, arrives-same}

-- ---- lists of lines

each-from : (X : Type 0) (P Q : ℕ → X → ReportLine → Type 0) (from : ℕ) (xs : List X) (ls : List ReportLine)
    → ((k : ℕ) (x : X) (l : ReportLine) → slice_get xs k ≡ Some x → P (from + k) x l → Q (from + k) x l)
    → LineEach P from xs ls → LineEach Q from xs ls
each-from X P Q from [] [] to each = tt
each-from X P Q from [] (l ∷ ls) to each = absurd each
each-from X P Q from (x ∷ xs) [] to each = absurd each
each-from X P Q from (x ∷ xs) (l ∷ ls) to each =
    let n : from + 0 ≡ from = omega arith in (
      subst (λ m. Q m x l) n (to 0 x l refl (subst (λ m. P m x l) (sym n) each.0)),
      each-from X P Q (suc from) xs ls (λ k y told at is.
          let m : from + suc k ≡ suc from + k = omega arith in
          subst (λ p. Q p y told) m (to (suc k) y told at (subst (λ p. P p y told) (sym m) is))) each.1,
    )

-- what is told of each item one way is told the other way
each-to : (X : Type 0) (P Q : ℕ → X → ReportLine → Type 0) (xs : List X) (ls : List ReportLine)
    → ((k : ℕ) (x : X) (l : ReportLine) → slice_get xs k ≡ Some x → P k x l → Q k x l)
    → LineEach P 0 xs ls → LineEach Q 0 xs ls
each-to X P Q xs ls to each =
    each-from X P Q 0 xs ls (λ k x l at is.
    let n : k ≡ 0 + k = omega arith in subst (λ m. Q m x l) n (to k x l at (subst (λ m. P m x l) (sym n) is))) each

where-told : (b : Bool) (A B C : Type 0) → (A → B) → MatchBool b A C → MatchBool b B C
where-told true A B C to a = to a
where-told false A B C to c = c

-- ---- the same boxes

module _ (project : Project) (standing : OpenStanding) (g h : Grid) (r q : Record) (same : SameBoxes project g h r q)
  where
    tank-to : (k : ℕ) (tank : Tank) (each : ReportLine) → slice_get project.tanks.list k ≡ Some tank
        → IsTankLine project g standing.known r k tank each → IsTankLine project h standing.known q k tank each
    tank-to k tank each at line = record {
      head = line.head;
      level = line.level;
      inflow = line.inflow;
      state = line.state;
      is_line = line.is_line;
      head_is = line.head_is;
      level_is = line.level_is;
      inflow_is = subst (λ (x : Interval). Prints (flow_quantity project.options.unit) x line.inflow)
          (inflow-same project standing g h r q same k) line.inflow_is;
      state_is = line.state_is;
    }

    link-to : g.links ≡ h.links → (l : ℕ) (link : Link) (each : ReportLine)
        → slice_get project.links.list l ≡ Some link → IsLinkLine project g standing.known r l link each
        → IsLinkLine project h standing.known q l link each
    link-to links l link each at line = record {
      place = line.place;
      place_is = subst (λ (ls : List GridLink). slice_get ls l ≡ Some line.place) links line.place_is;
      box = line.box;
      box_is = subst (λ (bs : List Interval). slice_get bs l ≡ Some line.box) same.flows line.box_is;
      flow = line.flow;
      flow_is = line.flow_is;
      is_line = line.is_line ∙ (λ i. LinkLine l line.flow (status_of (is_us project) project.bends.list link.kind
          (state_of_link (links_at project standing.known) l)
          (difference line.place (same.below i) (same.above i))));
    }

    -- ---- the end

    changes-left-same : (way : Way) → changes_left project g standing r way ≡ changes_left project h standing q way
    changes-left-same (ByRules seconds) = changes-same project standing g h r q same seconds
    changes-left-same (ByInstant seconds) = refl
    changes-left-same (ByWatched earliest latest) = refl

    module _ (late shortest : ℕ) where
      abbrev with-row : Record → OpenRecord
      with-row row = record { row = row; late = late; shortest = shortest }

      events-same : (reached : Option Watch) → events_left project g standing.known (with-row r) reached
          ≡ events_left project h standing.known (with-row q) reached
      events-same reached =
          let carried : all_carried_left project g standing.known (with-row r) reached
          ≡ all_carried_left project h standing.known (with-row q) reached =
          λ i. map_from (λ k (tank : Tank). carried_at_end (walls_of project tank) tank
          (stocks_of_tank standing.known k) (inflow-same project standing g h r q same k i) shortest
          (same.length_is i) (arrival_of shortest reached k)) 0 project.tanks.list in
          λ i. tank_events 0 project.tanks.list standing.known.tanks (carried i)
          ++ present (map_from (control_event standing.known.levels (carried i)) 0 project.controls.list)

      abbrev lines-of : List Event → List Change → Way → List OpenLine
      lines-of events changes way =
          map (λ event. line_at_end standing way (λ time. event_line time event)) events
          ++ map (λ change. line_at_end standing way (λ time. change_line time change)) changes

      end-to : (lines : List OpenLine) → AreOpenEndLines project g standing (with-row r) lines
          → AreOpenEndLines project h standing (with-row q) lines
      end-to _ (at_last last) = at_last last
      end-to _ (at_end way reached ends arrives) =
          let events = events-same reached in
          let changes = changes-left-same way in
          let told : lines-of (events_left project g standing.known (with-row r) reached)
          (changes_left project g standing r way) way
          ≡ lines-of (events_left project h standing.known (with-row q) reached)
          (changes_left project h standing q way) way = λ i. lines-of (events i) (changes i) way in
          subst (AreOpenEndLines project h standing (with-row q)) (sym told)
          (at_end way reached (way-same project standing g h r q same way ends)
          (arrives-same project standing g h r q same way reached arrives))

-- ---- junctions and reservoirs

module _ (project : Project) (grid : Grid) (row : Record) where
  junction-alone : (j : ℕ) (upper : GridJunction) (each : ReportLine) → slice_get grid.junctions j ≡ Some upper
      → IsJunctionLineOver project (both grid) row j upper each → IsJunctionLine project grid row j upper each
  junction-alone j upper each at line =
      let lower : line.lower ≡ upper = same_item GridJunction line.lower upper (sym line.lower_is ∙ at) in
      let outflow = subst (λ (g : GridJunction). Prints (flow_quantity project.options.unit)
      (outflow_over upper g line.heads.lo line.heads.hi) line.outflow) lower line.outflow_is in
      record {
        heads = line.heads;
        heads_are = line.heads_are;
        head = line.head;
        pressure = line.pressure;
        outflow = line.outflow;
        is_line = line.is_line;
        head_is = line.head_is;
        pressure_is = line.pressure_is;
        outflow_is = record { down = outflow.down; up = outflow.up };
      }

  junction-over : (j : ℕ) (upper : GridJunction) (each : ReportLine) → slice_get grid.junctions j ≡ Some upper
      → IsJunctionLine project grid row j upper each → IsJunctionLineOver project (both grid) row j upper each
  junction-over j upper each at line = record {
    lower = upper;
    lower_is = at;
    heads = line.heads;
    heads_are = line.heads_are;
    head = line.head;
    pressure = line.pressure;
    outflow = line.outflow;
    is_line = line.is_line;
    head_is = line.head_is;
    pressure_is = line.pressure_is;
    outflow_is = record { down = line.outflow_is.down; up = line.outflow_is.up };
  }

  reservoir-alone : (r : ℕ) (height : ℤ) (each : ReportLine) → slice_get grid.reservoirs r ≡ Some height
      → IsReservoirLineOver project (both grid) r height each → IsReservoirLine project r height each
  reservoir-alone r height each at line =
      let least : line.least ≡ height = same_item ℤ line.least height (sym line.least_is ∙ at) in
      record {
        head = line.head;
        is_line = line.is_line;
        head_is = subst (λ (z : ℤ). Prints (head_quantity (is_us project)) (record { lo = z; hi = height }) line.head)
            least line.head_is;
      }

  reservoir-over : (r : ℕ) (height : ℤ) (each : ReportLine) → slice_get grid.reservoirs r ≡ Some height
      → IsReservoirLine project r height each → IsReservoirLineOver project (both grid) r height each
  reservoir-over r height each at line = record {
    least = height;
    least_is = at;
    head = line.head;
    is_line = line.is_line;
    head_is = line.head_is;
  }

-- ---- the report

module _ (project : Project) (grid : Grid) (standing : OpenStanding) (found : OpenRecord) where
  abbrev there : SameBoxes project (spanned (both grid)) grid (spanning (both grid) found.row) found.row
  there = boxes-alone project grid found.row

  abbrev back : SameBoxes project grid (spanned (both grid)) found.row (spanning (both grid) found.row)
  back = turned project (spanned (both grid)) grid (spanning (both grid) found.row) found.row there

  state-alone : (state : List ReportLine) → AreStateLinesOver project (both grid) standing.known found.row state
      → AreStateLines project grid standing.known found.row state
  state-alone state are = record {
    junctions = are.junctions;
    reservoirs = are.reservoirs;
    tanks = are.tanks;
    links = are.links;
    junctions_are = each-to GridJunction (IsJunctionLineOver project (both grid) found.row)
        (IsJunctionLine project grid found.row) grid.junctions are.junctions (junction-alone project grid found.row)
        are.junctions_are;
    reservoirs_are = each-to ℤ (IsReservoirLineOver project (both grid)) (IsReservoirLine project) grid.reservoirs
        are.reservoirs (reservoir-alone project grid found.row) are.reservoirs_are;
    tanks_are = each-to Tank
        (IsTankLine project (spanned (both grid)) standing.known (spanning (both grid) found.row))
        (IsTankLine project grid standing.known found.row) project.tanks.list are.tanks
        (tank-to project standing (spanned (both grid)) grid (spanning (both grid) found.row) found.row there)
        are.tanks_are;
    links_are = each-to Link
        (IsLinkLine project (spanned (both grid)) standing.known (spanning (both grid) found.row))
        (IsLinkLine project grid standing.known found.row) project.links.list are.links
        (link-to project standing (spanned (both grid)) grid (spanning (both grid) found.row) found.row there refl)
        are.links_are;
    lines_are = are.lines_are;
  }

  state-over : (state : List ReportLine) → AreStateLines project grid standing.known found.row state
      → AreStateLinesOver project (both grid) standing.known found.row state
  state-over state are = record {
    junctions = are.junctions;
    reservoirs = are.reservoirs;
    tanks = are.tanks;
    links = are.links;
    junctions_are = each-to GridJunction (IsJunctionLine project grid found.row)
        (IsJunctionLineOver project (both grid) found.row) grid.junctions are.junctions
        (junction-over project grid found.row) are.junctions_are;
    reservoirs_are = each-to ℤ (IsReservoirLine project) (IsReservoirLineOver project (both grid)) grid.reservoirs
        are.reservoirs (reservoir-over project grid found.row) are.reservoirs_are;
    tanks_are = each-to Tank (IsTankLine project grid standing.known found.row)
        (IsTankLine project (spanned (both grid)) standing.known (spanning (both grid) found.row)) project.tanks.list
        are.tanks
        (tank-to project standing grid (spanned (both grid)) found.row (spanning (both grid) found.row) back)
        are.tanks_are;
    links_are = each-to Link (IsLinkLine project grid standing.known found.row)
        (IsLinkLine project (spanned (both grid)) standing.known (spanning (both grid) found.row)) project.links.list
        are.links
        (link-to project standing grid (spanned (both grid)) found.row (spanning (both grid) found.row) back refl)
        are.links_are;
    lines_are = are.lines_are;
  }

  pub report_alone : (lines : List OpenLine) → IsSpreadReport project (both grid) standing found lines
      → IsOpenReport project grid standing found lines
  report_alone lines report = record {
    state = report.state;
    state_are = where-told (tells_state project standing)
        (AreStateLinesOver project (both grid) standing.known found.row report.state)
        (AreStateLines project grid standing.known found.row report.state) (report.state ≡ [])
        (state-alone report.state) report.state_are;
    at_end = report.at_end;
    at_end_are = end-to project standing (spanned (both grid)) grid (spanning (both grid) found.row) found.row there
        found.late found.shortest report.at_end report.at_end_are;
    lines_are = report.lines_are;
  }

  pub report_over : (lines : List OpenLine) → IsOpenReport project grid standing found lines
      → IsSpreadReport project (both grid) standing found lines
  report_over lines report = record {
    state = report.state;
    state_are = where-told (tells_state project standing)
        (AreStateLines project grid standing.known found.row report.state)
        (AreStateLinesOver project (both grid) standing.known found.row report.state) (report.state ≡ [])
        (state-over report.state) report.state_are;
    at_end = report.at_end;
    at_end_are = end-to project standing grid (spanned (both grid)) found.row (spanning (both grid) found.row) back
        found.late found.shortest report.at_end report.at_end_are;
    lines_are = report.lines_are;
  }
