-- The lines of a report time that the program makes of both grids are those of the period.
use Rattle.std.proofs.Common.{◌≡◌, ℕ, ℤ, pos, List, ◌∷◌, ◌++◌, length, Some, refl, ap, arith}
use Rattle.std.specs.Prelude.{slice_get, slice_index_or}
use Rattle.std.proofs.lemmas.Option.{slice_get_within, slice_get-get_or}
use Rattle.hyd_num.specs.PrintedDecimals.{head_quantity, pressure_quantity, flow_quantity}
use Rattle.hyd_spec.specs.ProgramTypes.{Project, LinkState}
use Rattle.hyd_spec.specs.Lists.{map_from}
use Rattle.hyd_spec.specs.DemandsHeadsAndPumpLifts.{is_us}
use Rattle.hyd_spec.specs.Assignment.{head_at}
use Rattle.hyd_spec_certificates.specs.declared.Event.{Event}
use Rattle.hyd_spec_certificates.specs.PeriodNetwork.{GridJunction}
use Rattle.hyd_spec_certificates.specs.Decided.{heads_below, heads_above}
use Rattle.hyd_spec_reports.specs.ReportLine.{TimeLine}
use Rattle.hyd_spec_reports.specs.Report.{IsTankLine, IsLinkLine}
use Rattle.hyd_spec_open_ends.specs.OpenStandings.{OpenStanding, OpenRecord}
use Rattle.hyd_spec_spread_runs.specs.OutermostPairs.{Pair, spanned, spanning}
use Rattle.hyd_spec_open_spreads.specs.OpenRunsForSpreads.{spanning_openly}
use Rattle.hyd_spec_spread_reports.specs.SpreadReport.{IsJunctionLineOver, IsReservoirLineOver, AreStateLinesOver}
use Rattle.hyd_period_facts.specs.declared.facts.Facts.{Facts}
use Rattle.hyd_open_facts.specs.FactsOfOpenPeriod.{AreOpenFacts}
use Rattle.hyd_report.specs.NodeAndLinkLines.{tank_line, link_line}
use Rattle.hyd_report.specs.PeriodLines.{AreTankFacts}
use Rattle.hyd_open_report.proofs.OpenStateLines.{prints, every_line, tank_here, link_here}
use Rattle.hyd_spread_report.specs.LinesOverBothSides.{junction_line_over, reservoir_line_over, tank_lines_by}
use Rattle.hyd_spread_report.specs.LinesOverBothSides.{link_lines_over, state_lines_over}
use Rattle.hyd_lemmas.proofs.DenominatorsAboveZero.{flow_above, head_above, pressure_above}

module _ (project : Project) (pair : Pair) (states : List LinkState) (standing : OpenStanding) (found : OpenRecord)
    (first late : ℕ) (events : List Event) (facts : Facts)
    (are : AreOpenFacts project (spanned pair) standing (spanning_openly pair found) first late events facts)
    (tanks : AreTankFacts project facts) (same : states ≡ facts.links.list)
    (each : length pair.upper.links ≡ length project.links.list)
    (alike : length pair.lower.junctions ≡ length pair.upper.junctions)
    (as_many : length pair.lower.reservoirs ≡ length pair.upper.reservoirs) where
  junction : (j : ℕ) (here : GridJunction) → slice_get pair.upper.junctions j ≡ Some here
      → IsJunctionLineOver project pair found.row j here
      (junction_line_over project pair found.row.main.lower found.row.main.upper j here)
  junction j here at =
      let within = slice_get_within pair.upper.junctions j here at in
      record {
        lower = slice_index_or pair.lower.junctions j here;
        lower_is = slice_get-get_or pair.lower.junctions j here (omega (arith, within, alike));
        heads = record { lo = head_at found.row.main.lower j; hi = head_at found.row.main.upper j };
        heads_are = refl;
        head = _;
        pressure = _;
        outflow = _;
        is_line = refl;
        head_is = prints (head_quantity (is_us project)) (head_above (is_us project)) _;
        pressure_is = prints (pressure_quantity (is_us project)) (pressure_above (is_us project)) _;
        outflow_is = prints (flow_quantity project.options.unit) (flow_above project.options.unit) _;
      }

  reservoir : (r : ℕ) (greatest : ℤ) → slice_get pair.upper.reservoirs r ≡ Some greatest
      → IsReservoirLineOver project pair r greatest (reservoir_line_over project pair r greatest)
  reservoir r greatest at =
      let within = slice_get_within pair.upper.reservoirs r greatest at in
      record {
        least = head_at pair.lower.reservoirs r;
        least_is = slice_get-get_or pair.lower.reservoirs r (pos 0) (omega (arith, within, as_many));
        head = _;
        is_line = refl;
        head_is = prints (head_quantity (is_us project)) (head_above (is_us project)) _;
      }

  pub state_are : AreStateLinesOver project pair standing.known found.row
      (state_lines_over project pair states found.row facts)
  state_are = record {
    junctions = map_from (junction_line_over project pair found.row.main.lower found.row.main.upper) 0
        pair.upper.junctions;
    reservoirs = map_from (reservoir_line_over project pair) 0 pair.upper.reservoirs;
    tanks = tank_lines_by project facts;
    links = link_lines_over project pair states found.row;
    junctions_are = every_line (IsJunctionLineOver project pair found.row)
        (junction_line_over project pair found.row.main.lower found.row.main.upper) pair.upper.junctions junction;
    reservoirs_are = every_line (IsReservoirLineOver project pair) (reservoir_line_over project pair)
        pair.upper.reservoirs reservoir;
    tanks_are = every_line (IsTankLine project (spanned pair) standing.known (spanning pair found.row))
        (tank_line project facts.levels.list facts.inflows.list facts.tanks.list) project.tanks.list
        (tank_here project (spanned pair) states standing (spanning_openly pair found) first late events facts are
        tanks same each);
    links_are = every_line (IsLinkLine project (spanned pair) standing.known (spanning pair found.row))
        (link_line project (spanned pair) (heads_below (spanned pair) (spanning pair found.row))
        (heads_above (spanned pair) (spanning pair found.row)) states) project.links.list
        (link_here project (spanned pair) states standing (spanning_openly pair found) first late events facts are
        tanks same each);
    lines_are = ap (λ (t : ℕ). TimeLine t
        ∷ (map_from (junction_line_over project pair found.row.main.lower found.row.main.upper) 0 pair.upper.junctions
        ++ (map_from (reservoir_line_over project pair) 0 pair.upper.reservoirs
        ++ (tank_lines_by project facts ++ link_lines_over project pair states found.row)))) are.time;
  }
