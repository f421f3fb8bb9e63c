-- The report of a period of a run for a spread: which lines it has and what numbers stand in them. Each interval holds
-- what the data within the spread leave open: from the lower end that one outermost grid gives to the upper end that
-- the other gives.
-- Source: this program's format.
use Rattle.std.specs.Prelude.{◌≡◌, ℕ, ℤ, ◌-ℤ◌, List, [], ◌∷◌, ◌++◌, map, Some, slice_get, MatchBool}
use Rattle.hyd_num.specs.PrintedDecimals.{head_quantity, pressure_quantity, flow_quantity}
use Rattle.hyd_spec.specs.ProgramTypes.{Project}
use Rattle.hyd_spec.specs.DemandsHeadsAndPumpLifts.{is_us}
use Rattle.hyd_spec.specs.Assignment.{head_at}
use Rattle.hyd_spec_certificates.specs.Interval.{Interval}
use Rattle.hyd_spec_certificates.specs.PeriodNetwork.{GridJunction}
use Rattle.hyd_spec_certificates.specs.PrintedIntervals.{Prints}
use Rattle.hyd_spec_certificates.specs.RecordAndStanding.{Record, Standing}
use Rattle.hyd_spec_reports.specs.ReportLine.{ReportLine, TimeLine, JunctionLine, ReservoirLine}
use Rattle.hyd_spec_reports.specs.Report.{LineEach, IsTankLine, IsLinkLine}
use Rattle.hyd_spec_open_ends.specs.OpenStandings.{OpenStanding, OpenRecord}
use Rattle.hyd_spec_open_reports.specs.OpenReportLine.{OpenLine, known_line}
use Rattle.hyd_spec_open_reports.specs.OpenReport.{open_control_lines, tells_state, AreOpenEndLines}
use Rattle.hyd_spec_spread_runs.specs.OutermostPairs.{Pair, spanned, spanning, outflow_over}
use Rattle.hyd_spec_open_spreads.specs.OpenRunsForSpreads.{spanning_openly}

-- ---- nodes and links at a report time

-- The line of junction number j, which has one place in each grid: its head by the record, its pressure above the
-- elevation, and its outflow from the least one of the UPPER grid to the greatest one of the LOWER grid.
pub record IsJunctionLineOver (project : Project) (pair : Pair) (row : Record) (j : ℕ) (upper : GridJunction)
    (each : ReportLine) : Type 0 where
  pub lower : GridJunction
  pub lower_is : slice_get pair.lower.junctions j ≡ Some lower
  pub heads : Interval
  pub heads_are : heads ≡ record { lo = head_at row.main.lower j; hi = head_at row.main.upper j }
  pub head : Interval
  pub pressure : Interval
  pub outflow : Interval
  pub is_line : each ≡ JunctionLine j head pressure outflow
  pub head_is : Prints (head_quantity (is_us project)) heads head
  pub pressure_is : Prints (pressure_quantity (is_us project))
      (record { lo = heads.lo -ℤ upper.elevation; hi = heads.hi -ℤ upper.elevation }) pressure
  pub outflow_is : Prints (flow_quantity project.options.unit) (outflow_over upper lower heads.lo heads.hi) outflow

-- The line of reservoir number r: its head from that in the LOWER grid to that in the UPPER one.
pub record IsReservoirLineOver (project : Project) (pair : Pair) (r : ℕ) (greatest : ℤ) (each : ReportLine) : Type 0
  where
    pub least : ℤ
    pub least_is : slice_get pair.lower.reservoirs r ≡ Some least
    pub head : Interval
    pub is_line : each ≡ ReservoirLine r head
    pub head_is : Prints (head_quantity (is_us project)) (record { lo = least; hi = greatest }) head

-- The lines of a report time: the time, junctions, reservoirs, tanks and links in order. Those of tanks and links are
-- what the words for a single grid say of both grids.
pub record AreStateLinesOver (project : Project) (pair : Pair) (standing : Standing) (row : Record)
    (lines : List ReportLine) : Type 0 where
  pub junctions : List ReportLine
  pub reservoirs : List ReportLine
  pub tanks : List ReportLine
  pub links : List ReportLine
  pub junctions_are : LineEach (IsJunctionLineOver project pair row) 0 pair.upper.junctions junctions
  pub reservoirs_are : LineEach (IsReservoirLineOver project pair) 0 pair.upper.reservoirs reservoirs
  pub tanks_are : LineEach (IsTankLine project (spanned pair) standing (spanning pair row)) 0 project.tanks.list tanks
  pub links_are : LineEach (IsLinkLine project (spanned pair) standing (spanning pair row)) 0 project.links.list links
  pub lines_are : lines ≡ TimeLine standing.time ∷ (junctions ++ (reservoirs ++ (tanks ++ links)))

-- ---- a period's lines

-- The lines of a period: changes by controls, the state where it is a report time, then what its end brings by what
-- both grids leave open.
pub record IsSpreadReport (project : Project) (pair : Pair) (standing : OpenStanding) (found : OpenRecord)
    (lines : List OpenLine) : Type 0 where
  pub state : List ReportLine
  pub state_are : MatchBool (tells_state project standing)
      (AreStateLinesOver project pair standing.known found.row state) (state ≡ [])
  pub at_end : List OpenLine
  pub at_end_are : AreOpenEndLines project (spanned pair) standing (spanning_openly pair found) at_end
  pub lines_are : lines ≡ open_control_lines project standing ++ (map known_line state ++ at_end)
