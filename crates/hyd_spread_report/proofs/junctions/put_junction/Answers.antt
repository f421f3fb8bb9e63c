-- The line of the junction that is there in both grids.
use Rattle.std.proofs.Common.{◌≡◌, ◌<◌, ℕ, List, length, Some, to_z-of_z, FitsSigned, w64, rules, arith}
use Rattle.std.specs.Prelude.{slice_get}
use Rattle.hyd_spec_certificates.specs.PeriodNetwork.{GridJunction}
use Rattle.hyd_spec_spread_runs.specs.OutermostPairs.{outflow_over}
use Rattle.hyd_period_network.specs.NetAsPeriodNetwork.{grid_of}
use Rattle.hyd_bounds.specs.VectorsInOrder.{IsSpan}
use Rattle.hyd_spread_bounds.proofs.HeadsOfBothSides.{junctions-alike}
use Rattle.hyd_io.specs.TextPutIn.{Puts}
use Rattle.hyd_spread_report.proofs.LinesOfBothSides.{junction_put}
use Rattle.hyd_spread_report.proofs.junctions.put_junction.Goals as goal

pub returns : goal.returns
returns g c =
    let upper = c.args.upper.now in
    let lower = c.args.lower.now in
    let low_fits : FitsSigned w64 c.args.low.now = search rules in
    let high_fits : FitsSigned w64 c.args.high.now = search rules in
    let elevation_fits : FitsSigned w64 c.elevation.result = record { sfits = c.elevation.type_inv } in
    let within : c.args.junction < length (grid_of lower).junctions = omega (
      arith,
      c.requires.in_range,
      c.junctions-junctions.ensures.each,
      junctions-alike upper lower c.requires.pair,
    ) in
    let boxes : (above below : GridJunction) → slice_get (grid_of upper).junctions c.args.junction ≡ Some above
    → slice_get (grid_of lower).junctions c.args.junction ≡ Some below
    → IsSpan c.out_box-outflow.result (outflow_over above below c.args.low.now c.args.high.now) =
    simp to_z-of_z at c.out_box-outflow.ensures.outflow in
    junction_put (grid_of upper).junctions (grid_of lower).junctions c.args.project.now
    (λ (text : List ℕ). Puts g.D.Desk.files g.D.Desk.rest g.D.Desk.written g.D.Desk.printed g.D.Desk.target
    g.D.Desk.ready g.D.Desk.counts g.D.Desk.openings
    text c.put_junction_line.result c.args.pen.now c.put_junction_line.new.pen c.args.desk.now
    c.put_junction_line.new.desk)
    c.args.junction c.args.low.now c.args.high.now c.elevation.result c.out_box-outflow.result within boxes
    c.elevation.ensures.value (simp to_z-of_z at c.put_junction_line.ensures)
