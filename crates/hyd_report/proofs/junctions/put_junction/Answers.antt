-- The line of the junction that is there.
use Rattle.std.proofs.Common.{List, ℕ, to_z-of_z, FitsSigned, w64, rules}
use Rattle.std.specs.Prelude.{slice_get, IfSome}
use Rattle.hyd_period_network.specs.NetAsPeriodNetwork.{grid_of}
use Rattle.hyd_bounds.specs.VectorsInOrder.{IsSpan}
use Rattle.hyd_spec_certificates.specs.FlowIntervals.{out_box}
use Rattle.hyd_io.specs.TextPutIn.{Puts}
use Rattle.hyd_report.proofs.LineLemmas.{junction_put}
use Rattle.hyd_report.proofs.junctions.put_junction.Goals as goal

pub returns : goal.returns
returns g c =
    let lower_fits : FitsSigned w64 c.args.lower.now = search rules in
    let upper_fits : FitsSigned w64 c.args.upper.now = search rules in
    let elevation_fits : FitsSigned w64 c.elevation.result = record { sfits = c.elevation.type_inv } in
    let project = c.args.project.now in
    let box : IfSome (slice_get (grid_of c.args.net.now).junctions c.args.junction) (λ j. IsSpan c.out_box-flow.result
    (out_box j c.args.lower.now c.args.upper.now)) =
    simp to_z-of_z at c.out_box-flow.ensures.outflow in
    junction_put (slice_get (grid_of c.args.net.now).junctions c.args.junction) project
    (λ (text : List ℕ). Puts g.D.Desk.files g.D.Desk.rest g.D.Desk.written g.D.Desk.printed g.D.Desk.target
    g.D.Desk.ready g.D.Desk.counts g.D.Desk.openings
    text c.put_junction_line.result c.args.pen.now c.put_junction_line.new.pen c.args.desk.now
    c.put_junction_line.new.desk)
    c.args.junction c.args.lower.now c.args.upper.now c.elevation.result c.out_box-flow.result box
    c.elevation.ensures.value (simp to_z-of_z at c.put_junction_line.ensures)
