-- The line of the tank that is there.
use Rattle.std.proofs.Common.{ℕ, List, to_z-of_z, FitsSigned, w64}
use Rattle.std.specs.Prelude.{slice_get}
use Rattle.hyd_spec_certificates.specs.SpansAsIntervals.{levels_of, flows_of}
use Rattle.hyd_spec_certificates.specs.Interval.{shifted}
use Rattle.hyd_io.specs.TextPutIn.{Puts}
use Rattle.hyd_report.specs.PrintedIntervals.{printed, quantity_in, ArePrinted}
use Rattle.hyd_report.specs.declared.printed_intervals.Quantity.TheVariants.{Head}
use Rattle.hyd_report.proofs.LineLemmas.{tank_put}
use Rattle.hyd_report.proofs.tanks.put_tank.Goals as goal

pub returns : goal.returns
returns g c =
    let fits : FitsSigned w64 c.bottom_of.result = record { sfits = c.bottom_of.type_inv } in
    let head : ArePrinted (printed (quantity_in c.args.project.now Head) (shifted c.bottom_of.result
    (levels_of c.args.levels.now))) c.print_tank_heads-head.result =
    simp to_z-of_z at c.print_tank_heads-head.ensures in
    tank_put (slice_get c.args.project.now.tanks.list c.args.tank) c.args.project.now
    (λ (text : List ℕ). Puts g.D.Desk.files g.D.Desk.rest g.D.Desk.written g.D.Desk.printed g.D.Desk.target
    g.D.Desk.ready g.D.Desk.counts g.D.Desk.openings
    text c.put_parts.result c.args.pen.now c.put_parts.new.pen c.args.desk.now c.put_parts.new.desk)
    c.args.tank (levels_of c.args.levels.now) (flows_of c.args.inflow.now) c.args.state.now c.bottom_of.result _ _ _
    c.bottom_of.ensures head c.print_levels-level.ensures c.print_flows-inflow.ensures c.put_parts.ensures
