-- The heads of both nets.
use Rattle.std.proofs.Common.{ℕ, List, to_z-of_z, FitsSigned, w64}
use Rattle.hyd_io.specs.TextPutIn.{Puts}
use Rattle.hyd_spread_report.proofs.LinesOfBothSides.{reservoir_put}
use Rattle.hyd_spread_report.proofs.reservoirs.put_reservoir.Goals as goal

pub returns : goal.returns
returns g c =
    let least_fits : FitsSigned w64 c.head_in-least.result = record { sfits = c.head_in-least.type_inv } in
    let greatest_fits : FitsSigned w64 c.head_in-greatest.result = record { sfits = c.head_in-greatest.type_inv } in
    reservoir_put c.args.upper.now.reservoirs c.args.lower.now.reservoirs c.args.project.now
    (λ (text : List ℕ). Puts g.D.Desk.files g.D.Desk.rest g.D.Desk.written g.D.Desk.printed g.D.Desk.target
    g.D.Desk.ready g.D.Desk.counts g.D.Desk.openings
    text c.put_reservoir_line.result c.args.pen.now c.put_reservoir_line.new.pen c.args.desk.now
    c.put_reservoir_line.new.desk)
    c.args.reservoir c.head_in-least.result c.head_in-greatest.result c.requires.in_range c.head_in-least.ensures
    c.head_in-greatest.ensures (simp to_z-of_z at c.put_reservoir_line.ensures)
