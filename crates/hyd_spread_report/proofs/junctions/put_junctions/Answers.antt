-- One line more, or a line that is cut off.
use Rattle.std.proofs.lemmas.Result.{err_from_is_err_and}
use Rattle.std.proofs.Common.{◌<◌, length, arith}
use Rattle.hyd_period_network.specs.NetAsPeriodNetwork.{grid_of}
use Rattle.hyd_spread_bounds.specs.BothSides.{pair_of}
use Rattle.hyd_report.proofs.LoopLemmas.{line_put, line_cut_off}
use Rattle.hyd_spread_report.specs.LinesOverBothSides.{junction_line_over}
use Rattle.hyd_spread_report.proofs.junctions.put_junctions.Goals as goal

pub returns-in_err-put_junction : goal.returns-in_err-put_junction
returns-in_err-put_junction g c =
    let p = err_from_is_err_and c.from_residual.result c.from_residual.ensures.1 in
    rw (p.1, p.2) (let within : c.loop-j.j < length (grid_of c.args.upper.now).junctions = omega
    (arith, c.junctions-j-end.ensures.each, c.junctions-j-end.ensures.count) in
    line_cut_off c.args.project.now (junction_line_over c.args.project.now
    (pair_of c.args.upper.now c.args.lower.now) c.args.low.now c.args.high.now) (grid_of c.args.upper.now).junctions
    c.loop-j.j _ _ _ _ _ _ c.in_err-put_junction.field-0.0 within c.loop-j.invariant c.in_err-put_junction.ensures)

pub loop-j-preserved : goal.loop-j-preserved
loop-j-preserved g c =
    let within : c.loop-j.j < length (grid_of c.args.upper.now).junctions = omega
    (arith, c.junctions-j-end.ensures.each, c.junctions-j-end.ensures.count) in
    line_put c.args.project.now (junction_line_over c.args.project.now
    (pair_of c.args.upper.now c.args.lower.now) c.args.low.now c.args.high.now) (grid_of c.args.upper.now).junctions
    c.loop-j.j _ _ _ _ _ _ within c.loop-j.invariant c.in_ok-put_junction.ensures
