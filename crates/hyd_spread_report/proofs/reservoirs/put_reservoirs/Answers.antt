-- One line more, or a line that is cut off.
use Rattle.std.proofs.lemmas.Result.{err_from_is_err_and}
use Rattle.std.proofs.Common.{◌<◌, length, arith}
use Rattle.hyd_spread_bounds.specs.BothSides.{pair_of}
use Rattle.hyd_report.proofs.LoopLemmas.{line_put, line_cut_off}
use Rattle.hyd_spread_report.specs.LinesOverBothSides.{reservoir_line_over}
use Rattle.hyd_spread_report.proofs.reservoirs.put_reservoirs.Goals as goal

pub returns-in_err-put_reservoir : goal.returns-in_err-put_reservoir
returns-in_err-put_reservoir g c =
    let p = err_from_is_err_and c.from_residual.result c.from_residual.ensures.1 in
    rw (p.1, p.2) (let within : c.loop-r.r < length c.args.upper.now.reservoirs = omega (
      arith,
      c.nodes.ensures.count,
      c.junctions.ensures.count,
      c.tanks.ensures.count,
    ) in
    line_cut_off c.args.project.now (reservoir_line_over c.args.project.now
    (pair_of c.args.upper.now c.args.lower.now)) c.args.upper.now.reservoirs
    c.loop-r.r _ _ _ _ _ _ c.in_err-put_reservoir.field-0.0 within c.loop-r.invariant c.in_err-put_reservoir.ensures)

pub loop-r-preserved : goal.loop-r-preserved
loop-r-preserved g c =
    let within : c.loop-r.r < length c.args.upper.now.reservoirs = omega (
      arith,
      c.nodes.ensures.count,
      c.junctions.ensures.count,
      c.tanks.ensures.count,
    ) in
    line_put c.args.project.now (reservoir_line_over c.args.project.now
    (pair_of c.args.upper.now c.args.lower.now)) c.args.upper.now.reservoirs
    c.loop-r.r _ _ _ _ _ _ within c.loop-r.invariant c.in_ok-put_reservoir.ensures
