-- One line more, or a line that is cut off.
use Rattle.std.proofs.lemmas.Result.{err_from_is_err_and}
use Rattle.std.proofs.Common.{ℕ, List, ◌<◌, length, arith}
use Rattle.std.specs.Prelude.{Ok, Err, slice_get}
use Rattle.hyd_report.specs.NodeAndLinkLines.{tank_line}
use Rattle.hyd_io.specs.TextPutIn.{Puts}
use Rattle.hyd_report.proofs.LineLemmas.{tank_read}
use Rattle.hyd_report.proofs.LoopLemmas.{line_put, line_cut_off}
use Rattle.hyd_report.proofs.tanks.put_tanks.Goals as goal

pub returns-in_err-put_tank : goal.returns-in_err-put_tank
returns-in_err-put_tank g c =
    let p = err_from_is_err_and c.from_residual.result c.from_residual.ensures.1 in
    rw (p.1, p.2) (let k = c.loop-k.k in
    let project = c.args.project.now in
    let within : k < length project.tanks.list = omega arith in
    line_cut_off project (tank_line project c.args.levels.now c.args.inflows.now c.args.states.now) project.tanks.list
    k _ _ _ _ _ _ c.in_err-put_tank.field-0.0 within c.loop-k.invariant
    (tank_read (slice_get project.tanks.list k) project
    (λ (text : List ℕ). Puts g.D.Desk.files g.D.Desk.rest g.D.Desk.written g.D.Desk.printed g.D.Desk.target
    g.D.Desk.ready g.D.Desk.counts g.D.Desk.openings
    text (Err c.in_err-put_tank.field-0.0) c.loop-k.pen c.put_tank.new.pen c.loop-k.desk c.put_tank.new.desk)
    k c.args.levels.now c.args.inflows.now c.args.states.now _ c.index-inflows-k.result _
    (omega (arith, c.requires.levels)) (omega (arith, c.requires.inflows)) (omega
    (arith, c.requires.states)) c.index-inflows-k.is c.in_err-put_tank.ensures))

pub loop-k-preserved : goal.loop-k-preserved
loop-k-preserved g c =
    let k = c.loop-k.k in
    let project = c.args.project.now in
    let within : k < length project.tanks.list = omega arith in
    line_put project (tank_line project c.args.levels.now c.args.inflows.now c.args.states.now) project.tanks.list
    k _ _ _ _ _ _ within c.loop-k.invariant
    (tank_read (slice_get project.tanks.list k) project
    (λ (text : List ℕ). Puts g.D.Desk.files g.D.Desk.rest g.D.Desk.written g.D.Desk.printed g.D.Desk.target
    g.D.Desk.ready g.D.Desk.counts g.D.Desk.openings
    text (Ok (tt {0})) c.loop-k.pen c.put_tank.new.pen c.loop-k.desk c.put_tank.new.desk)
    k c.args.levels.now c.args.inflows.now c.args.states.now _ c.index-inflows-k.result _
    (omega (arith, c.requires.levels)) (omega (arith, c.requires.inflows)) (omega
    (arith, c.requires.states)) c.index-inflows-k.is c.in_ok-put_tank.ensures)
