-- The lines that were put in at a new pen.
use Rattle.std.proofs.lemmas.Result.{err_from_is_err_and}
use Rattle.std.proofs.lemmas.Result.{on_ok_weaker, on_err_weaker}
use Rattle.hyd_spec_pressure_targets.specs.PromisesOfTargets.{FindsClosures}
use Rattle.hyd_targets.specs.Inquiries.{target_for}
use Rattle.hyd_targets.proofs.ClosuresOfPipes.{all-so-far}
use Rattle.hyd_target_commands.proofs.TextsPrinted.{whole-of-flush, front-of-flush, cause-of-flush, steady-by-flush}
use Rattle.hyd_target_commands.proofs.TextsPrinted.{openings-by-flush, front-of-put, cause-of-put, printed-with}
use Rattle.hyd_target_commands.proofs.TextsPrinted.{broken-off}
use Rattle.hyd_target_commands.proofs.command_closures.print_closures.Goals as goal

-- ---- the put failed

pub returns-in_err-put_closures-clause-cut_off : goal.returns-in_err-put_closures-clause-cut_off
returns-in_err-put_closures-clause-cut_off g c =
    let p = err_from_is_err_and c.from_residual.result c.from_residual.ensures.1 in
    rw p.1 (let one = c.in_err-put_closures.ensures.cut_off in
    broken-off c.args.project.now (target_for c.args.project.now c.args.inquiry.now) c.args.rounds one.0 _ _ one.1.0
    (front-of-put one.0 _ _ _ _ c.new-pen.ensures c.in_err-put_closures.field-0.0 one.1.1))

pub returns-in_err-put_closures-clause-cause : goal.returns-in_err-put_closures-clause-cause
returns-in_err-put_closures-clause-cause g c =
    let p = err_from_is_err_and c.from_residual.result c.from_residual.ensures.1 in
    rw (p.1, p.2) (let one = c.in_err-put_closures.ensures.cut_off in cause-of-put one.0 _ _ _ _ c.new-pen.ensures c.in_err-put_closures.field-0.0 one.1.1)

pub returns-in_err-put_closures-clause-openings_stay : goal.returns-in_err-put_closures-clause-openings_stay
returns-in_err-put_closures-clause-openings_stay g c =
    let one = c.in_err-put_closures.ensures.cut_off in one.1.1.openings_stay

-- ---- the pen was flushed

pub returns-clause-whole : goal.returns-clause-whole
returns-clause-whole g c =
    let one = c.in_ok-put_closures.ensures.whole in
    on_ok_weaker c.flush.result
    (printed-with (FindsClosures c.args.project.now (target_for c.args.project.now c.args.inquiry.now) c.args.rounds)
    one.0 _ _ one.1.0)
    (whole-of-flush one.0 _ _ _ _ c.new-pen.ensures _ _ c.flush.result one.1.1 c.flush.ensures)

pub returns-clause-cut_off : goal.returns-clause-cut_off
returns-clause-cut_off g c =
    let target = target_for c.args.project.now c.args.inquiry.now in
    let one = c.in_ok-put_closures.ensures.whole in
    on_err_weaker c.flush.result
    (broken-off c.args.project.now target c.args.rounds one.0 _ _
    (all-so-far c.args.project.now target c.args.rounds one.0 one.1.0))
    (front-of-flush one.0 _ _ _ _ c.new-pen.ensures _ _ c.flush.result one.1.1 c.flush.ensures)

pub returns-clause-cause : goal.returns-clause-cause
returns-clause-cause g c =
    let one = c.in_ok-put_closures.ensures.whole in
    cause-of-flush one.0 _ _ _ _ c.new-pen.ensures _ _ c.flush.result one.1.1 c.flush.ensures

pub returns-clause-steady : goal.returns-clause-steady
returns-clause-steady g c =
    let one = c.in_ok-put_closures.ensures.whole in
    steady-by-flush one.0 _ _ _ _ c.new-pen.ensures _ _ c.flush.result one.1.1 c.flush.ensures

pub returns-clause-openings_stay : goal.returns-clause-openings_stay
returns-clause-openings_stay g c =
    let one = c.in_ok-put_closures.ensures.whole in
    openings-by-flush one.0 _ _ _ _ c.new-pen.ensures _ _ c.flush.result one.1.1 c.flush.ensures
