-- The line that was put in at a new pen.
use Rattle.std.proofs.lemmas.Result.{err_from_is_err_and}
use Rattle.hyd_target_commands.proofs.TextsPrinted.{whole-of-flush, front-of-flush, cause-of-flush, steady-by-flush}
use Rattle.hyd_target_commands.proofs.TextsPrinted.{openings-by-flush, front-of-put, cause-of-put}
use Rattle.hyd_written_witnesses.proofs.answer.print_halt.Goals as goal

-- ---- the put failed

pub returns-in_err-put_halt-clause-front : goal.returns-in_err-put_halt-clause-front
returns-in_err-put_halt-clause-front g c =
    let p = err_from_is_err_and c.from_residual.result c.from_residual.ensures.1 in
    rw p.1 (front-of-put _ _ _ _ _ c.new-pen.ensures c.in_err-put_halt.field-0.0 c.in_err-put_halt.ensures)

pub returns-in_err-put_halt-clause-cause : goal.returns-in_err-put_halt-clause-cause
returns-in_err-put_halt-clause-cause g c =
    let p = err_from_is_err_and c.from_residual.result c.from_residual.ensures.1 in
    rw (p.1, p.2) (cause-of-put _ _ _ _ _ c.new-pen.ensures c.in_err-put_halt.field-0.0 c.in_err-put_halt.ensures)

-- ---- the pen was flushed

pub returns-clause-whole : goal.returns-clause-whole
returns-clause-whole g c =
    whole-of-flush _ _ _ _ _ c.new-pen.ensures _ _ c.flush.result c.in_ok-put_halt.ensures c.flush.ensures

pub returns-clause-front : goal.returns-clause-front
returns-clause-front g c =
    front-of-flush _ _ _ _ _ c.new-pen.ensures _ _ c.flush.result c.in_ok-put_halt.ensures c.flush.ensures

pub returns-clause-cause : goal.returns-clause-cause
returns-clause-cause g c =
    cause-of-flush _ _ _ _ _ c.new-pen.ensures _ _ c.flush.result c.in_ok-put_halt.ensures c.flush.ensures

pub returns-clause-steady : goal.returns-clause-steady
returns-clause-steady g c =
    steady-by-flush _ _ _ _ _ c.new-pen.ensures _ _ c.flush.result c.in_ok-put_halt.ensures c.flush.ensures

pub returns-clause-openings_stay : goal.returns-clause-openings_stay
returns-clause-openings_stay g c =
    openings-by-flush _ _ _ _ _ c.new-pen.ensures _ _ c.flush.result c.in_ok-put_halt.ensures c.flush.ensures
