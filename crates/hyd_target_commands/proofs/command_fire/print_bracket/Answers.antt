-- The line that was put in at a new pen.
use Rattle.std.proofs.lemmas.Result.{err_from_is_err_and}
use Rattle.std.proofs.Common.{refl, ap, ◌∙◌}
use Rattle.std.proofs.lemmas.Result.{on_ok_weaker, on_err_weaker}
use Rattle.hyd_spec_pressure_targets.specs.PromisesOfTargets.{FindsBracket}
use Rattle.hyd_targets.specs.Inquiries.{target_for}
use Rattle.hyd_target_commands.proofs.TextsPrinted.{whole-of-flush, front-of-flush, cause-of-flush, steady-by-flush}
use Rattle.hyd_target_commands.proofs.TextsPrinted.{openings-by-flush, front-of-put, cause-of-put, printed-with}
use Rattle.hyd_target_commands.proofs.TextsPrinted.{front-with, asks-nothing}
use Rattle.hyd_io.specs.Output.{PenState}
use Rattle.hyd_target_commands.proofs.command_fire.print_bracket.Goals as goal

-- ---- the put failed

pub returns-in_err-put_bracket-clause-front : goal.returns-in_err-put_bracket-clause-front
returns-in_err-put_bracket-clause-front g c =
    let p = err_from_is_err_and c.from_residual.result c.from_residual.ensures.1 in
    rw p.1 (λ name named. let one = c.in_err-put_bracket.ensures name named.named in
    front-with (FindsBracket c.args.project.now name (target_for c.args.project.now c.args.inquiry.now) c.args.rounds)
    one.0 _ _ one.1.0 (front-of-put one.0 _ _ _ _ c.new-pen.ensures c.in_err-put_bracket.field-0.0 one.1.1))

pub returns-in_err-put_bracket-clause-cause : goal.returns-in_err-put_bracket-clause-cause
returns-in_err-put_bracket-clause-cause g c =
    let p = err_from_is_err_and c.from_residual.result c.from_residual.ensures.1 in
    rw (p.1, p.2) (let one = c.in_err-put_bracket.ensures _ refl in cause-of-put one.0 _ _ _ _ c.new-pen.ensures c.in_err-put_bracket.field-0.0 one.1.1)

pub returns-in_err-put_bracket-clause-openings_stay : goal.returns-in_err-put_bracket-clause-openings_stay
returns-in_err-put_bracket-clause-openings_stay g c =
    let one = c.in_err-put_bracket.ensures _ refl in one.1.1.openings_stay

-- ---- the pen was flushed

pub flush-requires : goal.flush-requires
flush-requires g c =
    let one = c.in_ok-put_bracket.ensures _ refl in
    asks-nothing _ _ (one.1.1.to_stays ∙ ap (λ (pen : PenState). pen.to) c.new-pen.ensures)

pub returns-clause-whole : goal.returns-clause-whole
returns-clause-whole g c name named =
    let one = c.in_ok-put_bracket.ensures name named.named in
    on_ok_weaker c.flush.result
    (printed-with (FindsBracket c.args.project.now name (target_for c.args.project.now c.args.inquiry.now)
    c.args.rounds) one.0 _ _ one.1.0)
    (whole-of-flush one.0 _ _ _ _ c.new-pen.ensures _ _ c.flush.result one.1.1 c.flush.ensures)

pub returns-clause-front : goal.returns-clause-front
returns-clause-front g c name named =
    let one = c.in_ok-put_bracket.ensures name named.named in
    on_err_weaker c.flush.result
    (front-with (FindsBracket c.args.project.now name (target_for c.args.project.now c.args.inquiry.now)
    c.args.rounds) one.0 _ _ one.1.0)
    (front-of-flush one.0 _ _ _ _ c.new-pen.ensures _ _ c.flush.result one.1.1 c.flush.ensures)

pub returns-clause-cause : goal.returns-clause-cause
returns-clause-cause g c =
    let one = c.in_ok-put_bracket.ensures _ refl in
    cause-of-flush one.0 _ _ _ _ c.new-pen.ensures _ _ c.flush.result one.1.1 c.flush.ensures

pub returns-clause-steady : goal.returns-clause-steady
returns-clause-steady g c =
    let one = c.in_ok-put_bracket.ensures _ refl in
    steady-by-flush one.0 _ _ _ _ c.new-pen.ensures _ _ c.flush.result one.1.1 c.flush.ensures

pub returns-clause-openings_stay : goal.returns-clause-openings_stay
returns-clause-openings_stay g c =
    let one = c.in_ok-put_bracket.ensures _ refl in
    openings-by-flush one.0 _ _ _ _ c.new-pen.ensures _ _ c.flush.result one.1.1 c.flush.ensures
