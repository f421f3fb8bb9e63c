-- A new pen holds nothing and is on standard output.
use Rattle.std.proofs.Common.{ap, ◌∙◌}
use Rattle.std.proofs.lemmas.Result.{err_from_is_err_and, on_ok_weaker, on_err_weaker}
use Rattle.hyd_io.specs.Output.{PenState}
use Rattle.hyd_io.proofs.PutLemmas.{on-report}
use Rattle.hyd_command_answers.proofs.PrintLemmas.{printed_whole, printed_front, failed_front, cause_since}
use Rattle.hyd_command_answers.proofs.refused_text.print_refusal.Goals as goal

-- the put failed
pub returns-in_err-put_refused_text-clause-front : goal.returns-in_err-put_refused_text-clause-front
returns-in_err-put_refused_text-clause-front g c =
    let p = err_from_is_err_and c.from_residual.result c.from_residual.ensures.1 in
    rw p.1 (failed_front _ _ _ _ _ _ _ (ap (λ (pen : PenState). pen.to) c.new-pen.ensures)
    (ap (λ (pen : PenState). pen.held) c.new-pen.ensures) c.in_err-put_refused_text.ensures.front)

-- ---- the pen was flushed

pub returns-clause-whole : goal.returns-clause-whole
returns-clause-whole g c =
    on_ok_weaker c.flush.result (λ w. printed_whole _ _ _ _ _ _ _ _ _ _ _ (ap (λ (p : PenState). p.to)
    c.new-pen.ensures)
    c.in_ok-put_refused_text.ensures.to_stays (ap (λ (p : PenState). p.held) c.new-pen.ensures) c.in_ok-put_refused_text.ensures.moves w)
    c.flush.ensures.whole

pub returns-clause-front : goal.returns-clause-front
returns-clause-front g c =
    on_err_weaker c.flush.result (λ k. printed_front _ _ _ _ _ _ _ _ _ _ _ (ap (λ (p : PenState). p.to)
    c.new-pen.ensures) c.in_ok-put_refused_text.ensures.to_stays (ap (λ (p : PenState). p.held) c.new-pen.ensures)
    c.in_ok-put_refused_text.ensures.moves k) c.flush.ensures.front

pub returns-clause-cause : goal.returns-clause-cause
returns-clause-cause g c =
    cause_since c.flush.result _ _ _ _ (c.in_ok-put_refused_text.ensures.to_stays ∙ ap (λ (p : PenState). p.to) c.new-pen.ensures)
    c.in_ok-put_refused_text.ensures.steady (c.flush.ensures.cause c.in_ok-put_refused_text.ensures.no_fault)

pub returns-clause-steady : goal.returns-clause-steady
returns-clause-steady g c = on_ok_weaker c.flush.result (λ s. s ∙ c.in_ok-put_refused_text.ensures.steady) c.flush.ensures.steady

pub returns-clause-files_stay : goal.returns-clause-files_stay
returns-clause-files_stay g c =
    on-report _ _ (c.in_ok-put_refused_text.ensures.to_stays ∙ ap (λ (p : PenState). p.to) c.new-pen.ensures)
    c.flush.ensures.report_files
    ∙ on-report _ _ (ap (λ (p : PenState). p.to) c.new-pen.ensures) c.in_ok-put_refused_text.ensures.report_files

pub returns-clause-written_stays : goal.returns-clause-written_stays
returns-clause-written_stays g c =
    on-report _ _ (c.in_ok-put_refused_text.ensures.to_stays ∙ ap (λ (p : PenState). p.to) c.new-pen.ensures)
    c.flush.ensures.report_written
    ∙ on-report _ _ (ap (λ (p : PenState). p.to) c.new-pen.ensures) c.in_ok-put_refused_text.ensures.report_written

pub returns-clause-openings_stay : goal.returns-clause-openings_stay
returns-clause-openings_stay g c = c.flush.ensures.openings_stay ∙ c.in_ok-put_refused_text.ensures.openings_stay
