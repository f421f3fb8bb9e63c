-- What a check prints and leaves.
use Rattle.std.proofs.Common.{◌∙◌, ap, sym, subst}
use Rattle.hyd_cert.specs.ReaderView.{ReaderView}
use Rattle.hyd_command_answers.specs.DeskContents.{seen}
use Rattle.hyd_command_answers.specs.FaultsAndRefusals.{HasCause}
use Rattle.hyd_command_answers.specs.declared.status.Status.{Status}
use Rattle.hyd_check_command.specs.CheckAnswers.{AnswersCert, LeavesCheck, ReadsCert}
use Rattle.hyd_check_command.proofs.CheckLemmas.{report_prints, leaves_end, cause_of_end, reads_of_end, leaves_break}
use Rattle.hyd_check_command.proofs.CheckLemmas.{cause_of_break, reads_of_break}
use Rattle.hyd_check_command.proofs.CheckLemmas.{comes_ahead, answers_end, answers_break}
use Rattle.hyd_check_command.proofs.whole_check.check_text.Goals as goal

pub check-requires-clause-reader : goal.check-requires-clause-reader
check-requires-clause-reader g c = record {
  stand = ap (λ (r : ReaderView). r.stand) c.behind-reader.ensures;
  line = ap (λ (r : ReaderView). r.line) c.behind-reader.ensures;
}

-- ---- the check came to its end

pub returns-in-Ok-clause-answers : goal.returns-in-Ok-clause-answers
returns-in-Ok-clause-answers g c certificate told =
    let before = seen g.D.Desk.files g.D.Desk.written g.D.Desk.printed c.args.desk.now in
    let now = seen g.D.Desk.files g.D.Desk.written g.D.Desk.printed c.check.new.desk in
    subst (λ (s : Status). AnswersCert c.args.sim.now.project certificate s before now) (sym c.status_of_end.ensures)
    (answers_end c.args.sim.now.project certificate c.in-Ok.end before now
    (c.in-Ok.ensures.whole certificate (comes_ahead c.args.ahead c.behind-reader.result
    (g.D.Desk.rest c.args.desk.now) certificate c.behind-reader.ensures told)))

pub returns-in-Ok-clause-only_prints : goal.returns-in-Ok-clause-only_prints
returns-in-Ok-clause-only_prints g c =
    report_prints _ _ c.check.ensures.files_stay c.check.ensures.written_stays c.check.ensures.prints

pub returns-in-Ok-clause-leaves : goal.returns-in-Ok-clause-leaves
returns-in-Ok-clause-leaves g c =
    let before = seen g.D.Desk.files g.D.Desk.written g.D.Desk.printed c.args.desk.now in
    let now = seen g.D.Desk.files g.D.Desk.written g.D.Desk.printed c.check.new.desk in
    subst (λ (s : Status). LeavesCheck s before now) (sym c.status_of_end.ensures)
    (leaves_end c.in-Ok.end before now
    (report_prints before now c.check.ensures.files_stay c.check.ensures.written_stays c.check.ensures.prints))

pub returns-in-Ok-clause-cause : goal.returns-in-Ok-clause-cause
returns-in-Ok-clause-cause g c =
    subst (λ (s : Status). HasCause s (g.D.Desk.counts c.args.desk.now) (g.D.Desk.counts c.check.new.desk))
    (sym c.status_of_end.ensures) (cause_of_end c.in-Ok.end _ _ c.in-Ok.ensures.steady)

pub returns-in-Ok-clause-opened : goal.returns-in-Ok-clause-opened
returns-in-Ok-clause-opened g c before once =
    subst (λ (s : Status). ReadsCert s before (g.D.Desk.openings c.check.new.desk)) (sym c.status_of_end.ensures)
    (reads_of_end c.in-Ok.end before _ (c.check.ensures.openings_stay ∙ once))

-- ---- a fault broke it off

pub returns-in-Err-clause-answers : goal.returns-in-Err-clause-answers
returns-in-Err-clause-answers g c certificate told =
    let before = seen g.D.Desk.files g.D.Desk.written g.D.Desk.printed c.args.desk.now in
    let now = seen g.D.Desk.files g.D.Desk.written g.D.Desk.printed c.check.new.desk in
    subst (λ (s : Status). AnswersCert c.args.sim.now.project certificate s before now) (sym c.status_of_fault.ensures)
    (answers_break c.args.sim.now.project certificate c.in-Err.fault before now
    (c.in-Err.ensures.broken_off certificate (comes_ahead c.args.ahead c.behind-reader.result
    (g.D.Desk.rest c.args.desk.now) certificate c.behind-reader.ensures told)))

pub returns-in-Err-clause-only_prints : goal.returns-in-Err-clause-only_prints
returns-in-Err-clause-only_prints g c =
    report_prints _ _ c.check.ensures.files_stay c.check.ensures.written_stays c.check.ensures.prints

pub returns-in-Err-clause-leaves : goal.returns-in-Err-clause-leaves
returns-in-Err-clause-leaves g c =
    let before = seen g.D.Desk.files g.D.Desk.written g.D.Desk.printed c.args.desk.now in
    let now = seen g.D.Desk.files g.D.Desk.written g.D.Desk.printed c.check.new.desk in
    subst (λ (s : Status). LeavesCheck s before now) (sym c.status_of_fault.ensures)
    (leaves_break c.in-Err.fault before now
    (report_prints before now c.check.ensures.files_stay c.check.ensures.written_stays c.check.ensures.prints))

pub returns-in-Err-clause-cause : goal.returns-in-Err-clause-cause
returns-in-Err-clause-cause g c =
    subst (λ (s : Status). HasCause s (g.D.Desk.counts c.args.desk.now) (g.D.Desk.counts c.check.new.desk))
    (sym c.status_of_fault.ensures) (cause_of_break c.in-Err.fault _ _ c.in-Err.ensures.cause)

pub returns-in-Err-clause-opened : goal.returns-in-Err-clause-opened
returns-in-Err-clause-opened g c before once =
    subst (λ (s : Status). ReadsCert s before (g.D.Desk.openings c.check.new.desk)) (sym c.status_of_fault.ensures)
    (reads_of_break c.in-Err.fault before _ (c.check.ensures.openings_stay ∙ once))
