-- What a check prints and leaves.
use Rattle.std.proofs.Common.{◌∙◌, sym, subst}
use Rattle.hyd_command_answers.specs.DeskContents.{seen}
use Rattle.hyd_command_answers.specs.FaultsAndRefusals.{HasCause}
use Rattle.hyd_command_answers.specs.declared.status.Status.{Status}
use Rattle.hyd_check_command.specs.CheckAnswers.{LeavesCheck, ReadsCert}
use Rattle.hyd_spread_command.specs.SpreadChecks.{AnswersCertOver}
use Rattle.hyd_check_command.proofs.CheckLemmas.{report_prints, leaves_end, cause_of_end, reads_of_end, leaves_break}
use Rattle.hyd_check_command.proofs.CheckLemmas.{cause_of_break, reads_of_break}
use Rattle.hyd_spread_command.proofs.SpreadCheckLemmas.{answers_over_end, answers_over_break}
use Rattle.hyd_spread_command.proofs.whole_check.check_text.Goals as goal

pub check_over-requires-clause-reader : goal.check_over-requires-clause-reader
check_over-requires-clause-reader g c = c.requires.reader.stand

pub check_over-requires-clause-line : goal.check_over-requires-clause-line
check_over-requires-clause-line g c = c.requires.reader.line

-- ---- the check came to its end

pub returns-in-Ok-clause-answers : goal.returns-in-Ok-clause-answers
returns-in-Ok-clause-answers g c certificate told =
    let before = seen g.D.Desk.files g.D.Desk.written g.D.Desk.printed c.args.desk.now in
    let now = seen g.D.Desk.files g.D.Desk.written g.D.Desk.printed c.check_over.new.desk in
    subst (λ (s : Status). AnswersCertOver c.args.sim.now.project c.args.sim.now.nets.spread certificate s before now)
    (sym c.status_of_end.ensures)
    (answers_over_end c.args.sim.now.project c.args.sim.now.nets.spread certificate c.in-Ok.end before now
    (c.in-Ok.ensures.whole certificate told))

pub returns-in-Ok-clause-only_prints : goal.returns-in-Ok-clause-only_prints
returns-in-Ok-clause-only_prints g c =
    report_prints _ _ c.check_over.ensures.files_stay c.check_over.ensures.written_stays c.check_over.ensures.prints

pub returns-in-Ok-clause-leaves : goal.returns-in-Ok-clause-leaves
returns-in-Ok-clause-leaves g c =
    let before = seen g.D.Desk.files g.D.Desk.written g.D.Desk.printed c.args.desk.now in
    let now = seen g.D.Desk.files g.D.Desk.written g.D.Desk.printed c.check_over.new.desk in
    subst (λ (s : Status). LeavesCheck s before now) (sym c.status_of_end.ensures)
    (leaves_end c.in-Ok.end before now
    (report_prints before now c.check_over.ensures.files_stay c.check_over.ensures.written_stays
    c.check_over.ensures.prints))

pub returns-in-Ok-clause-cause : goal.returns-in-Ok-clause-cause
returns-in-Ok-clause-cause g c =
    subst (λ (s : Status). HasCause s (g.D.Desk.counts c.args.desk.now) (g.D.Desk.counts c.check_over.new.desk))
    (sym c.status_of_end.ensures) (cause_of_end c.in-Ok.end _ _ c.in-Ok.ensures.steady)

pub returns-in-Ok-clause-opened : goal.returns-in-Ok-clause-opened
returns-in-Ok-clause-opened g c before once =
    subst (λ (s : Status). ReadsCert s before (g.D.Desk.openings c.check_over.new.desk)) (sym c.status_of_end.ensures)
    (reads_of_end c.in-Ok.end before _ (c.check_over.ensures.openings_stay ∙ once))

-- ---- a fault broke it off

pub returns-in-Err-clause-answers : goal.returns-in-Err-clause-answers
returns-in-Err-clause-answers g c certificate told =
    let before = seen g.D.Desk.files g.D.Desk.written g.D.Desk.printed c.args.desk.now in
    let now = seen g.D.Desk.files g.D.Desk.written g.D.Desk.printed c.check_over.new.desk in
    subst (λ (s : Status). AnswersCertOver c.args.sim.now.project c.args.sim.now.nets.spread certificate s before now)
    (sym c.status_of_fault.ensures)
    (answers_over_break c.args.sim.now.project c.args.sim.now.nets.spread certificate c.in-Err.fault before now
    (c.in-Err.ensures.broken_off certificate told))

pub returns-in-Err-clause-only_prints : goal.returns-in-Err-clause-only_prints
returns-in-Err-clause-only_prints g c =
    report_prints _ _ c.check_over.ensures.files_stay c.check_over.ensures.written_stays c.check_over.ensures.prints

pub returns-in-Err-clause-leaves : goal.returns-in-Err-clause-leaves
returns-in-Err-clause-leaves g c =
    let before = seen g.D.Desk.files g.D.Desk.written g.D.Desk.printed c.args.desk.now in
    let now = seen g.D.Desk.files g.D.Desk.written g.D.Desk.printed c.check_over.new.desk in
    subst (λ (s : Status). LeavesCheck s before now) (sym c.status_of_fault.ensures)
    (leaves_break c.in-Err.fault before now
    (report_prints before now c.check_over.ensures.files_stay c.check_over.ensures.written_stays
    c.check_over.ensures.prints))

pub returns-in-Err-clause-cause : goal.returns-in-Err-clause-cause
returns-in-Err-clause-cause g c =
    subst (λ (s : Status). HasCause s (g.D.Desk.counts c.args.desk.now) (g.D.Desk.counts c.check_over.new.desk))
    (sym c.status_of_fault.ensures) (cause_of_break c.in-Err.fault _ _ c.in-Err.ensures.cause)

pub returns-in-Err-clause-opened : goal.returns-in-Err-clause-opened
returns-in-Err-clause-opened g c before once =
    subst (λ (s : Status). ReadsCert s before (g.D.Desk.openings c.check_over.new.desk)) (sym c.status_of_fault.ensures)
    (reads_of_break c.in-Err.fault before _ (c.check_over.ensures.openings_stay ∙ once))
