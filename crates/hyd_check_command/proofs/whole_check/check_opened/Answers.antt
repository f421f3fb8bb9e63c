-- What a check leaves behind the first read of CERT, said of the moment before.
use Rattle.std.proofs.Common.{◌≡◌, ℕ, Some, inl, ◌∙◌, ap, sym, subst}
use Rattle.hyd_io.specs.DeskBytes.{prepend_known}
use Rattle.hyd_io.specs.declared.desk.Faults.{Faults}
use Rattle.hyd_spec.specs.ProgramTypes.{Project}
use Rattle.hyd_sim.specs.RoomOfRuns.{HasParts}
use Rattle.hyd_sim.specs.RunView.{header_for}
use Rattle.hyd_open_check.specs.OpenRunsChecked.{HasEventRoom}
use Rattle.hyd_command_answers.specs.DeskContents.{Seen, seen, IsUntouched}
use Rattle.hyd_command_answers.specs.FaultsAndRefusals.{HasCause}
use Rattle.hyd_command_answers.specs.declared.status.Status.{Status}
use Rattle.hyd_command_answers.specs.declared.status.Status.TheVariants.{ReadFault}
use Rattle.hyd_command_answers.proofs.AnswerLemmas.{since_before}
use Rattle.hyd_check_command.specs.CheckAnswers.{AnswersCert, LeavesCheck, ReadsCert, status_of_break}
use Rattle.hyd_check_command.specs.OpenCheckAnswers.{AnswersOpenCert}
use Rattle.hyd_check_command.proofs.CheckLemmas.{prints_since, leaves_since, untouched_prints}
use Rattle.hyd_check_command.proofs.OpenCheckLemmas.{not_both}
use Rattle.hyd_check_command.proofs.whole_check.check_opened.Goals as goal

-- ---- the room of the run

pub check_by_open_run-requires-clause-parts : goal.check_by_open_run-requires-clause-parts
check_by_open_run-requires-clause-parts g c =
    let parts = c.into_parts.result in
    subst (λ (n : ℕ). HasParts parts.project n parts) c.requires.settings
    (subst (λ (p : Project). HasParts p c.args.sim.settings.rounds parts) (sym c.into_parts.ensures.project)
    c.into_parts.ensures.room)

pub check_by_open_run-requires-clause-events : goal.check_by_open_run-requires-clause-events
check_by_open_run-requires-clause-events g c =
    subst (λ (p : Project). HasEventRoom p c.args.room.opened) (sym c.into_parts.ensures.project)
    c.requires.room.events

pub check_by_open_run-requires-clause-header : goal.check_by_open_run-requires-clause-header
check_by_open_run-requires-clause-header g c =
    c.requires.room.header ∙ ap header_for (sym c.into_parts.ensures.project)

-- ---- the text begins with a header line of version 4

pub returns-in-Ok-true-clause-only_prints : goal.returns-in-Ok-true-clause-only_prints
returns-in-Ok-true-clause-only_prints g c =
    let before = seen g.D.Desk.files g.D.Desk.written g.D.Desk.printed c.args.desk.now in
    let between = seen g.D.Desk.files g.D.Desk.written g.D.Desk.printed c.begin_reading.new.desk in
    let now = seen g.D.Desk.files g.D.Desk.written g.D.Desk.printed c.check_by_open_run.new.desk in
    let start = c.begin_reading.ensures in
    prints_since before between now
    (record { files = start.files_stay; written = start.written_stays; printed = start.printed_stays })
    c.check_by_open_run.ensures.only_prints

pub returns-in-Ok-true-clause-leaves : goal.returns-in-Ok-true-clause-leaves
returns-in-Ok-true-clause-leaves g c =
    let before = seen g.D.Desk.files g.D.Desk.written g.D.Desk.printed c.args.desk.now in
    let between = seen g.D.Desk.files g.D.Desk.written g.D.Desk.printed c.begin_reading.new.desk in
    let now = seen g.D.Desk.files g.D.Desk.written g.D.Desk.printed c.check_by_open_run.new.desk in
    let start = c.begin_reading.ensures in
    leaves_since c.check_by_open_run.result before between now
    (record { files = start.files_stay; written = start.written_stays; printed = start.printed_stays })
    c.check_by_open_run.ensures.leaves

pub returns-in-Ok-true-clause-answers_openly : goal.returns-in-Ok-true-clause-answers_openly
returns-in-Ok-true-clause-answers_openly g c certificate told begins =
    let before = seen g.D.Desk.files g.D.Desk.written g.D.Desk.printed c.args.desk.now in
    let between = seen g.D.Desk.files g.D.Desk.written g.D.Desk.printed c.begin_reading.new.desk in
    let now = seen g.D.Desk.files g.D.Desk.written g.D.Desk.printed c.check_by_open_run.new.desk in
    let start = c.begin_reading.ensures in
    let answered : AnswersOpenCert c.args.sim.project certificate c.check_by_open_run.result between now =
    subst (λ (p : Project). AnswersOpenCert p certificate c.check_by_open_run.result between now) c.into_parts.ensures.project
    (c.check_by_open_run.ensures.answers certificate (c.in-Ok-true.ensures.text certificate told)) in
    since_before (λ (b : Seen). AnswersOpenCert c.args.sim.project certificate c.check_by_open_run.result b now) before between
    (record { files = start.files_stay; written = start.written_stays; printed = start.printed_stays }) answered

pub returns-in-Ok-true-clause-answers : goal.returns-in-Ok-true-clause-answers
returns-in-Ok-true-clause-answers g c certificate told begins =
    let found = c.in-Ok-true.ensures.yes certificate told c.in-Ok-true.field-0-test in
    absurd (not_both certificate found begins)

pub returns-in-Ok-true-clause-cause : goal.returns-in-Ok-true-clause-cause
returns-in-Ok-true-clause-cause g c =
    subst (λ (n : Faults). HasCause c.check_by_open_run.result n (g.D.Desk.counts c.check_by_open_run.new.desk))
    c.in-Ok-true.ensures.steady c.check_by_open_run.ensures.cause

pub returns-in-Ok-true-clause-opened : goal.returns-in-Ok-true-clause-opened
returns-in-Ok-true-clause-opened g c =
    c.check_by_open_run.ensures.opened (g.D.Desk.openings c.args.desk.now) c.begin_reading.ensures.opened

-- ---- the text doesn't begin so

pub returns-in-Ok-false-clause-only_prints : goal.returns-in-Ok-false-clause-only_prints
returns-in-Ok-false-clause-only_prints g c =
    let before = seen g.D.Desk.files g.D.Desk.written g.D.Desk.printed c.args.desk.now in
    let between = seen g.D.Desk.files g.D.Desk.written g.D.Desk.printed c.begin_reading.new.desk in
    let now = seen g.D.Desk.files g.D.Desk.written g.D.Desk.printed c.check_by_run.new.desk in
    let start = c.begin_reading.ensures in
    prints_since before between now
    (record { files = start.files_stay; written = start.written_stays; printed = start.printed_stays })
    c.check_by_run.ensures.only_prints

pub returns-in-Ok-false-clause-leaves : goal.returns-in-Ok-false-clause-leaves
returns-in-Ok-false-clause-leaves g c =
    let before = seen g.D.Desk.files g.D.Desk.written g.D.Desk.printed c.args.desk.now in
    let between = seen g.D.Desk.files g.D.Desk.written g.D.Desk.printed c.begin_reading.new.desk in
    let now = seen g.D.Desk.files g.D.Desk.written g.D.Desk.printed c.check_by_run.new.desk in
    let start = c.begin_reading.ensures in
    leaves_since c.check_by_run.result before between now
    (record { files = start.files_stay; written = start.written_stays; printed = start.printed_stays })
    c.check_by_run.ensures.leaves

pub returns-in-Ok-false-clause-answers : goal.returns-in-Ok-false-clause-answers
returns-in-Ok-false-clause-answers g c certificate told begins =
    let before = seen g.D.Desk.files g.D.Desk.written g.D.Desk.printed c.args.desk.now in
    let between = seen g.D.Desk.files g.D.Desk.written g.D.Desk.printed c.begin_reading.new.desk in
    let now = seen g.D.Desk.files g.D.Desk.written g.D.Desk.printed c.check_by_run.new.desk in
    let start = c.begin_reading.ensures in
    let ahead : prepend_known c.into_read_ahead.result (g.D.Desk.rest c.begin_reading.new.desk) ≡ Some certificate =
    ap (λ bytes. prepend_known bytes (g.D.Desk.rest c.begin_reading.new.desk)) c.into_read_ahead.ensures
    ∙ c.in-Ok-false.ensures.text certificate told in
    let answered = c.check_by_run.ensures.answers certificate ahead in
    since_before (λ (b : Seen). AnswersCert c.args.sim.project certificate c.check_by_run.result b now) before between
    (record { files = start.files_stay; written = start.written_stays; printed = start.printed_stays }) answered

pub returns-in-Ok-false-clause-answers_openly : goal.returns-in-Ok-false-clause-answers_openly
returns-in-Ok-false-clause-answers_openly g c certificate told begins =
    let found = c.in-Ok-false.ensures.no certificate told c.in-Ok-false.field-0-test in
    absurd (not_both certificate begins found)

pub returns-in-Ok-false-clause-cause : goal.returns-in-Ok-false-clause-cause
returns-in-Ok-false-clause-cause g c =
    subst (λ (n : Faults). HasCause c.check_by_run.result n (g.D.Desk.counts c.check_by_run.new.desk))
    c.in-Ok-false.ensures.steady c.check_by_run.ensures.cause

pub returns-in-Ok-false-clause-opened : goal.returns-in-Ok-false-clause-opened
returns-in-Ok-false-clause-opened g c =
    c.check_by_run.ensures.opened (g.D.Desk.openings c.args.desk.now) c.begin_reading.ensures.opened

-- ---- CERT couldn't be opened, or its first read failed

pub returns-in-Err-clause-only_prints : goal.returns-in-Err-clause-only_prints
returns-in-Err-clause-only_prints g c =
    let before = seen g.D.Desk.files g.D.Desk.written g.D.Desk.printed c.args.desk.now in
    let now = seen g.D.Desk.files g.D.Desk.written g.D.Desk.printed c.begin_reading.new.desk in
    let start = c.begin_reading.ensures in
    let untouched : IsUntouched before now =
    record { files = start.files_stay; written = start.written_stays; printed = start.printed_stays } in
    untouched_prints before now untouched

pub returns-in-Err-clause-leaves : goal.returns-in-Err-clause-leaves
returns-in-Err-clause-leaves g c =
    let before = seen g.D.Desk.files g.D.Desk.written g.D.Desk.printed c.args.desk.now in
    let now = seen g.D.Desk.files g.D.Desk.written g.D.Desk.printed c.begin_reading.new.desk in
    let start = c.begin_reading.ensures in
    let untouched : IsUntouched before now =
    record { files = start.files_stay; written = start.written_stays; printed = start.printed_stays } in
    let read : c.status_of_fault.result ≡ ReadFault =
    c.status_of_fault.ensures ∙ ap status_of_break c.in-Err.ensures.fault in
    subst (λ (s : Status). LeavesCheck s before now) (sym read) (untouched_prints before now untouched)

pub returns-in-Err-clause-answers : goal.returns-in-Err-clause-answers
returns-in-Err-clause-answers g c certificate told begins =
    let before = seen g.D.Desk.files g.D.Desk.written g.D.Desk.printed c.args.desk.now in
    let now = seen g.D.Desk.files g.D.Desk.written g.D.Desk.printed c.begin_reading.new.desk in
    let start = c.begin_reading.ensures in
    let untouched : IsUntouched before now =
    record { files = start.files_stay; written = start.written_stays; printed = start.printed_stays } in
    let read : c.status_of_fault.result ≡ ReadFault =
    c.status_of_fault.ensures ∙ ap status_of_break c.in-Err.ensures.fault in
    subst (λ (s : Status). AnswersCert c.args.sim.project certificate s before now) (sym read) (inl untouched)

pub returns-in-Err-clause-answers_openly : goal.returns-in-Err-clause-answers_openly
returns-in-Err-clause-answers_openly g c certificate told begins =
    let before = seen g.D.Desk.files g.D.Desk.written g.D.Desk.printed c.args.desk.now in
    let now = seen g.D.Desk.files g.D.Desk.written g.D.Desk.printed c.begin_reading.new.desk in
    let start = c.begin_reading.ensures in
    let untouched : IsUntouched before now =
    record { files = start.files_stay; written = start.written_stays; printed = start.printed_stays } in
    let read : c.status_of_fault.result ≡ ReadFault =
    c.status_of_fault.ensures ∙ ap status_of_break c.in-Err.ensures.fault in
    subst (λ (s : Status). AnswersOpenCert c.args.sim.project certificate s before now) (sym read) (inl untouched)

pub returns-in-Err-clause-cause : goal.returns-in-Err-clause-cause
returns-in-Err-clause-cause g c =
    let read : c.status_of_fault.result ≡ ReadFault =
    c.status_of_fault.ensures ∙ ap status_of_break c.in-Err.ensures.fault in
    subst (λ (s : Status). HasCause s (g.D.Desk.counts c.args.desk.now) (g.D.Desk.counts c.begin_reading.new.desk))
    (sym read) c.in-Err.ensures.rose

pub returns-in-Err-clause-opened : goal.returns-in-Err-clause-opened
returns-in-Err-clause-opened g c =
    let read : c.status_of_fault.result ≡ ReadFault =
    c.status_of_fault.ensures ∙ ap status_of_break c.in-Err.ensures.fault in
    subst (λ (s : Status). ReadsCert s (g.D.Desk.openings c.args.desk.now)
    (g.D.Desk.openings c.begin_reading.new.desk)) (sym read) c.begin_reading.ensures.opened
