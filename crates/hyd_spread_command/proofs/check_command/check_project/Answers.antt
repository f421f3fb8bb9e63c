-- A text without rows is no spread; one that is too long has that fault; and where there is no text nothing was
-- touched.
use Rattle.std.proofs.Common.{◌<◌, ◌^◌, length, rules}
use Rattle.hyd_net.specs.declared.refusal_cause.Cause.TheVariants.{Limit}
use Rattle.hyd_command_answers.specs.DeskContents.{Seen, seen}
use Rattle.hyd_command_answers.proofs.AnswerLemmas.{since_before}
use Rattle.hyd_check_command.specs.CheckAnswers.{AnswersCert}
use Rattle.hyd_check_command.specs.OpenCheckAnswers.{AnswersOpenCert}
use Rattle.hyd_check_command.proofs.CheckLemmas.{prints_since, untouched_prints, leaves_since, check_never_refused}
use Rattle.hyd_spread_files.specs.RefusedSpreads.{AnswersSpreadRefused}
use Rattle.hyd_spread_files.specs.SpreadFiles.{IsNoSpread}
use Rattle.hyd_spread_command.specs.SpreadChecks.{LeavesCertOver, refuses}
use Rattle.hyd_spread_files.proofs.RefusalLemmas.{long-is-some, never-memory, refusal_prints, refuses-long}
use Rattle.hyd_spread_command.proofs.SpreadCheckLemmas.{refusal_leaves_cert, cert_leaves}
use Rattle.hyd_spread_command.proofs.SpreadTextLemmas.{cert-by-text, memory-untouched}
use Rattle.hyd_spread_command.proofs.check_command.check_project.Goals as goal

-- ---- no spread

pub returns-in-Ok-NoRows-clause-answers : goal.returns-in-Ok-NoRows-clause-answers
returns-in-Ok-NoRows-clause-answers g c text told =
    let project = c.args.project in
    let before = seen g.D.Desk.files g.D.Desk.written g.D.Desk.printed c.args.desk.now in
    let between = seen g.D.Desk.files g.D.Desk.written g.D.Desk.printed c.read_spread_file.new.desk in
    let now = seen g.D.Desk.files g.D.Desk.written g.D.Desk.printed c.check_network.new.desk in
    let status = c.check_network.result in
    let untouched = c.read_spread_file.ensures.untouched in
    let none : IsNoSpread text = rw c.in-Ok-NoRows.field-0-is at (c.in-Ok-NoRows.ensures.text text told) in
    let left = leaves_since status before between now untouched c.check_network.ensures.leaves in
    let over : LeavesCertOver status before now =
    cert_leaves status before now _ _ c.check_network.ensures.opened left in
    cert-by-text project text c.args.names.cert.now status before now (memory-untouched status before now over)
    (record {
      alone = λ _. record {
        closed = λ certificate cert_told begins.
            since_before (λ (b : Seen). AnswersCert project certificate status b now) before between untouched
            (c.check_network.ensures.answers certificate (search rules) begins);
        openly = λ certificate cert_told begins.
            since_before (λ (b : Seen). AnswersOpenCert project certificate status b now) before between untouched
            (c.check_network.ensures.answers_openly certificate (search rules) begins);
        not_refused = check_never_refused status _ _ c.check_network.ensures.opened;
      };
      within = λ isnt. absurd (isnt none);
    })

-- ---- a text that is too long

pub returns-in-Ok-TooLong-clause-only_prints : goal.returns-in-Ok-TooLong-clause-only_prints
returns-in-Ok-TooLong-clause-only_prints g c =
    prints_since _ _ _ c.read_spread_file.ensures.untouched
    (refusal_prints 0 (Limit 1) c.refuse_spread.result _ _ c.refuse_spread.ensures.answers)

pub returns-in-Ok-TooLong-clause-leaves : goal.returns-in-Ok-TooLong-clause-leaves
returns-in-Ok-TooLong-clause-leaves g c =
    let before = seen g.D.Desk.files g.D.Desk.written g.D.Desk.printed c.args.desk.now in
    let between = seen g.D.Desk.files g.D.Desk.written g.D.Desk.printed c.read_spread_file.new.desk in
    let now = seen g.D.Desk.files g.D.Desk.written g.D.Desk.printed c.refuse_spread.new.desk in
    let status = c.refuse_spread.result in
    since_before (λ (b : Seen). LeavesCertOver status b now) before between c.read_spread_file.ensures.untouched
    (refusal_leaves_cert 0 (Limit 1) status between now c.refuse_spread.ensures.answers)

pub returns-in-Ok-TooLong-clause-answers : goal.returns-in-Ok-TooLong-clause-answers
returns-in-Ok-TooLong-clause-answers g c text told =
    let project = c.args.project in
    let before = seen g.D.Desk.files g.D.Desk.written g.D.Desk.printed c.args.desk.now in
    let between = seen g.D.Desk.files g.D.Desk.written g.D.Desk.printed c.read_spread_file.new.desk in
    let now = seen g.D.Desk.files g.D.Desk.written g.D.Desk.printed c.refuse_spread.new.desk in
    let status = c.refuse_spread.result in
    let long : 2 ^ 26 < length text = rw c.in-Ok-TooLong.field-0-is at (c.in-Ok-TooLong.ensures.text text told) in
    let answers : AnswersSpreadRefused 0 (Limit 1) status before now =
    since_before (λ (b : Seen). AnswersSpreadRefused 0 (Limit 1) status b now) before between
    c.read_spread_file.ensures.untouched c.refuse_spread.ensures.answers in
    cert-by-text project text c.args.names.cert.now status before now
    (λ e. absurd (never-memory 0 (Limit 1) status before now answers e)) (record {
      alone = λ none. absurd (long-is-some text long none);
      within = λ _. refuses (refuses-long project text status before now long answers);
    })

-- ---- no text

pub returns-in-Err-clause-only_prints : goal.returns-in-Err-clause-only_prints
returns-in-Err-clause-only_prints g c = untouched_prints _ _ c.read_spread_file.ensures.untouched
