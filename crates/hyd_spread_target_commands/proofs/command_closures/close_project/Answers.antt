-- What the calls leave, said of the moment before the file of the spread was opened.
use Rattle.std.proofs.Common.{◌<◌, ◌^◌, ◌∙◌, ℕ, List, length, sym, subst}
use Rattle.std.proofs.lemmas.Bool.{false≢true}
use Rattle.hyd_net.specs.declared.refusal_cause.Cause.TheVariants.{Limit}
use Rattle.hyd_command_words.specs.CommandView.{closures_seen}
use Rattle.hyd_command_answers.specs.DeskContents.{Seen, seen}
use Rattle.hyd_command_answers.proofs.AnswerLemmas.{since_before}
use Rattle.hyd_target_commands.specs.BracketAnswers.{target_in}
use Rattle.hyd_target_commands.specs.ClosuresAnswers.{AnswersClosures}
use Rattle.hyd_target_commands.proofs.StatusesOfTargets.{answer_opens, ended_opens, closures_are_answer}
use Rattle.hyd_spread_files.specs.RefusedSpreads.{AnswersSpreadRefused}
use Rattle.hyd_spread_files.specs.SpreadFiles.{IsNoSpread, IsText}
use Rattle.hyd_spread_files.specs.declared.spread_file.SpreadFile.TheVariants.{Rows}
use Rattle.hyd_spread_target_commands.specs.AnswersByTexts.{AnswersWithin}
use Rattle.hyd_spread_target_commands.specs.SpreadClosures.{AnswersClosuresByText, AnswersClosuresOver}
use Rattle.hyd_spread_target_commands.specs.SpreadClosures.{LeavesClosuresOver}
use Rattle.hyd_spread_target_commands.proofs.AnswersOfTexts.{by_long, by_no_spread, by_rows, ended_unread}
use Rattle.hyd_spread_target_commands.proofs.AnswersOfTexts.{refusal_is_answer, unless_unread}
use Rattle.hyd_spread_target_commands.proofs.StatusesOfClosures.{alone_leaves, ended_leaves, memory_untouched}
use Rattle.hyd_spread_target_commands.proofs.StatusesOfClosures.{refusal_leaves, within_is_answer, within_leaves}
use Rattle.hyd_spread_target_commands.proofs.command_closures.close_project.Goals as goal

-- ---- a text without rows

pub returns-in-Ok-NoRows-clause-answers : goal.returns-in-Ok-NoRows-clause-answers
returns-in-Ok-NoRows-clause-answers g c text told =
    let project = c.args.project in
    let order = closures_seen c.args.words.now.closures in
    let target = target_in project order.pressure in
    let before = seen g.D.Desk.files g.D.Desk.written g.D.Desk.printed c.args.desk.now in
    let between = seen g.D.Desk.files g.D.Desk.written g.D.Desk.printed c.read_spread_file.new.desk in
    let now = seen g.D.Desk.files g.D.Desk.written g.D.Desk.printed c.closures_in.new.desk in
    let status = c.closures_in.result in
    let none : IsNoSpread text = rw c.in-Ok-NoRows.field-0-is at (c.in-Ok-NoRows.ensures.text text told) in
    let found : AnswersClosures project target order.rounds status before now =
    since_before (λ (b : Seen). AnswersClosures project target order.rounds status b now) before between
    c.read_spread_file.ensures.untouched c.closures_in.ensures.answers in
    unless_unread (AnswersClosuresByText project text order) status before now
    (closures_are_answer project target order.rounds status before now found)
    (memory_untouched status before now
    (alone_leaves project target order.rounds status before now found))
    (by_no_spread (AnswersClosures project target order.rounds)
    (AnswersClosuresOver project target order.rounds) project text status before now none found)

pub returns-in-Ok-NoRows-clause-leaves : goal.returns-in-Ok-NoRows-clause-leaves
returns-in-Ok-NoRows-clause-leaves g c =
    let project = c.args.project in
    let order = closures_seen c.args.words.now.closures in
    let before = seen g.D.Desk.files g.D.Desk.written g.D.Desk.printed c.args.desk.now in
    let between = seen g.D.Desk.files g.D.Desk.written g.D.Desk.printed c.read_spread_file.new.desk in
    let now = seen g.D.Desk.files g.D.Desk.written g.D.Desk.printed c.closures_in.new.desk in
    since_before (λ (b : Seen). LeavesClosuresOver c.closures_in.result b now) before between
    c.read_spread_file.ensures.untouched (alone_leaves project (target_in project order.pressure)
    order.rounds c.closures_in.result between now c.closures_in.ensures.answers)

pub returns-in-Ok-NoRows-clause-once : goal.returns-in-Ok-NoRows-clause-once
returns-in-Ok-NoRows-clause-once g c =
    let order = closures_seen c.args.words.now.closures in
    answer_opens c.closures_in.result (g.D.Desk.openings c.args.desk.now)
    (g.D.Desk.openings c.read_spread_file.new.desk) (g.D.Desk.openings c.closures_in.new.desk)
    (closures_are_answer c.args.project (target_in c.args.project order.pressure) order.rounds
    c.closures_in.result _ _ c.closures_in.ensures.answers)
    c.read_spread_file.ensures.opened c.closures_in.ensures.openings_stay

-- ---- a text with rows

pub returns-in-Ok-Rows-clause-answers : goal.returns-in-Ok-Rows-clause-answers
returns-in-Ok-Rows-clause-answers g c text told =
    let project = c.args.project in
    let order = closures_seen c.args.words.now.closures in
    let target = target_in project order.pressure in
    let before = seen g.D.Desk.files g.D.Desk.written g.D.Desk.printed c.args.desk.now in
    let between = seen g.D.Desk.files g.D.Desk.written g.D.Desk.printed c.read_spread_file.new.desk in
    let now = seen g.D.Desk.files g.D.Desk.written g.D.Desk.printed c.closures_within.new.desk in
    let status = c.closures_within.result in
    let found : IsText text (Rows c.in-Ok-Rows.text) =
    rw c.in-Ok-Rows.field-0-is at (c.in-Ok-Rows.ensures.text text told) in
    let answered : AnswersWithin (AnswersClosuresOver project target order.rounds) project text status before
    now =
    since_before (λ (b : Seen). AnswersWithin (AnswersClosuresOver project target order.rounds) project text
    status b now) before between c.read_spread_file.ensures.untouched
    (subst (λ (t : List ℕ). AnswersWithin (AnswersClosuresOver project target order.rounds) project t status
    between now) (c.deref.ensures.value ∙ found.0) c.closures_within.ensures.answers) in
    unless_unread (AnswersClosuresByText project text order) status before now
    (within_is_answer project target order.rounds text status before now answered)
    (memory_untouched status before now
    (within_leaves project target order.rounds text status before now answered))
    (by_rows (AnswersClosures project target order.rounds)
    (AnswersClosuresOver project target order.rounds) project text status before now
    (λ none. false≢true (sym none.rows ∙ found.1)) answered)

pub returns-in-Ok-Rows-clause-leaves : goal.returns-in-Ok-Rows-clause-leaves
returns-in-Ok-Rows-clause-leaves g c =
    let project = c.args.project in
    let order = closures_seen c.args.words.now.closures in
    let before = seen g.D.Desk.files g.D.Desk.written g.D.Desk.printed c.args.desk.now in
    let between = seen g.D.Desk.files g.D.Desk.written g.D.Desk.printed c.read_spread_file.new.desk in
    let now = seen g.D.Desk.files g.D.Desk.written g.D.Desk.printed c.closures_within.new.desk in
    since_before (λ (b : Seen). LeavesClosuresOver c.closures_within.result b now) before between
    c.read_spread_file.ensures.untouched (within_leaves project (target_in project order.pressure)
    order.rounds c.deref.result.now c.closures_within.result between now c.closures_within.ensures.answers)

pub returns-in-Ok-Rows-clause-once : goal.returns-in-Ok-Rows-clause-once
returns-in-Ok-Rows-clause-once g c =
    let order = closures_seen c.args.words.now.closures in
    answer_opens c.closures_within.result (g.D.Desk.openings c.args.desk.now)
    (g.D.Desk.openings c.read_spread_file.new.desk) (g.D.Desk.openings c.closures_within.new.desk)
    (within_is_answer c.args.project (target_in c.args.project order.pressure) order.rounds
    c.deref.result.now c.closures_within.result _ _ c.closures_within.ensures.answers)
    c.read_spread_file.ensures.opened c.closures_within.ensures.openings_stay

-- ---- a text of more than 64 MiB

pub returns-in-Ok-TooLong-clause-answers : goal.returns-in-Ok-TooLong-clause-answers
returns-in-Ok-TooLong-clause-answers g c text told =
    let project = c.args.project in
    let order = closures_seen c.args.words.now.closures in
    let target = target_in project order.pressure in
    let before = seen g.D.Desk.files g.D.Desk.written g.D.Desk.printed c.args.desk.now in
    let between = seen g.D.Desk.files g.D.Desk.written g.D.Desk.printed c.read_spread_file.new.desk in
    let now = seen g.D.Desk.files g.D.Desk.written g.D.Desk.printed c.refuse_spread.new.desk in
    let status = c.refuse_spread.result in
    let long : 2 ^ 26 < length text = rw c.in-Ok-TooLong.field-0-is at (c.in-Ok-TooLong.ensures.text text told) in
    let answered : AnswersSpreadRefused 0 (Limit 1) status before now =
    since_before (λ (b : Seen). AnswersSpreadRefused 0 (Limit 1) status b now) before between
    c.read_spread_file.ensures.untouched c.refuse_spread.ensures.answers in
    unless_unread (AnswersClosuresByText project text order) status before now
    (refusal_is_answer 0 (Limit 1) status before now answered)
    (memory_untouched status before now
    (refusal_leaves 0 (Limit 1) status before now answered))
    (by_long (AnswersClosures project target order.rounds)
    (AnswersClosuresOver project target order.rounds) project text status before now long answered)

pub returns-in-Ok-TooLong-clause-leaves : goal.returns-in-Ok-TooLong-clause-leaves
returns-in-Ok-TooLong-clause-leaves g c =
    let before = seen g.D.Desk.files g.D.Desk.written g.D.Desk.printed c.args.desk.now in
    let between = seen g.D.Desk.files g.D.Desk.written g.D.Desk.printed c.read_spread_file.new.desk in
    let now = seen g.D.Desk.files g.D.Desk.written g.D.Desk.printed c.refuse_spread.new.desk in
    since_before (λ (b : Seen). LeavesClosuresOver c.refuse_spread.result b now) before between
    c.read_spread_file.ensures.untouched
    (refusal_leaves 0 (Limit 1) c.refuse_spread.result between now c.refuse_spread.ensures.answers)

pub returns-in-Ok-TooLong-clause-once : goal.returns-in-Ok-TooLong-clause-once
returns-in-Ok-TooLong-clause-once g c =
    answer_opens c.refuse_spread.result (g.D.Desk.openings c.args.desk.now)
    (g.D.Desk.openings c.read_spread_file.new.desk) (g.D.Desk.openings c.refuse_spread.new.desk)
    (refusal_is_answer 0 (Limit 1) c.refuse_spread.result _ _ c.refuse_spread.ensures.answers)
    c.read_spread_file.ensures.opened c.refuse_spread.ensures.openings_stay

-- ---- no text

pub returns-in-Err-clause-answers : goal.returns-in-Err-clause-answers
returns-in-Err-clause-answers g c text told =
    ended_unread (AnswersClosuresByText c.args.project text (closures_seen c.args.words.now.closures))
    c.in-Err.status _ _ c.in-Err.ensures.why c.read_spread_file.ensures.untouched

pub returns-in-Err-clause-leaves : goal.returns-in-Err-clause-leaves
returns-in-Err-clause-leaves g c =
    ended_leaves c.in-Err.status _ _ c.in-Err.ensures.why
    c.read_spread_file.ensures.untouched

pub returns-in-Err-clause-once : goal.returns-in-Err-clause-once
returns-in-Err-clause-once g c =
    ended_opens c.in-Err.status _ _ c.in-Err.ensures.why c.read_spread_file.ensures.opened
