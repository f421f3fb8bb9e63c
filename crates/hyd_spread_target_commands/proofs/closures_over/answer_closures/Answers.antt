use Rattle.std.proofs.Common.{sym, subst}
use Rattle.hyd_spread_targets.specs.InquiriesWithin.{spread_for, target_within}
use Rattle.hyd_command_answers.specs.DeskContents.{seen}
use Rattle.hyd_command_answers.specs.declared.status.Status.{Status}
use Rattle.hyd_spread_target_commands.specs.SpreadClosures.{AnswersClosuresOver}
use Rattle.hyd_spread_target_commands.proofs.StatusesOfClosures.{closures_found, closures_cut_off}
use Rattle.hyd_spread_target_commands.proofs.closures_over.answer_closures.Goals as goal

pub returns-in-Ok-clause-answers : goal.returns-in-Ok-clause-answers
returns-in-Ok-clause-answers g c =
    closures_found c.args.project.now (target_within c.args.project.now c.args.inquiry.now) c.args.rounds
    (spread_for c.args.inquiry.now) _ _ c.requires.in_range c.in-Ok.ensures.whole

pub returns-in-Err-clause-answers : goal.returns-in-Err-clause-answers
returns-in-Err-clause-answers g c =
    let target = target_within c.args.project.now c.args.inquiry.now in
    let spread = spread_for c.args.inquiry.now in
    let before = seen g.D.Desk.files g.D.Desk.written g.D.Desk.printed c.args.desk.now in
    let now = seen g.D.Desk.files g.D.Desk.written g.D.Desk.printed c.print_closures.new.desk in
    subst (λ (s : Status). AnswersClosuresOver c.args.project.now target c.args.rounds spread s before now)
    (sym c.fault_status.ensures)
    (closures_cut_off c.args.project.now target c.args.rounds spread c.in-Err.fault before now c.in-Err.ensures.cut_off)
