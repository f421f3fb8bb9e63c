use Rattle.std.proofs.Common.{sym, subst}
use Rattle.hyd_spread_targets.specs.InquiriesWithin.{spread_for, target_within}
use Rattle.hyd_command_answers.specs.DeskContents.{seen}
use Rattle.hyd_command_answers.specs.declared.status.Status.{Status}
use Rattle.hyd_spread_target_commands.specs.SpreadBrackets.{AnswersFireOver}
use Rattle.hyd_spread_target_commands.proofs.StatusesOfBrackets.{bracket_found, bracket_cut_off}
use Rattle.hyd_spread_target_commands.proofs.fire_over.answer_bracket.Goals as goal

pub returns-in-Ok-clause-answers : goal.returns-in-Ok-clause-answers
returns-in-Ok-clause-answers g c name named =
    bracket_found c.args.project.now name (target_within c.args.project.now c.args.inquiry.now) c.args.rounds
    (spread_for c.args.inquiry.now) _ _ c.requires.in_range (c.in-Ok.ensures.whole name named)

pub returns-in-Err-clause-answers : goal.returns-in-Err-clause-answers
returns-in-Err-clause-answers g c name named =
    let target = target_within c.args.project.now c.args.inquiry.now in
    let spread = spread_for c.args.inquiry.now in
    let before = seen g.D.Desk.files g.D.Desk.written g.D.Desk.printed c.args.desk.now in
    let now = seen g.D.Desk.files g.D.Desk.written g.D.Desk.printed c.print_bracket.new.desk in
    subst (λ (s : Status). AnswersFireOver c.args.project.now name target c.args.rounds spread s before now)
    (sym c.fault_status.ensures)
    (bracket_cut_off c.args.project.now name target c.args.rounds spread c.in-Err.fault before now
    c.requires.in_range (c.in-Err.ensures.front name named))
