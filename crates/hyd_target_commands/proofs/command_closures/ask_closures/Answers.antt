-- The pressure is that with which the inquiry was opened.
use Rattle.std.proofs.Common.{ap, subst}
use Rattle.hyd_num.specs.Rational.{Rational}
use Rattle.hyd_num.specs.declared.decimals.Decimal.{Decimal}
use Rattle.hyd_spec.specs.DemandsHeadsAndPumpLifts.{is_us}
use Rattle.hyd_targets.specs.Inquiries.{target_for, target_pressure}
use Rattle.hyd_command_answers.specs.DeskContents.{seen}
use Rattle.hyd_target_commands.specs.ClosuresAnswers.{AnswersClosures}
use Rattle.hyd_target_commands.proofs.StatusesOfTargets.{demand_closes}
use Rattle.hyd_target_commands.proofs.command_closures.ask_closures.Goals as goal

pub returns-in-Ok-clause-answers : goal.returns-in-Ok-clause-answers
returns-in-Ok-clause-answers g c =
    let project = c.args.project.now in
    let before = seen g.D.Desk.files g.D.Desk.written g.D.Desk.printed c.args.desk.now in
    let now = seen g.D.Desk.files g.D.Desk.written g.D.Desk.printed c.answer_closures.new.desk in
    subst (λ (t : Rational). AnswersClosures project t c.args.rounds c.answer_closures.result before now)
    (ap (λ (p : Decimal). target_pressure (is_us project) p.nano) c.in-Ok.ensures.pressure)
    c.answer_closures.ensures.answers

pub returns-in-Err-clause-answers : goal.returns-in-Err-clause-answers
returns-in-Err-clause-answers g c =
    demand_closes c.args.project.now (target_for c.args.project.now c.args.inquiry.now) c.args.rounds
    c.stop_by_demand.result _ _ c.stop_by_demand.ensures.answers
