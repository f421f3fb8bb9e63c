-- The pressure is that with which the inquiry was opened.
use Rattle.std.proofs.Common.{ap, subst}
use Rattle.hyd_num.specs.Rational.{Rational}
use Rattle.hyd_num.specs.declared.decimals.Decimal.{Decimal}
use Rattle.hyd_spec.specs.DemandsHeadsAndPumpLifts.{is_us}
use Rattle.hyd_targets.specs.Inquiries.{target_for, target_pressure}
use Rattle.hyd_command_answers.specs.DeskContents.{seen}
use Rattle.hyd_target_commands.specs.BracketAnswers.{AnswersFire}
use Rattle.hyd_target_commands.proofs.StatusesOfTargets.{demand_fires}
use Rattle.hyd_target_commands.proofs.command_fire.ask_bracket.Goals as goal

pub returns-in-Ok-clause-answers : goal.returns-in-Ok-clause-answers
returns-in-Ok-clause-answers g c name named =
    let project = c.args.project.now in
    let before = seen g.D.Desk.files g.D.Desk.written g.D.Desk.printed c.args.desk.now in
    let now = seen g.D.Desk.files g.D.Desk.written g.D.Desk.printed c.answer_bracket.new.desk in
    subst (λ (t : Rational). AnswersFire project name t c.args.rounds c.answer_bracket.result before now)
    (ap (λ (p : Decimal). target_pressure (is_us project) p.nano) c.in-Ok.ensures.pressure)
    (c.answer_bracket.ensures.answers name named)

pub returns-in-Err-clause-answers : goal.returns-in-Err-clause-answers
returns-in-Err-clause-answers g c name named =
    demand_fires c.args.project.now name (target_for c.args.project.now c.args.inquiry.now) c.args.rounds
    c.args.junction c.stop_by_demand.result _ _ named c.stop_by_demand.ensures.answers
