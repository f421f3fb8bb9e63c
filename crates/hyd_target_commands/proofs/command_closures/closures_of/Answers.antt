-- The pressure is that of the words.
use Rattle.std.proofs.Common.{ℤ, ap, subst}
use Rattle.hyd_num.specs.Rational.{Rational}
use Rattle.hyd_spec.specs.DemandsHeadsAndPumpLifts.{is_us}
use Rattle.hyd_targets.specs.Inquiries.{target_pressure}
use Rattle.hyd_command_answers.specs.DeskContents.{seen}
use Rattle.hyd_target_commands.specs.ClosuresAnswers.{AnswersClosures}
use Rattle.hyd_target_commands.proofs.StatusesOfTargets.{untouched}
use Rattle.hyd_target_commands.proofs.command_closures.closures_of.Goals as goal

pub returns-in-Ok-clause-answers : goal.returns-in-Ok-clause-answers
returns-in-Ok-clause-answers g c =
    let project = c.args.project.now in
    let before = seen g.D.Desk.files g.D.Desk.written g.D.Desk.printed c.args.desk.now in
    let now = seen g.D.Desk.files g.D.Desk.written g.D.Desk.printed c.ask_closures.new.desk in
    subst (λ (t : Rational). AnswersClosures project t c.args.words.now.rounds c.ask_closures.result before now)
    (ap (λ (n : ℤ). target_pressure (is_us project) n) c.in-Ok.ensures.pressure)
    c.ask_closures.ensures.answers

pub returns-in-Err-clause-answers : goal.returns-in-Err-clause-answers
returns-in-Err-clause-answers g c = untouched _
