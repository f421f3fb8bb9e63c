-- The run is of the network that was read, and want of memory leaves all as it was.
use Rattle.std.proofs.Common.{ap, sym, subst, ◌∙◌}
use Rattle.hyd_spec.specs.ProgramTypes.{Project}
use Rattle.hyd_spec_certificates.specs.RecordAndStanding.{initial_standing}
use Rattle.hyd_sim.specs.declared.settings.Settings.{Settings}
use Rattle.hyd_command_answers.specs.DeskContents.{seen}
use Rattle.hyd_check_command.specs.CheckAnswers.{AnswersCert}
use Rattle.hyd_check_command.specs.OpenCheckAnswers.{AnswersOpenCert}
use Rattle.hyd_check_command.proofs.CheckLemmas.{prints_nothing}
use Rattle.hyd_check_command.proofs.whole_check.check_network.Goals as goal

pub check_in_room-requires-clause-start : goal.check_in_room-requires-clause-start
check_in_room-requires-clause-start g c =
    c.in-Ok.ensures.standing ∙ ap initial_standing (sym c.in-Ok.ensures.project)

pub check_in_room-requires-clause-settings : goal.check_in_room-requires-clause-settings
check_in_room-requires-clause-settings g c = ap (λ (s : Settings). s.rounds) c.in-Ok.ensures.settings

pub returns-in-Ok-clause-answers : goal.returns-in-Ok-clause-answers
returns-in-Ok-clause-answers g c certificate told begins =
    let before = seen g.D.Desk.files g.D.Desk.written g.D.Desk.printed c.args.desk.now in
    let now = seen g.D.Desk.files g.D.Desk.written g.D.Desk.printed c.check_in_room.new.desk in
    subst (λ (p : Project). AnswersCert p certificate c.check_in_room.result before now) c.in-Ok.ensures.project
    (c.check_in_room.ensures.answers certificate told begins)

pub returns-in-Ok-clause-answers_openly : goal.returns-in-Ok-clause-answers_openly
returns-in-Ok-clause-answers_openly g c certificate told begins =
    let before = seen g.D.Desk.files g.D.Desk.written g.D.Desk.printed c.args.desk.now in
    let now = seen g.D.Desk.files g.D.Desk.written g.D.Desk.printed c.check_in_room.new.desk in
    subst (λ (p : Project). AnswersOpenCert p certificate c.check_in_room.result before now) c.in-Ok.ensures.project
    (c.check_in_room.ensures.answers_openly certificate told begins)

pub returns-in-Err-clause-only_prints : goal.returns-in-Err-clause-only_prints
returns-in-Err-clause-only_prints g c = prints_nothing _
