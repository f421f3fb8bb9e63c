use Rattle.std.proofs.Common.{sym, subst}
use Rattle.hyd_command_answers.specs.DeskContents.{seen}
use Rattle.hyd_command_answers.specs.FaultsAndRefusals.{HasCause}
use Rattle.hyd_command_answers.specs.declared.status.Status.{Status}
use Rattle.hyd_witness_commands.specs.MeetAnswers.{AnswersWitness}
use Rattle.hyd_witness_commands.specs.CommandMeet.{IsAnswer, LeavesWitness}
use Rattle.hyd_witness_commands.proofs.StatusesOfMeet.{found_answers, cut_off_answers, found_leaves, cut_off_leaves}
use Rattle.hyd_witness_commands.proofs.StatusesOfMeet.{found_is_answer, cut_off_is_answer, found_cause}
use Rattle.hyd_witness_commands.proofs.answer.answer_finding.Goals as goal

pub returns-in-Ok-clause-cause : goal.returns-in-Ok-clause-cause
returns-in-Ok-clause-cause g c =
    let before = g.D.Desk.counts c.args.desk.now in
    let now = g.D.Desk.counts c.print_finding.new.desk in
    subst (λ (s : Status). HasCause s before now) (sym c.status_of.ensures)
    (found_cause c.args.finding before now c.in-Ok.ensures.steady)

pub returns-in-Ok-clause-answers : goal.returns-in-Ok-clause-answers
returns-in-Ok-clause-answers g c witness is =
    let before = seen g.D.Desk.files g.D.Desk.written g.D.Desk.printed c.args.desk.now in
    let now = seen g.D.Desk.files g.D.Desk.written g.D.Desk.printed c.print_finding.new.desk in
    subst (λ (s : Status). AnswersWitness c.args.project.now witness s before now) (sym c.status_of.ensures)
    (found_answers c.args.project.now before now c.args.finding witness c.in-Ok.ensures.whole is)

pub returns-in-Ok-clause-leaves : goal.returns-in-Ok-clause-leaves
returns-in-Ok-clause-leaves g c =
    let before = seen g.D.Desk.files g.D.Desk.written g.D.Desk.printed c.args.desk.now in
    let now = seen g.D.Desk.files g.D.Desk.written g.D.Desk.printed c.print_finding.new.desk in
    subst (λ (s : Status). LeavesWitness s before now) (sym c.status_of.ensures)
    (found_leaves c.args.project.now before now c.args.finding c.in-Ok.ensures.whole)

pub returns-in-Ok-clause-is_answer : goal.returns-in-Ok-clause-is_answer
returns-in-Ok-clause-is_answer g c =
    subst IsAnswer (sym c.status_of.ensures) (found_is_answer c.args.finding)

pub returns-in-Err-clause-answers : goal.returns-in-Err-clause-answers
returns-in-Err-clause-answers g c witness is =
    let before = seen g.D.Desk.files g.D.Desk.written g.D.Desk.printed c.args.desk.now in
    let now = seen g.D.Desk.files g.D.Desk.written g.D.Desk.printed c.print_finding.new.desk in
    subst (λ (s : Status). AnswersWitness c.args.project.now witness s before now) (sym c.fault_status.ensures)
    (cut_off_answers c.args.project.now before now c.in-Err.fault c.args.finding witness c.in-Err.ensures.front is)

pub returns-in-Err-clause-leaves : goal.returns-in-Err-clause-leaves
returns-in-Err-clause-leaves g c =
    let before = seen g.D.Desk.files g.D.Desk.written g.D.Desk.printed c.args.desk.now in
    let now = seen g.D.Desk.files g.D.Desk.written g.D.Desk.printed c.print_finding.new.desk in
    subst (λ (s : Status). LeavesWitness s before now) (sym c.fault_status.ensures)
    (cut_off_leaves c.args.project.now before now c.in-Err.fault c.args.finding c.in-Err.ensures.front)

pub returns-in-Err-clause-is_answer : goal.returns-in-Err-clause-is_answer
returns-in-Err-clause-is_answer g c =
    subst IsAnswer (sym c.fault_status.ensures) (cut_off_is_answer c.in-Err.fault)
