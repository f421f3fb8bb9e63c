-- The status says how it ended.
use Rattle.std.proofs.Common.{sym, subst}
use Rattle.hyd_run.specs.Runs.{outcome_of}
use Rattle.hyd_command_words.specs.CommandView.{files_seen}
use Rattle.hyd_command_answers.specs.DeskContents.{seen}
use Rattle.hyd_command_answers.specs.FaultsAndRefusals.{HasCause}
use Rattle.hyd_cli.specs.GenAnswers.{AnswersGenerated, CreatesBoth}
use Rattle.hyd_command_answers.specs.declared.status.Status.{Status}
use Rattle.hyd_command_answers.proofs.AnswerLemmas.{cause_of_end, cause_of_fault}
use Rattle.hyd_cli.proofs.GenLemmas.{generated_end, generated_fault, creates_of_end, creates_of_fault}
use Rattle.hyd_cli.proofs.command_gen.run_generated.Goals as goal

-- ---- the run was put out whole

pub returns-in-Ok-clause-cause : goal.returns-in-Ok-clause-cause
returns-in-Ok-clause-cause g c =
    subst (λ (s : Status). HasCause s (g.D.Desk.counts c.args.desk.now) (g.D.Desk.counts c.put_generated.new.desk))
    (sym c.status_of_end.ensures) (cause_of_end (outcome_of c.in-Ok.end) _ _ c.in-Ok.ensures.steady)

pub returns-in-Ok-clause-answers : goal.returns-in-Ok-clause-answers
returns-in-Ok-clause-answers g c =
    let before = seen g.D.Desk.files g.D.Desk.written g.D.Desk.printed c.args.desk.now in
    let now = seen g.D.Desk.files g.D.Desk.written g.D.Desk.printed c.put_generated.new.desk in
    let writable = g.D.Desk.ready c.put_generated.new.desk in
    subst (λ (s : Status). AnswersGenerated c.args.sim.now.project c.args.text.now (files_seen c.args.files) s before
    now (g.D.Desk.openings c.args.desk.now) (g.D.Desk.openings c.put_generated.new.desk) writable)
    (sym c.status_of_end.ensures) (generated_end c.args.sim.now.project c.args.text.now (files_seen c.args.files)
    (outcome_of c.in-Ok.end) before now _ _ writable c.in-Ok.ensures.whole)

pub returns-in-Ok-clause-once : goal.returns-in-Ok-clause-once
returns-in-Ok-clause-once g c =
    subst (λ (s : Status). CreatesBoth s (g.D.Desk.openings c.args.desk.now) (g.D.Desk.openings
    c.put_generated.new.desk)) (sym c.status_of_end.ensures) (creates_of_end (outcome_of c.in-Ok.end) _ _
    c.in-Ok.ensures.creates)

-- ---- a fault broke it off

pub returns-in-Err-clause-cause : goal.returns-in-Err-clause-cause
returns-in-Err-clause-cause g c =
    subst (λ (s : Status). HasCause s (g.D.Desk.counts c.args.desk.now) (g.D.Desk.counts c.put_generated.new.desk))
    (sym c.fault_status.ensures) (cause_of_fault c.in-Err.fault _ _ c.in-Err.ensures.cause)

pub returns-in-Err-clause-answers : goal.returns-in-Err-clause-answers
returns-in-Err-clause-answers g c =
    let before = seen g.D.Desk.files g.D.Desk.written g.D.Desk.printed c.args.desk.now in
    let now = seen g.D.Desk.files g.D.Desk.written g.D.Desk.printed c.put_generated.new.desk in
    let writable = g.D.Desk.ready c.put_generated.new.desk in
    subst (λ (s : Status). AnswersGenerated c.args.sim.now.project c.args.text.now (files_seen c.args.files) s before
    now (g.D.Desk.openings c.args.desk.now) (g.D.Desk.openings c.put_generated.new.desk) writable)
    (sym c.fault_status.ensures) (generated_fault c.args.sim.now.project c.args.text.now (files_seen c.args.files)
    c.in-Err.fault before now _ _ writable c.in-Err.ensures.broken_off)

pub returns-in-Err-clause-once : goal.returns-in-Err-clause-once
returns-in-Err-clause-once g c =
    subst (λ (s : Status). CreatesBoth s (g.D.Desk.openings c.args.desk.now) (g.D.Desk.openings
    c.put_generated.new.desk)) (sym c.fault_status.ensures) (creates_of_fault c.in-Err.fault _ _
    c.in-Err.ensures.creates_once)
