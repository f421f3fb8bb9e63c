-- What a run puts out, said of the moment before its file was created.
use Rattle.std.proofs.Common.{◌≡◌, ◌∙◌, sym, subst, rules}
use Rattle.hyd_io.specs.declared.desk.Faults.{Faults}
use Rattle.hyd_run.specs.Pens.{told, OneRose}
use Rattle.hyd_run.specs.Runs.{outcome_of}
use Rattle.hyd_command_answers.specs.DeskContents.{seen}
use Rattle.hyd_command_answers.specs.FaultsAndRefusals.{HasCause}
use Rattle.hyd_spread_check.specs.PassedOn.{asked_of}
use Rattle.hyd_spread_command.specs.SpreadAnswers.{AnswersRunOver}
use Rattle.hyd_command_answers.specs.OpeningsOfRuns.{OpensCert}
use Rattle.hyd_command_answers.specs.declared.status.Status.{Status}
use Rattle.hyd_command_answers.proofs.AnswerLemmas.{cause_of_end, cause_of_fault, opens_of_end}
use Rattle.hyd_spread_command.proofs.PutOutRuns.{delivered, cut_short}
use Rattle.hyd_command_answers.proofs.AnswerLemmas.{opens_of_fault, other_target}
use Rattle.hyd_spread_command.proofs.whole_run.put_run.Goals as goal

-- ---- the run was put out whole

pub returns-in-Ok-clause-answers : goal.returns-in-Ok-clause-answers
returns-in-Ok-clause-answers g c =
    let before = seen g.D.Desk.files g.D.Desk.written g.D.Desk.printed c.args.desk.now in
    let now = seen g.D.Desk.files g.D.Desk.written g.D.Desk.printed c.run_over.new.desk in
    subst (λ (s : Status). AnswersRunOver c.args.sim.now.project
    (asked_of c.args.sim.now.settings c.args.sim.now.nets.spread) c.args.cert.now s before now)
    (sym c.status_of_end.ensures)
    (delivered c.args.sim.now.project (asked_of c.args.sim.now.settings c.args.sim.now.nets.spread) c.args.cert.now
    (outcome_of c.in-Ok.end) before
    (told g.D.Desk.files g.D.Desk.rest g.D.Desk.written g.D.Desk.printed g.D.Desk.target g.D.Desk.ready g.D.Desk.counts
    g.D.Desk.openings c.create.new.self)
    (told g.D.Desk.files g.D.Desk.rest g.D.Desk.written g.D.Desk.printed g.D.Desk.target g.D.Desk.ready g.D.Desk.counts
    g.D.Desk.openings c.run_over.new.desk)
    c.in-Ok.ensures.whole (search rules) c.create.ensures.printed_stays (search rules) c.create.ensures.still_told
    c.run_over.ensures.leaves (search rules))

pub returns-in-Ok-clause-cause : goal.returns-in-Ok-clause-cause
returns-in-Ok-clause-cause g c =
    subst (λ (s : Status). HasCause s (g.D.Desk.counts c.args.desk.now) (g.D.Desk.counts c.run_over.new.desk))
    (sym c.status_of_end.ensures) (cause_of_end (outcome_of c.in-Ok.end) _ _ (search rules))

pub returns-in-Ok-clause-others : goal.returns-in-Ok-clause-others
returns-in-Ok-clause-others g c other differs =
    c.run_over.ensures.leaves.others other (other_target (g.D.Desk.files c.args.desk.now) (g.D.Desk.target
    c.create.new.self)
    c.args.cert.now other (search rules) differs) ∙ c.create.ensures.others other differs

pub returns-in-Ok-clause-opens : goal.returns-in-Ok-clause-opens
returns-in-Ok-clause-opens g c =
    subst (λ (s : Status). OpensCert s (g.D.Desk.openings c.args.desk.now) (g.D.Desk.openings c.run_over.new.desk))
    (sym c.status_of_end.ensures) (opens_of_end (outcome_of c.in-Ok.end) _ _ (c.run_over.ensures.leaves.openings_stay
    ∙ c.create.ensures.creates_once))

-- ---- a fault broke it off

pub returns-in-Err-clause-answers : goal.returns-in-Err-clause-answers
returns-in-Err-clause-answers g c =
    let before = seen g.D.Desk.files g.D.Desk.written g.D.Desk.printed c.args.desk.now in
    let now = seen g.D.Desk.files g.D.Desk.written g.D.Desk.printed c.run_over.new.desk in
    subst (λ (s : Status). AnswersRunOver c.args.sim.now.project
    (asked_of c.args.sim.now.settings c.args.sim.now.nets.spread) c.args.cert.now s before now)
    (sym c.fault_status.ensures)
    (cut_short c.args.sim.now.project (asked_of c.args.sim.now.settings c.args.sim.now.nets.spread) c.args.cert.now
    c.in-Err.fault before
    (told g.D.Desk.files g.D.Desk.rest g.D.Desk.written g.D.Desk.printed g.D.Desk.target g.D.Desk.ready g.D.Desk.counts
    g.D.Desk.openings c.create.new.self)
    (told g.D.Desk.files g.D.Desk.rest g.D.Desk.written g.D.Desk.printed g.D.Desk.target g.D.Desk.ready g.D.Desk.counts
    g.D.Desk.openings c.run_over.new.desk)
    c.in-Err.ensures.broken_off (search rules) c.create.ensures.printed_stays (search rules) c.create.ensures.still_told
    c.run_over.ensures.leaves (search rules))

pub returns-in-Err-clause-cause : goal.returns-in-Err-clause-cause
returns-in-Err-clause-cause g c =
    let steady : g.D.Desk.counts c.create.new.self ≡ g.D.Desk.counts c.args.desk.now = search rules in
    subst (λ (s : Status). HasCause s (g.D.Desk.counts c.args.desk.now) (g.D.Desk.counts c.run_over.new.desk))
    (sym c.fault_status.ensures) (cause_of_fault c.in-Err.fault _ _
    (subst (λ (n : Faults). OneRose c.in-Err.fault n (g.D.Desk.counts c.run_over.new.desk)) steady
    c.in-Err.ensures.cause))

pub returns-in-Err-clause-others : goal.returns-in-Err-clause-others
returns-in-Err-clause-others g c other differs =
    c.run_over.ensures.leaves.others other (other_target (g.D.Desk.files c.args.desk.now) (g.D.Desk.target
    c.create.new.self)
    c.args.cert.now other (search rules) differs) ∙ c.create.ensures.others other differs

pub returns-in-Err-clause-opens : goal.returns-in-Err-clause-opens
returns-in-Err-clause-opens g c =
    subst (λ (s : Status). OpensCert s (g.D.Desk.openings c.args.desk.now) (g.D.Desk.openings c.run_over.new.desk))
    (sym c.fault_status.ensures) (opens_of_fault c.in-Err.fault _ _ (c.run_over.ensures.leaves.openings_stay
    ∙ c.create.ensures.creates_once))
