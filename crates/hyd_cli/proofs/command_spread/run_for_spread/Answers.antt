-- What the calls of a run for a spread leave, said of its start.
use Rattle.std.proofs.Common.{◌≡◌, ◌⊎◌, ◌∙◌, Option, inl, ap, subst}
use Rattle.hyd_io.specs.DeskBytes.{Files, file_at}
use Rattle.hyd_spec_input.specs.Faults.{IsFault}
use Rattle.hyd_theorems_on_input.proofs.OneFault.{one_fault, no_fault_beside}
use Rattle.hyd_command_words.specs.CommandView.{run_seen, spread_run_seen}
use Rattle.hyd_command_answers.specs.DeskContents.{Seen, seen}
use Rattle.hyd_command_answers.specs.FaultsAndRefusals.{AnswersRefused}
use Rattle.hyd_command_answers.specs.WrittenCertificates.{Holds}
use Rattle.hyd_command_answers.specs.declared.status.Status.{Status}
use Rattle.hyd_command_answers.specs.declared.status.Status.TheVariants.{ReadFault, OutOfMemory}
use Rattle.hyd_spread_command.specs.SpreadAnswers.{LeavesRunOver}
use Rattle.hyd_command_answers.proofs.AnswerLemmas.{since_before, refused_since, same_refusal, refusal_never_usage}
use Rattle.hyd_cli.proofs.AnswerLemmas.{refused_holds_since}
use Rattle.hyd_cli.proofs.SpreadOrderLemmas.{run_leaves_since, run_never_usage, answers_since, opens_three}
use Rattle.hyd_cli.proofs.SpreadOrderLemmas.{refusal_leaves_since, refusal_ends, ended_leaves, ended_does}
use Rattle.hyd_cli.proofs.command_spread.run_for_spread.Goals as goal

-- ---- a network was read

pub returns-in-Ok-clause-leaves : goal.returns-in-Ok-clause-leaves
returns-in-Ok-clause-leaves g c =
    let before = seen g.D.Desk.files g.D.Desk.written g.D.Desk.printed c.args.desk.now in
    let between = seen g.D.Desk.files g.D.Desk.written g.D.Desk.printed c.read_network.new.desk in
    let now = seen g.D.Desk.files g.D.Desk.written g.D.Desk.printed c.run_project.new.desk in
    run_leaves_since c.run_project.result before between now c.read_network.ensures.untouched
    c.run_project.ensures.leaves

pub returns-in-Ok-clause-never_usage : goal.returns-in-Ok-clause-never_usage
returns-in-Ok-clause-never_usage g c = run_never_usage c.run_project.result _ _ c.run_project.ensures.leaves

pub returns-in-Ok-clause-does : goal.returns-in-Ok-clause-does
returns-in-Ok-clause-does g c =
    let before = seen g.D.Desk.files g.D.Desk.written g.D.Desk.printed c.args.desk.now in
    let between = seen g.D.Desk.files g.D.Desk.written g.D.Desk.printed c.read_network.new.desk in
    let now = seen g.D.Desk.files g.D.Desk.written g.D.Desk.printed c.run_project.new.desk in
    record {
      refused = λ net line why told fault.
          absurd (no_fault_beside net line why fault (c.in-Ok.ensures.no_fault net told));
      runs = λ net text told none told_too. answers_since net text c.in-Ok.project (run_seen c.args.words.now.run)
          c.run_project.result before between now c.read_network.ensures.untouched (c.in-Ok.ensures.project net told)
          (c.run_project.ensures.answers text
          (ap (λ (files : Option Files). file_at files c.args.words.now.spread.now)
          c.read_network.ensures.untouched.files
          ∙ told_too));
      refuses_spread = λ net told none is. subst (λ (s : Status). LeavesRunOver s before now) is
          (since_before (λ (b : Seen). LeavesRunOver c.run_project.result b now) before between
          c.read_network.ensures.untouched c.run_project.ensures.leaves);
      holds = since_before (λ (b : Seen). Holds c.run_project.result c.args.words.now.run.files.cert.now b now)
          before between c.read_network.ensures.untouched c.run_project.ensures.holds;
      others = λ other differs. c.run_project.ensures.others other differs
          ∙ ap (λ (files : Option Files). file_at files other) c.read_network.ensures.untouched.files;
      once = opens_three c.run_project.result _ _ _ c.read_network.ensures.opened c.run_project.ensures.once;
    }

-- ---- the text of NET has a fault

pub returns-in-Err-Fault-clause-leaves : goal.returns-in-Err-Fault-clause-leaves
returns-in-Err-Fault-clause-leaves g c =
    let before = seen g.D.Desk.files g.D.Desk.written g.D.Desk.printed c.args.desk.now in
    let between = seen g.D.Desk.files g.D.Desk.written g.D.Desk.printed c.read_network.new.desk in
    let now = seen g.D.Desk.files g.D.Desk.written g.D.Desk.printed c.refuse_text.new.desk in
    refusal_leaves_since _ _ c.refuse_text.result before between now c.read_network.ensures.untouched
    c.refuse_text.ensures.answers

pub returns-in-Err-Fault-clause-never_usage : goal.returns-in-Err-Fault-clause-never_usage
returns-in-Err-Fault-clause-never_usage g c =
    refusal_never_usage _ _ c.refuse_text.result _ _ c.refuse_text.ensures.answers

pub returns-in-Err-Fault-clause-does : goal.returns-in-Err-Fault-clause-does
returns-in-Err-Fault-clause-does g c =
    let before = seen g.D.Desk.files g.D.Desk.written g.D.Desk.printed c.args.desk.now in
    let between = seen g.D.Desk.files g.D.Desk.written g.D.Desk.printed c.read_network.new.desk in
    let now = seen g.D.Desk.files g.D.Desk.written g.D.Desk.printed c.refuse_text.new.desk in
    let line = c.in-Err-Fault.fault.line in
    let cause = c.in-Err-Fault.fault.cause in
    let answered : AnswersRefused line cause c.refuse_text.result between now =
    rw c.in-Err-Fault.field-0-is at c.refuse_text.ensures.answers in
    let refuses = refused_since line cause c.refuse_text.result before between now c.read_network.ensures.untouched
    answered in
    record {
      refused = λ net other why told fault.
          let found : IsFault net line cause =
          rw c.in-Err-Fault.field-0-is at (c.in-Err-Fault.ensures.fault net told) in
          let same = one_fault net line other cause why found fault in
          same_refusal line other cause why c.refuse_text.result before now same.lines same.causes refuses;
      runs = λ net text told none told_too.
          let found : IsFault net line cause =
          rw c.in-Err-Fault.field-0-is at (c.in-Err-Fault.ensures.fault net told) in
          absurd (no_fault_beside net line cause found none);
      refuses_spread = λ net told none is.
          let found : IsFault net line cause =
          rw c.in-Err-Fault.field-0-is at (c.in-Err-Fault.ensures.fault net told) in
          absurd (no_fault_beside net line cause found none);
      holds = refused_holds_since line cause c.refuse_text.result _ before between now c.read_network.ensures.untouched
          answered;
      others = λ other differs. c.refuse_text.ensures.others other
          ∙ ap (λ (files : Option Files). file_at files other) c.read_network.ensures.untouched.files;
      once = inl (refusal_ends line cause c.refuse_text.result between now _ _ answered
          (c.refuse_text.ensures.openings_stay ∙ c.read_network.ensures.opened));
    }

-- ---- NET couldn't be read

pub returns-in-Err-Ended-clause-leaves : goal.returns-in-Err-Ended-clause-leaves
returns-in-Err-Ended-clause-leaves g c =
    let why : (c.in-Err-Ended.status ≡ ReadFault) ⊎ (c.in-Err-Ended.status ≡ OutOfMemory) =
    rw c.in-Err-Ended.field-0-is at c.in-Err-Ended.ensures.why in
    rw c.in-Err-Ended.field-0-is (ended_leaves c.in-Err-Ended.status _ _ why c.read_network.ensures.untouched)

pub returns-in-Err-Ended-clause-does : goal.returns-in-Err-Ended-clause-does
returns-in-Err-Ended-clause-does g c =
    let why : (c.in-Err-Ended.status ≡ ReadFault) ⊎ (c.in-Err-Ended.status ≡ OutOfMemory) =
    rw c.in-Err-Ended.field-0-is at c.in-Err-Ended.ensures.why in
    rw c.in-Err-Ended.field-0-is (ended_does (spread_run_seen c.args.words.now) c.in-Err-Ended.status _ _ _ _ why
    c.read_network.ensures.untouched c.read_network.ensures.opened)
