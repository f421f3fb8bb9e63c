-- What the calls of a check for a spread leave, said of its start.
use Rattle.std.proofs.Common.{◌≡◌, ◌⊎◌, inl, inr, subst, rules}
use Rattle.hyd_io.specs.declared.desk.Openings.{Openings}
use Rattle.hyd_spec_input.specs.Faults.{IsFault}
use Rattle.hyd_theorems_on_input.proofs.OneFault.{one_fault, no_fault_beside}
use Rattle.hyd_command_answers.specs.DeskContents.{Seen, seen}
use Rattle.hyd_command_answers.specs.FaultsAndRefusals.{AnswersRefused}
use Rattle.hyd_command_answers.specs.declared.status.Status.{Status}
use Rattle.hyd_command_answers.specs.declared.status.Status.TheVariants.{ReadFault, OutOfMemory}
use Rattle.hyd_command_answers.proofs.AnswerLemmas.{since_before, refused_since, same_refusal}
use Rattle.hyd_check_command.specs.CheckAnswers.{ReadsBoth}
use Rattle.hyd_check_command.proofs.CheckLemmas.{prints_since, refused_prints_since, refused_check_leaves}
use Rattle.hyd_check_command.proofs.CheckLemmas.{untouched_prints, ended_leaves, ended_refused, ended_not_refused}
use Rattle.hyd_spread_command.specs.SpreadChecks.{LeavesCertOver}
use Rattle.hyd_spread_command.specs.SpreadOrders.{AnswersSpreadCert}
use Rattle.hyd_spread_files.proofs.RefusalLemmas.{ended-at-net, refusal-ends}
use Rattle.hyd_spread_command.proofs.SpreadTextLemmas.{net-answers, cert-leaves-over, check-leaves-over, ended-check}
use Rattle.hyd_spread_command.proofs.check_command.check_for_spread.Goals as goal

-- ---- a network was read

pub returns-in-Ok-clause-leaves : goal.returns-in-Ok-clause-leaves
returns-in-Ok-clause-leaves g c =
    let before = seen g.D.Desk.files g.D.Desk.written g.D.Desk.printed c.args.desk.now in
    let between = seen g.D.Desk.files g.D.Desk.written g.D.Desk.printed c.read_network.new.desk in
    let now = seen g.D.Desk.files g.D.Desk.written g.D.Desk.printed c.check_project.new.desk in
    let status = c.check_project.result in
    cert-leaves-over status before now (since_before (λ (b : Seen). LeavesCertOver status b now) before between
    c.read_network.ensures.untouched c.check_project.ensures.leaves)

pub returns-in-Ok-clause-does : goal.returns-in-Ok-clause-does
returns-in-Ok-clause-does g c =
    let before = seen g.D.Desk.files g.D.Desk.written g.D.Desk.printed c.args.desk.now in
    let between = seen g.D.Desk.files g.D.Desk.written g.D.Desk.printed c.read_network.new.desk in
    let now = seen g.D.Desk.files g.D.Desk.written g.D.Desk.printed c.check_project.new.desk in
    let status = c.check_project.result in
    let cert = c.args.words.now.files.cert.now in
    record {
      refused = λ net line why told fault. absurd (no_fault_beside net line why fault
          (c.in-Ok.ensures.no_fault net told));
      checks = λ net text told none text_told. net-answers net text cert c.in-Ok.project status before now
          (c.in-Ok.ensures.project net told)
          (since_before (λ (b : Seen). AnswersSpreadCert c.in-Ok.project text cert status b now) before between
          c.read_network.ensures.untouched (c.check_project.ensures.answers text (search rules)));
      refuses_spread = λ net told none is. subst (λ (s : Status). LeavesCertOver s before now) is
          (since_before (λ (b : Seen). LeavesCertOver status b now) before between c.read_network.ensures.untouched
          c.check_project.ensures.leaves);
      only_prints = prints_since before between now c.read_network.ensures.untouched
          c.check_project.ensures.only_prints;
      once = inr (subst (λ (o : Openings). ReadsBoth status o (g.D.Desk.openings c.check_project.new.desk))
          c.read_network.ensures.opened c.check_project.ensures.once);
    }

-- ---- the text of NET has a fault

pub returns-in-Err-Fault-clause-leaves : goal.returns-in-Err-Fault-clause-leaves
returns-in-Err-Fault-clause-leaves g c =
    let before = seen g.D.Desk.files g.D.Desk.written g.D.Desk.printed c.args.desk.now in
    let between = seen g.D.Desk.files g.D.Desk.written g.D.Desk.printed c.read_network.new.desk in
    let now = seen g.D.Desk.files g.D.Desk.written g.D.Desk.printed c.refuse_text.new.desk in
    check-leaves-over c.refuse_text.result before now (refused_check_leaves _ _ c.refuse_text.result before between now
    c.read_network.ensures.untouched c.refuse_text.ensures.answers)

pub returns-in-Err-Fault-clause-does : goal.returns-in-Err-Fault-clause-does
returns-in-Err-Fault-clause-does g c =
    let before = seen g.D.Desk.files g.D.Desk.written g.D.Desk.printed c.args.desk.now in
    let between = seen g.D.Desk.files g.D.Desk.written g.D.Desk.printed c.read_network.new.desk in
    let now = seen g.D.Desk.files g.D.Desk.written g.D.Desk.printed c.refuse_text.new.desk in
    let status = c.refuse_text.result in
    let here = c.in-Err-Fault.fault in
    let answered : AnswersRefused here.line here.cause status between now =
    rw c.in-Err-Fault.field-0-is at c.refuse_text.ensures.answers in
    record {
      refused = λ net line why told fault.
          let found : IsFault net here.line here.cause =
          rw c.in-Err-Fault.field-0-is at (c.in-Err-Fault.ensures.fault net told) in
          let same = one_fault net here.line line here.cause why found fault in
          same_refusal here.line line here.cause why status before now same.lines same.causes
          (refused_since here.line here.cause status before between now c.read_network.ensures.untouched answered);
      checks = λ net text told none text_told.
          let found : IsFault net here.line here.cause =
          rw c.in-Err-Fault.field-0-is at (c.in-Err-Fault.ensures.fault net told) in
          absurd (no_fault_beside net here.line here.cause found none);
      refuses_spread = λ net told none is.
          let found : IsFault net here.line here.cause =
          rw c.in-Err-Fault.field-0-is at (c.in-Err-Fault.ensures.fault net told) in
          absurd (no_fault_beside net here.line here.cause found none);
      only_prints = refused_prints_since here.line here.cause status before between now
          c.read_network.ensures.untouched answered;
      once = inl (refusal-ends here.line here.cause status between now (g.D.Desk.openings c.args.desk.now)
          (g.D.Desk.openings c.read_network.new.desk) (g.D.Desk.openings c.refuse_text.new.desk) answered
          c.read_network.ensures.opened c.refuse_text.ensures.openings_stay);
    }

-- ---- a status ends the command

pub returns-in-Err-Ended-clause-leaves : goal.returns-in-Err-Ended-clause-leaves
returns-in-Err-Ended-clause-leaves g c =
    let before = seen g.D.Desk.files g.D.Desk.written g.D.Desk.printed c.args.desk.now in
    let now = seen g.D.Desk.files g.D.Desk.written g.D.Desk.printed c.read_network.new.desk in
    let why : (c.in-Err-Ended.status ≡ ReadFault) ⊎ (c.in-Err-Ended.status ≡ OutOfMemory) =
    rw c.in-Err-Ended.field-0-is at c.in-Err-Ended.ensures.why in
    rw c.in-Err-Ended.field-0-is (check-leaves-over c.in-Err-Ended.status before now
    (ended_leaves c.in-Err-Ended.status before now c.read_network.ensures.untouched why))

pub returns-in-Err-Ended-clause-does : goal.returns-in-Err-Ended-clause-does
returns-in-Err-Ended-clause-does g c =
    let before = seen g.D.Desk.files g.D.Desk.written g.D.Desk.printed c.args.desk.now in
    let now = seen g.D.Desk.files g.D.Desk.written g.D.Desk.printed c.read_network.new.desk in
    let status = c.in-Err-Ended.status in
    let untouched = c.read_network.ensures.untouched in
    let why : (c.in-Err-Ended.status ≡ ReadFault) ⊎ (c.in-Err-Ended.status ≡ OutOfMemory) =
    rw c.in-Err-Ended.field-0-is at c.in-Err-Ended.ensures.why in
    rw c.in-Err-Ended.field-0-is (record {
      refused = λ net line cause told fault. ended_refused status before now untouched line cause why;
      checks = λ net text told none text_told. ended-check net text c.args.words.now.files.cert.now status before now
          why untouched;
      refuses_spread = λ net told none is. absurd (ended_not_refused status why is);
      only_prints = untouched_prints before now untouched;
      once = inl (ended-at-net status (g.D.Desk.openings c.args.desk.now)
          (g.D.Desk.openings c.read_network.new.desk) why c.read_network.ensures.opened);
    })
