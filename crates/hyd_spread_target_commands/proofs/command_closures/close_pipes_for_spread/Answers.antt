-- What the calls of the command leave, said of its start.
use Rattle.std.proofs.Common.{◌≡◌, ◌⊎◌, inl, rules}
use Rattle.hyd_spec_input.specs.Faults.{IsFault}
use Rattle.hyd_theorems_on_input.proofs.OneFault.{one_fault, no_fault_beside}
use Rattle.hyd_command_words.specs.CommandView.{closures_seen}
use Rattle.hyd_command_answers.specs.DeskContents.{Seen, seen}
use Rattle.hyd_command_answers.specs.FaultsAndRefusals.{AnswersRefused, OfNetwork}
use Rattle.hyd_command_answers.specs.declared.status.Status.TheVariants.{ReadFault, OutOfMemory}
use Rattle.hyd_command_answers.proofs.AnswerLemmas.{since_before, refused_since, same_refusal, refusal_never_usage}
use Rattle.hyd_target_commands.proofs.StatusesOfTargets.{ended_never_usage, ended_refused, leaves_since}
use Rattle.hyd_target_commands.proofs.StatusesOfTargets.{prints_since, untouched_prints}
use Rattle.hyd_target_commands.proofs.StatusesOfTargets.{refusal_leaves as net_refusal_leaves}
use Rattle.hyd_target_commands.proofs.StatusesOfTargets.{refusal_prints as net_refusal_prints}
use Rattle.hyd_spread_files.proofs.RefusalLemmas.{ended-at-net, refusal-ends}
use Rattle.hyd_spread_target_commands.specs.AnswersByTexts.{UnlessUnread}
use Rattle.hyd_spread_target_commands.specs.SpreadClosures.{AnswersClosuresByText, LeavesClosuresOver}
use Rattle.hyd_spread_target_commands.proofs.AnswersOfTexts.{ended_leaves_over, ended_not_refused, ended_unread}
use Rattle.hyd_spread_target_commands.proofs.AnswersOfTexts.{net_refusal_leaves_over, opens_both, unread_weaker}
use Rattle.hyd_spread_target_commands.proofs.StatusesOfClosures.{leaves_targets, left_prints, never_usage, refused_over}
use Rattle.hyd_spread_target_commands.proofs.command_closures.close_pipes_for_spread.Goals as goal

-- ---- a network was read

pub returns-in-Ok-clause-leaves : goal.returns-in-Ok-clause-leaves
returns-in-Ok-clause-leaves g c =
    let before = seen g.D.Desk.files g.D.Desk.written g.D.Desk.printed c.args.desk.now in
    let between = seen g.D.Desk.files g.D.Desk.written g.D.Desk.printed c.read_network.new.desk in
    let now = seen g.D.Desk.files g.D.Desk.written g.D.Desk.printed c.close_project.new.desk in
    leaves_targets c.close_project.result before now
    (since_before (λ (b : Seen). LeavesClosuresOver c.close_project.result b now) before between
    c.read_network.ensures.untouched c.close_project.ensures.leaves)

pub returns-in-Ok-clause-never_usage : goal.returns-in-Ok-clause-never_usage
returns-in-Ok-clause-never_usage g c =
    never_usage c.close_project.result _ _ c.close_project.ensures.leaves

pub returns-in-Ok-clause-does : goal.returns-in-Ok-clause-does
returns-in-Ok-clause-does g c =
    let before = seen g.D.Desk.files g.D.Desk.written g.D.Desk.printed c.args.desk.now in
    let between = seen g.D.Desk.files g.D.Desk.written g.D.Desk.printed c.read_network.new.desk in
    let now = seen g.D.Desk.files g.D.Desk.written g.D.Desk.printed c.close_project.new.desk in
    let status = c.close_project.result in
    let project = c.in-Ok.project in
    let order = closures_seen c.args.words.now.closures in
    let left : LeavesClosuresOver status before now =
    since_before (λ (b : Seen). LeavesClosuresOver status b now) before between
    c.read_network.ensures.untouched c.close_project.ensures.leaves in
    record {
      refused = λ net line why told fault. absurd (no_fault_beside net line why fault
          (c.in-Ok.ensures.no_fault net told));
      closes = λ net text told none text_told. unread_weaker (AnswersClosuresByText project text order)
          (λ s b n. OfNetwork net (λ p. AnswersClosuresByText p text order s b n)) status before now
          (λ h. record { project = project; is_network = c.in-Ok.ensures.project net told; holds = h })
          (since_before (λ (b : Seen). UnlessUnread (AnswersClosuresByText project text order) status b now) before
          between c.read_network.ensures.untouched (c.close_project.ensures.answers text (search rules)));
      refuses_spread = λ net told none is. refused_over status before now left is;
      only_prints = left_prints status before now left;
      once = opens_both status _ _ _ c.read_network.ensures.opened c.close_project.ensures.once;
    }

-- ---- the text of NET has a fault

pub returns-in-Err-Fault-clause-leaves : goal.returns-in-Err-Fault-clause-leaves
returns-in-Err-Fault-clause-leaves g c =
    let before = seen g.D.Desk.files g.D.Desk.written g.D.Desk.printed c.args.desk.now in
    let between = seen g.D.Desk.files g.D.Desk.written g.D.Desk.printed c.read_network.new.desk in
    let now = seen g.D.Desk.files g.D.Desk.written g.D.Desk.printed c.refuse_text.new.desk in
    let status = c.refuse_text.result in
    net_refusal_leaves_over _ _ status before now
    (refused_since _ _ status before between now c.read_network.ensures.untouched c.refuse_text.ensures.answers)
    (leaves_since status before between now c.read_network.ensures.untouched
    (net_refusal_leaves _ _ status between now c.refuse_text.ensures.answers))

pub returns-in-Err-Fault-clause-never_usage : goal.returns-in-Err-Fault-clause-never_usage
returns-in-Err-Fault-clause-never_usage g c =
    refusal_never_usage _ _ c.refuse_text.result _ _ c.refuse_text.ensures.answers

pub returns-in-Err-Fault-clause-does : goal.returns-in-Err-Fault-clause-does
returns-in-Err-Fault-clause-does g c =
    let before = seen g.D.Desk.files g.D.Desk.written g.D.Desk.printed c.args.desk.now in
    let between = seen g.D.Desk.files g.D.Desk.written g.D.Desk.printed c.read_network.new.desk in
    let now = seen g.D.Desk.files g.D.Desk.written g.D.Desk.printed c.refuse_text.new.desk in
    let status = c.refuse_text.result in
    let here = c.in-Err-Fault.fault in
    let answered : AnswersRefused here.line here.cause status between now =
    rw c.in-Err-Fault.field-0-is at c.refuse_text.ensures.answers in
    record {
      refused = λ net line why told fault.
          let found : IsFault net here.line here.cause =
          rw c.in-Err-Fault.field-0-is at (c.in-Err-Fault.ensures.fault net told) in
          let same = one_fault net here.line line here.cause why found fault in
          same_refusal here.line line here.cause why status before now same.lines same.causes
          (refused_since here.line here.cause status before between now c.read_network.ensures.untouched answered);
      closes = λ net text told none text_told.
          let found : IsFault net here.line here.cause =
          rw c.in-Err-Fault.field-0-is at (c.in-Err-Fault.ensures.fault net told) in
          absurd (no_fault_beside net here.line here.cause found none);
      refuses_spread = λ net told none is.
          let found : IsFault net here.line here.cause =
          rw c.in-Err-Fault.field-0-is at (c.in-Err-Fault.ensures.fault net told) in
          absurd (no_fault_beside net here.line here.cause found none);
      only_prints = prints_since before between now c.read_network.ensures.untouched
          (net_refusal_prints here.line here.cause status between now answered);
      once = inl (refusal-ends here.line here.cause status between now (g.D.Desk.openings c.args.desk.now)
          (g.D.Desk.openings c.read_network.new.desk) (g.D.Desk.openings c.refuse_text.new.desk) answered
          c.read_network.ensures.opened c.refuse_text.ensures.openings_stay);
    }

-- ---- a status ends the command

pub returns-in-Err-Ended-clause-leaves : goal.returns-in-Err-Ended-clause-leaves
returns-in-Err-Ended-clause-leaves g c =
    let why : (c.in-Err-Ended.status ≡ ReadFault) ⊎ (c.in-Err-Ended.status ≡ OutOfMemory) =
    rw c.in-Err-Ended.field-0-is at c.in-Err-Ended.ensures.why in
    rw c.in-Err-Ended.field-0-is (ended_leaves_over c.in-Err-Ended.status _ _ why c.read_network.ensures.untouched)

pub returns-in-Err-Ended-clause-never_usage : goal.returns-in-Err-Ended-clause-never_usage
returns-in-Err-Ended-clause-never_usage g c =
    let why : (c.in-Err-Ended.status ≡ ReadFault) ⊎ (c.in-Err-Ended.status ≡ OutOfMemory) =
    rw c.in-Err-Ended.field-0-is at c.in-Err-Ended.ensures.why in
    rw c.in-Err-Ended.field-0-is (ended_never_usage c.in-Err-Ended.status why)

pub returns-in-Err-Ended-clause-does : goal.returns-in-Err-Ended-clause-does
returns-in-Err-Ended-clause-does g c =
    let before = seen g.D.Desk.files g.D.Desk.written g.D.Desk.printed c.args.desk.now in
    let now = seen g.D.Desk.files g.D.Desk.written g.D.Desk.printed c.read_network.new.desk in
    let status = c.in-Err-Ended.status in
    let order = closures_seen c.args.words.now.closures in
    let untouched = c.read_network.ensures.untouched in
    let why : (c.in-Err-Ended.status ≡ ReadFault) ⊎ (c.in-Err-Ended.status ≡ OutOfMemory) =
    rw c.in-Err-Ended.field-0-is at c.in-Err-Ended.ensures.why in
    rw c.in-Err-Ended.field-0-is (record {
      refused = λ net line cause told fault. ended_refused status before now untouched why line cause;
      closes = λ net text told none text_told. ended_unread
          (λ s b n. OfNetwork net (λ p. AnswersClosuresByText p text order s b n)) status before now why untouched;
      refuses_spread = λ net told none is. absurd (ended_not_refused status why is);
      only_prints = untouched_prints before now untouched;
      once = inl (ended-at-net status (g.D.Desk.openings c.args.desk.now)
          (g.D.Desk.openings c.read_network.new.desk) why c.read_network.ensures.opened);
    })
