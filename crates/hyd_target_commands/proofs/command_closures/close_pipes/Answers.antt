-- What the calls of the command leave, said of its start.
use Rattle.std.proofs.Common.{◌≡◌, ◌⊎◌}
use Rattle.hyd_spec_input.specs.Faults.{IsFault}
use Rattle.hyd_theorems_on_input.proofs.OneFault.{one_fault, no_fault_beside}
use Rattle.hyd_command_words.specs.CommandView.{closures_seen}
use Rattle.hyd_command_answers.specs.DeskContents.{seen}
use Rattle.hyd_command_answers.specs.FaultsAndRefusals.{AnswersRefused}
use Rattle.hyd_command_answers.specs.declared.status.Status.TheVariants.{ReadFault, OutOfMemory}
use Rattle.hyd_target_commands.specs.BracketAnswers.{target_in}
use Rattle.hyd_target_commands.proofs.StatusesOfTargets.{leaves_since, prints_since, leaves_prints, answer_never_usage}
use Rattle.hyd_target_commands.proofs.StatusesOfTargets.{answer_opens, closures_are_answer, closures_leave, closures_since}
use Rattle.hyd_command_answers.proofs.AnswerLemmas.{refused_since, same_refusal, refusal_never_usage}
use Rattle.hyd_target_commands.proofs.StatusesOfTargets.{refusal_leaves, refusal_prints, refusal_opens}
use Rattle.hyd_target_commands.proofs.StatusesOfTargets.{ended_leaves, ended_refused, ended_closes, ended_opens}
use Rattle.hyd_target_commands.proofs.StatusesOfTargets.{ended_never_usage, untouched_prints}
use Rattle.hyd_target_commands.proofs.command_closures.close_pipes.Goals as goal

-- ---- a network was read

pub returns-in-Ok-clause-leaves : goal.returns-in-Ok-clause-leaves
returns-in-Ok-clause-leaves g c =
    let words = c.args.words.now in
    leaves_since c.closures_in.result _ _ _ c.read_network.ensures.untouched
    (closures_leave c.in-Ok.project (target_in c.in-Ok.project words.pressure.nano) words.rounds c.closures_in.result _ _ c.closures_in.ensures.answers)

pub returns-in-Ok-clause-never_usage : goal.returns-in-Ok-clause-never_usage
returns-in-Ok-clause-never_usage g c =
    let words = c.args.words.now in
    answer_never_usage c.closures_in.result
    (closures_are_answer c.in-Ok.project (target_in c.in-Ok.project words.pressure.nano) words.rounds c.closures_in.result _ _ c.closures_in.ensures.answers)

pub returns-in-Ok-clause-refused : goal.returns-in-Ok-clause-refused
returns-in-Ok-clause-refused g c text line cause told fault =
    absurd (no_fault_beside text line cause fault (c.in-Ok.ensures.no_fault text told))

pub returns-in-Ok-clause-closes : goal.returns-in-Ok-clause-closes
returns-in-Ok-clause-closes g c text told none =
    closures_since text c.in-Ok.project (closures_seen c.args.words.now) c.closures_in.result _ _ _
    c.read_network.ensures.untouched (c.in-Ok.ensures.project text told) c.closures_in.ensures.answers

pub returns-in-Ok-clause-only_prints : goal.returns-in-Ok-clause-only_prints
returns-in-Ok-clause-only_prints g c =
    let words = c.args.words.now in
    let answer = closures_are_answer c.in-Ok.project (target_in c.in-Ok.project words.pressure.nano) words.rounds c.closures_in.result _ _
    c.closures_in.ensures.answers in
    prints_since _ _ _ c.read_network.ensures.untouched (leaves_prints c.closures_in.result _ _ answer
    (closures_leave c.in-Ok.project (target_in c.in-Ok.project words.pressure.nano) words.rounds c.closures_in.result _ _ c.closures_in.ensures.answers))

pub returns-in-Ok-clause-once : goal.returns-in-Ok-clause-once
returns-in-Ok-clause-once g c =
    let words = c.args.words.now in
    answer_opens c.closures_in.result _ _ _
    (closures_are_answer c.in-Ok.project (target_in c.in-Ok.project words.pressure.nano) words.rounds c.closures_in.result _ _ c.closures_in.ensures.answers)
    c.read_network.ensures.opened c.closures_in.ensures.openings_stay

-- ---- the text has a fault

pub returns-in-Err-Fault-clause-leaves : goal.returns-in-Err-Fault-clause-leaves
returns-in-Err-Fault-clause-leaves g c = leaves_since c.refuse_text.result _ _ _ c.read_network.ensures.untouched
    (refusal_leaves _ _ c.refuse_text.result _ _ c.refuse_text.ensures.answers)

pub returns-in-Err-Fault-clause-never_usage : goal.returns-in-Err-Fault-clause-never_usage
returns-in-Err-Fault-clause-never_usage g c =
    refusal_never_usage _ _ c.refuse_text.result _ _ c.refuse_text.ensures.answers

pub returns-in-Err-Fault-clause-refused : goal.returns-in-Err-Fault-clause-refused
returns-in-Err-Fault-clause-refused g c text line cause told fault =
    let before = seen g.D.Desk.files g.D.Desk.written g.D.Desk.printed c.args.desk.now in
    let between = seen g.D.Desk.files g.D.Desk.written g.D.Desk.printed c.read_network.new.desk in
    let now = seen g.D.Desk.files g.D.Desk.written g.D.Desk.printed c.refuse_text.new.desk in
    let found : IsFault text c.in-Err-Fault.fault.line c.in-Err-Fault.fault.cause =
    rw c.in-Err-Fault.field-0-is at (c.in-Err-Fault.ensures.fault text told) in
    let same = one_fault text c.in-Err-Fault.fault.line line c.in-Err-Fault.fault.cause cause found fault in
    let answered : AnswersRefused c.in-Err-Fault.fault.line c.in-Err-Fault.fault.cause c.refuse_text.result between
    now =
    rw c.in-Err-Fault.field-0-is at c.refuse_text.ensures.answers in
    same_refusal c.in-Err-Fault.fault.line line c.in-Err-Fault.fault.cause cause c.refuse_text.result before now
    same.lines same.causes (refused_since c.in-Err-Fault.fault.line c.in-Err-Fault.fault.cause c.refuse_text.result
    before between now c.read_network.ensures.untouched answered)

pub returns-in-Err-Fault-clause-closes : goal.returns-in-Err-Fault-clause-closes
returns-in-Err-Fault-clause-closes g c text told none =
    let found : IsFault text c.in-Err-Fault.fault.line c.in-Err-Fault.fault.cause =
    rw c.in-Err-Fault.field-0-is at (c.in-Err-Fault.ensures.fault text told) in
    absurd (no_fault_beside text c.in-Err-Fault.fault.line c.in-Err-Fault.fault.cause found none)

pub returns-in-Err-Fault-clause-only_prints : goal.returns-in-Err-Fault-clause-only_prints
returns-in-Err-Fault-clause-only_prints g c = prints_since _ _ _ c.read_network.ensures.untouched
    (refusal_prints _ _ c.refuse_text.result _ _ c.refuse_text.ensures.answers)

pub returns-in-Err-Fault-clause-once : goal.returns-in-Err-Fault-clause-once
returns-in-Err-Fault-clause-once g c =
    let between = seen g.D.Desk.files g.D.Desk.written g.D.Desk.printed c.read_network.new.desk in
    let now = seen g.D.Desk.files g.D.Desk.written g.D.Desk.printed c.refuse_text.new.desk in
    refusal_opens _ _ c.refuse_text.result between now _ _ _ c.refuse_text.ensures.answers
    c.read_network.ensures.opened c.refuse_text.ensures.openings_stay

-- ---- a status ends the command

pub returns-in-Err-Ended-clause-leaves : goal.returns-in-Err-Ended-clause-leaves
returns-in-Err-Ended-clause-leaves g c =
    let why : (c.in-Err-Ended.status ≡ ReadFault) ⊎ (c.in-Err-Ended.status ≡ OutOfMemory) =
    rw c.in-Err-Ended.field-0-is at c.in-Err-Ended.ensures.why in
    rw c.in-Err-Ended.field-0-is (ended_leaves c.in-Err-Ended.status _ _ c.read_network.ensures.untouched why)

pub returns-in-Err-Ended-clause-never_usage : goal.returns-in-Err-Ended-clause-never_usage
returns-in-Err-Ended-clause-never_usage g c =
    let why : (c.in-Err-Ended.status ≡ ReadFault) ⊎ (c.in-Err-Ended.status ≡ OutOfMemory) =
    rw c.in-Err-Ended.field-0-is at c.in-Err-Ended.ensures.why in
    rw c.in-Err-Ended.field-0-is (ended_never_usage c.in-Err-Ended.status why)

pub returns-in-Err-Ended-clause-refused : goal.returns-in-Err-Ended-clause-refused
returns-in-Err-Ended-clause-refused g c text line cause told fault =
    let why : (c.in-Err-Ended.status ≡ ReadFault) ⊎ (c.in-Err-Ended.status ≡ OutOfMemory) =
    rw c.in-Err-Ended.field-0-is at c.in-Err-Ended.ensures.why in
    rw c.in-Err-Ended.field-0-is (ended_refused c.in-Err-Ended.status _ _ c.read_network.ensures.untouched why line
    cause)

pub returns-in-Err-Ended-clause-closes : goal.returns-in-Err-Ended-clause-closes
returns-in-Err-Ended-clause-closes g c text told none =
    let why : (c.in-Err-Ended.status ≡ ReadFault) ⊎ (c.in-Err-Ended.status ≡ OutOfMemory) =
    rw c.in-Err-Ended.field-0-is at c.in-Err-Ended.ensures.why in
    rw c.in-Err-Ended.field-0-is (ended_closes c.in-Err-Ended.status _ _ c.read_network.ensures.untouched why text
    (closures_seen c.args.words.now))

pub returns-in-Err-Ended-clause-only_prints : goal.returns-in-Err-Ended-clause-only_prints
returns-in-Err-Ended-clause-only_prints g c = untouched_prints _ _ c.read_network.ensures.untouched

pub returns-in-Err-Ended-clause-once : goal.returns-in-Err-Ended-clause-once
returns-in-Err-Ended-clause-once g c =
    let why : (c.in-Err-Ended.status ≡ ReadFault) ⊎ (c.in-Err-Ended.status ≡ OutOfMemory) =
    rw c.in-Err-Ended.field-0-is at c.in-Err-Ended.ensures.why in
    rw c.in-Err-Ended.field-0-is (ended_opens c.in-Err-Ended.status _ _ why c.read_network.ensures.opened)
