-- What the calls of the command leave, said of its start.
use Rattle.std.proofs.Common.{◌≡◌, ◌⊎◌}
use Rattle.hyd_spec_input.specs.Faults.{IsFault}
use Rattle.hyd_theorems_on_input.proofs.OneFault.{one_fault, no_fault_beside}
use Rattle.hyd_command_answers.specs.DeskContents.{seen}
use Rattle.hyd_command_answers.specs.FaultsAndRefusals.{AnswersRefused}
use Rattle.hyd_command_answers.specs.declared.status.Status.TheVariants.{ReadFault, OutOfMemory}
use Rattle.hyd_command_answers.proofs.AnswerLemmas.{refused_since, same_refusal, refusal_never_usage}
use Rattle.hyd_target_commands.proofs.StatusesOfTargets.{leaves_since, prints_since, refusal_leaves, refusal_prints}
use Rattle.hyd_target_commands.proofs.StatusesOfTargets.{ended_leaves, ended_refused, ended_never_usage}
use Rattle.hyd_target_commands.proofs.StatusesOfTargets.{untouched_prints}
use Rattle.hyd_witness_commands.proofs.StatusesOfMeet.{tries_leaves, tries_prints, tries_opens, tries_never_usage}
use Rattle.hyd_witness_commands.proofs.StatusesOfMeet.{tries_not_refused, meets_since, refusal_opens, CouldNotBeHad}
use Rattle.hyd_witness_commands.proofs.StatusesOfMeet.{ended_meets, ended_not_refused, ended_opens}
use Rattle.hyd_witness_commands.proofs.command_meet.meet_file.Goals as goal

-- ---- a network was read

pub returns-in-Ok-clause-leaves : goal.returns-in-Ok-clause-leaves
returns-in-Ok-clause-leaves g c =
    tries_leaves _ _ _ _ _ _ c.read_network.ensures.untouched c.read_network.ensures.opened c.in-Ok.project
    c.args.words.now.witness.now c.try_against.result c.try_against.ensures.tries

pub returns-in-Ok-clause-never_usage : goal.returns-in-Ok-clause-never_usage
returns-in-Ok-clause-never_usage g c =
    tries_never_usage _ _ _ _ _ _ c.read_network.ensures.untouched c.read_network.ensures.opened c.in-Ok.project
    c.args.words.now.witness.now c.try_against.result c.try_against.ensures.tries

pub returns-in-Ok-clause-refused : goal.returns-in-Ok-clause-refused
returns-in-Ok-clause-refused g c text line cause told fault =
    absurd (no_fault_beside text line cause fault (c.in-Ok.ensures.no_fault text told))

pub returns-in-Ok-clause-meets : goal.returns-in-Ok-clause-meets
returns-in-Ok-clause-meets g c text witness told none told_too =
    meets_since text witness c.args.words.now.witness.now c.in-Ok.project c.try_against.result _ _ _ _ _
    c.read_network.ensures.untouched (c.in-Ok.ensures.project text told) c.try_against.ensures.tries told_too

pub returns-in-Ok-clause-not_refused : goal.returns-in-Ok-clause-not_refused
returns-in-Ok-clause-not_refused g c text told none =
    tries_not_refused _ _ _ _ _ _ c.read_network.ensures.untouched c.read_network.ensures.opened c.in-Ok.project
    c.args.words.now.witness.now c.try_against.result c.try_against.ensures.tries

pub returns-in-Ok-clause-only_prints : goal.returns-in-Ok-clause-only_prints
returns-in-Ok-clause-only_prints g c =
    tries_prints _ _ _ _ _ _ c.read_network.ensures.untouched c.read_network.ensures.opened c.in-Ok.project
    c.args.words.now.witness.now c.try_against.result c.try_against.ensures.tries

pub returns-in-Ok-clause-once : goal.returns-in-Ok-clause-once
returns-in-Ok-clause-once g c =
    tries_opens _ _ _ _ _ _ c.read_network.ensures.untouched c.read_network.ensures.opened c.in-Ok.project
    c.args.words.now.witness.now c.try_against.result c.try_against.ensures.tries

-- ---- the text has a fault

pub returns-in-Err-Fault-clause-leaves : goal.returns-in-Err-Fault-clause-leaves
returns-in-Err-Fault-clause-leaves g c = leaves_since c.refuse_text.result _ _ _ c.read_network.ensures.untouched
    (refusal_leaves _ _ c.refuse_text.result _ _ c.refuse_text.ensures.answers)

pub returns-in-Err-Fault-clause-never_usage : goal.returns-in-Err-Fault-clause-never_usage
returns-in-Err-Fault-clause-never_usage g c =
    refusal_never_usage _ _ c.refuse_text.result _ _ c.refuse_text.ensures.answers

pub returns-in-Err-Fault-clause-refused : goal.returns-in-Err-Fault-clause-refused
returns-in-Err-Fault-clause-refused g c text line cause told fault =
    let before = seen g.D.Desk.files g.D.Desk.written g.D.Desk.printed c.args.desk.now in
    let between = seen g.D.Desk.files g.D.Desk.written g.D.Desk.printed c.read_network.new.desk in
    let now = seen g.D.Desk.files g.D.Desk.written g.D.Desk.printed c.refuse_text.new.desk in
    let found : IsFault text c.in-Err-Fault.fault.line c.in-Err-Fault.fault.cause =
    rw c.in-Err-Fault.field-0-is at (c.in-Err-Fault.ensures.fault text told) in
    let same = one_fault text c.in-Err-Fault.fault.line line c.in-Err-Fault.fault.cause cause found fault in
    let answered : AnswersRefused c.in-Err-Fault.fault.line c.in-Err-Fault.fault.cause c.refuse_text.result between
    now =
    rw c.in-Err-Fault.field-0-is at c.refuse_text.ensures.answers in
    same_refusal c.in-Err-Fault.fault.line line c.in-Err-Fault.fault.cause cause c.refuse_text.result before now
    same.lines same.causes (refused_since c.in-Err-Fault.fault.line c.in-Err-Fault.fault.cause c.refuse_text.result
    before between now c.read_network.ensures.untouched answered)

pub returns-in-Err-Fault-clause-meets : goal.returns-in-Err-Fault-clause-meets
returns-in-Err-Fault-clause-meets g c text witness told none told_too =
    let found : IsFault text c.in-Err-Fault.fault.line c.in-Err-Fault.fault.cause =
    rw c.in-Err-Fault.field-0-is at (c.in-Err-Fault.ensures.fault text told) in
    absurd (no_fault_beside text c.in-Err-Fault.fault.line c.in-Err-Fault.fault.cause found none)

pub returns-in-Err-Fault-clause-not_refused : goal.returns-in-Err-Fault-clause-not_refused
returns-in-Err-Fault-clause-not_refused g c text told none =
    let found : IsFault text c.in-Err-Fault.fault.line c.in-Err-Fault.fault.cause =
    rw c.in-Err-Fault.field-0-is at (c.in-Err-Fault.ensures.fault text told) in
    absurd (no_fault_beside text c.in-Err-Fault.fault.line c.in-Err-Fault.fault.cause found none)

pub returns-in-Err-Fault-clause-only_prints : goal.returns-in-Err-Fault-clause-only_prints
returns-in-Err-Fault-clause-only_prints g c = prints_since _ _ _ c.read_network.ensures.untouched
    (refusal_prints _ _ c.refuse_text.result _ _ c.refuse_text.ensures.answers)

pub returns-in-Err-Fault-clause-once : goal.returns-in-Err-Fault-clause-once
returns-in-Err-Fault-clause-once g c =
    let between = seen g.D.Desk.files g.D.Desk.written g.D.Desk.printed c.read_network.new.desk in
    let now = seen g.D.Desk.files g.D.Desk.written g.D.Desk.printed c.refuse_text.new.desk in
    refusal_opens _ _ c.refuse_text.result between now _ _ _ c.refuse_text.ensures.answers
    c.read_network.ensures.opened c.refuse_text.ensures.openings_stay

-- ---- a status ends the command

pub returns-in-Err-Ended-clause-leaves : goal.returns-in-Err-Ended-clause-leaves
returns-in-Err-Ended-clause-leaves g c =
    let why : CouldNotBeHad c.in-Err-Ended.status = rw c.in-Err-Ended.field-0-is at c.in-Err-Ended.ensures.why in
    rw c.in-Err-Ended.field-0-is (ended_leaves c.in-Err-Ended.status _ _ c.read_network.ensures.untouched why)

pub returns-in-Err-Ended-clause-never_usage : goal.returns-in-Err-Ended-clause-never_usage
returns-in-Err-Ended-clause-never_usage g c =
    let why : CouldNotBeHad c.in-Err-Ended.status = rw c.in-Err-Ended.field-0-is at c.in-Err-Ended.ensures.why in
    rw c.in-Err-Ended.field-0-is (ended_never_usage c.in-Err-Ended.status why)

pub returns-in-Err-Ended-clause-refused : goal.returns-in-Err-Ended-clause-refused
returns-in-Err-Ended-clause-refused g c text line cause told fault =
    let why : CouldNotBeHad c.in-Err-Ended.status = rw c.in-Err-Ended.field-0-is at c.in-Err-Ended.ensures.why in
    rw c.in-Err-Ended.field-0-is (ended_refused c.in-Err-Ended.status _ _ c.read_network.ensures.untouched why line
    cause)

pub returns-in-Err-Ended-clause-meets : goal.returns-in-Err-Ended-clause-meets
returns-in-Err-Ended-clause-meets g c text witness told none told_too =
    let why : CouldNotBeHad c.in-Err-Ended.status = rw c.in-Err-Ended.field-0-is at c.in-Err-Ended.ensures.why in
    rw c.in-Err-Ended.field-0-is (ended_meets c.in-Err-Ended.status _ _ c.read_network.ensures.untouched why text
    witness)

pub returns-in-Err-Ended-clause-not_refused : goal.returns-in-Err-Ended-clause-not_refused
returns-in-Err-Ended-clause-not_refused g c text told none =
    let why : CouldNotBeHad c.in-Err-Ended.status = rw c.in-Err-Ended.field-0-is at c.in-Err-Ended.ensures.why in
    rw c.in-Err-Ended.field-0-is (ended_not_refused c.in-Err-Ended.status why)

pub returns-in-Err-Ended-clause-only_prints : goal.returns-in-Err-Ended-clause-only_prints
returns-in-Err-Ended-clause-only_prints g c = untouched_prints _ _ c.read_network.ensures.untouched

pub returns-in-Err-Ended-clause-once : goal.returns-in-Err-Ended-clause-once
returns-in-Err-Ended-clause-once g c =
    let why : CouldNotBeHad c.in-Err-Ended.status = rw c.in-Err-Ended.field-0-is at c.in-Err-Ended.ensures.why in
    rw c.in-Err-Ended.field-0-is (ended_opens c.in-Err-Ended.status _ _ why c.read_network.ensures.opened)
