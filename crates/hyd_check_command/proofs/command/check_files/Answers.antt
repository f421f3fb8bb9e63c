-- What the calls of a check leave, said of its start.
use Rattle.std.proofs.Common.{◌≡◌, ◌⊎◌, rules}
use Rattle.hyd_spec_input.specs.Faults.{IsFault}
use Rattle.hyd_theorems_on_input.proofs.OneFault.{one_fault, no_fault_beside}
use Rattle.hyd_command_answers.specs.DeskContents.{seen}
use Rattle.hyd_command_answers.specs.FaultsAndRefusals.{AnswersRefused}
use Rattle.hyd_command_answers.specs.declared.status.Status.TheVariants.{ReadFault, OutOfMemory}
use Rattle.hyd_command_answers.proofs.AnswerLemmas.{refused_since, same_refusal, refusal_never_usage}
use Rattle.hyd_check_command.proofs.CheckLemmas.{check_never_refused, ended_not_refused, prints_since, leaves_since}
use Rattle.hyd_check_command.proofs.CheckLemmas.{answers_since, reads_both, check_never_usage, refused_prints_since}
use Rattle.hyd_check_command.proofs.CheckLemmas.{refused_check_leaves, refusal_reads, untouched_prints, ended_leaves}
use Rattle.hyd_check_command.proofs.CheckLemmas.{ended_refused, ended_answers, ended_reads}
use Rattle.hyd_check_command.proofs.OpenCheckLemmas.{open_answers_since, ended_open_answers}
use Rattle.hyd_check_command.proofs.command.check_files.Goals as goal

-- ---- a network was read

pub returns-in-Ok-clause-only_prints : goal.returns-in-Ok-clause-only_prints
returns-in-Ok-clause-only_prints g c =
    prints_since _ _ _ c.read_network.ensures.untouched c.check_network.ensures.only_prints

pub returns-in-Ok-clause-leaves : goal.returns-in-Ok-clause-leaves
returns-in-Ok-clause-leaves g c =
    let before = seen g.D.Desk.files g.D.Desk.written g.D.Desk.printed c.args.desk.now in
    let between = seen g.D.Desk.files g.D.Desk.written g.D.Desk.printed c.read_network.new.desk in
    let now = seen g.D.Desk.files g.D.Desk.written g.D.Desk.printed c.check_network.new.desk in
    leaves_since c.check_network.result before between now c.read_network.ensures.untouched
    c.check_network.ensures.leaves

pub returns-in-Ok-clause-never_usage : goal.returns-in-Ok-clause-never_usage
returns-in-Ok-clause-never_usage g c =
    check_never_usage c.check_network.result _ _ c.check_network.ensures.opened

pub returns-in-Ok-clause-refused : goal.returns-in-Ok-clause-refused
returns-in-Ok-clause-refused g c text line cause told fault =
    absurd (no_fault_beside text line cause fault (c.in-Ok.ensures.no_fault text told))

pub returns-in-Ok-clause-answers : goal.returns-in-Ok-clause-answers
returns-in-Ok-clause-answers g c text certificate told none cert_told begins =
    let before = seen g.D.Desk.files g.D.Desk.written g.D.Desk.printed c.args.desk.now in
    let between = seen g.D.Desk.files g.D.Desk.written g.D.Desk.printed c.read_network.new.desk in
    let now = seen g.D.Desk.files g.D.Desk.written g.D.Desk.printed c.check_network.new.desk in
    answers_since text certificate c.in-Ok.project c.check_network.result before between now
    c.read_network.ensures.untouched (c.in-Ok.ensures.project text told)
    (c.check_network.ensures.answers certificate (search rules) begins)

pub returns-in-Ok-clause-answers_openly : goal.returns-in-Ok-clause-answers_openly
returns-in-Ok-clause-answers_openly g c text certificate told none cert_told begins =
    let before = seen g.D.Desk.files g.D.Desk.written g.D.Desk.printed c.args.desk.now in
    let between = seen g.D.Desk.files g.D.Desk.written g.D.Desk.printed c.read_network.new.desk in
    let now = seen g.D.Desk.files g.D.Desk.written g.D.Desk.printed c.check_network.new.desk in
    open_answers_since text certificate c.in-Ok.project c.check_network.result before between now
    c.read_network.ensures.untouched (c.in-Ok.ensures.project text told)
    (c.check_network.ensures.answers_openly certificate (search rules) begins)

pub returns-in-Ok-clause-not_refused : goal.returns-in-Ok-clause-not_refused
returns-in-Ok-clause-not_refused g c text told none =
    check_never_refused c.check_network.result _ _ c.check_network.ensures.opened

pub returns-in-Ok-clause-once : goal.returns-in-Ok-clause-once
returns-in-Ok-clause-once g c =
    reads_both c.check_network.result _ _ _ c.read_network.ensures.opened c.check_network.ensures.opened

-- ---- the text has a fault

pub returns-in-Err-Fault-clause-only_prints : goal.returns-in-Err-Fault-clause-only_prints
returns-in-Err-Fault-clause-only_prints g c =
    refused_prints_since _ _ c.refuse_text.result _ _ _ c.read_network.ensures.untouched c.refuse_text.ensures.answers

pub returns-in-Err-Fault-clause-leaves : goal.returns-in-Err-Fault-clause-leaves
returns-in-Err-Fault-clause-leaves g c =
    let before = seen g.D.Desk.files g.D.Desk.written g.D.Desk.printed c.args.desk.now in
    let between = seen g.D.Desk.files g.D.Desk.written g.D.Desk.printed c.read_network.new.desk in
    let now = seen g.D.Desk.files g.D.Desk.written g.D.Desk.printed c.refuse_text.new.desk in
    refused_check_leaves _ _ c.refuse_text.result before between now c.read_network.ensures.untouched
    c.refuse_text.ensures.answers

pub returns-in-Err-Fault-clause-never_usage : goal.returns-in-Err-Fault-clause-never_usage
returns-in-Err-Fault-clause-never_usage g c =
    refusal_never_usage _ _ c.refuse_text.result _ _ c.refuse_text.ensures.answers

pub returns-in-Err-Fault-clause-refused : goal.returns-in-Err-Fault-clause-refused
returns-in-Err-Fault-clause-refused g c text line cause told fault =
    let before = seen g.D.Desk.files g.D.Desk.written g.D.Desk.printed c.args.desk.now in
    let between = seen g.D.Desk.files g.D.Desk.written g.D.Desk.printed c.read_network.new.desk in
    let now = seen g.D.Desk.files g.D.Desk.written g.D.Desk.printed c.refuse_text.new.desk in
    let found : IsFault text c.in-Err-Fault.fault.line c.in-Err-Fault.fault.cause =
    rw c.in-Err-Fault.field-0-is at (c.in-Err-Fault.ensures.fault text told) in
    let same = one_fault text c.in-Err-Fault.fault.line line c.in-Err-Fault.fault.cause cause found fault in
    let answered : AnswersRefused c.in-Err-Fault.fault.line c.in-Err-Fault.fault.cause c.refuse_text.result between
    now =
    rw c.in-Err-Fault.field-0-is at c.refuse_text.ensures.answers in
    same_refusal c.in-Err-Fault.fault.line line c.in-Err-Fault.fault.cause cause c.refuse_text.result before now
    same.lines same.causes (refused_since c.in-Err-Fault.fault.line c.in-Err-Fault.fault.cause c.refuse_text.result
    before
    between now c.read_network.ensures.untouched answered)

pub returns-in-Err-Fault-clause-answers : goal.returns-in-Err-Fault-clause-answers
returns-in-Err-Fault-clause-answers g c text certificate told none cert_told begins =
    let found : IsFault text c.in-Err-Fault.fault.line c.in-Err-Fault.fault.cause =
    rw c.in-Err-Fault.field-0-is at (c.in-Err-Fault.ensures.fault text told) in
    absurd (no_fault_beside text c.in-Err-Fault.fault.line c.in-Err-Fault.fault.cause found none)

pub returns-in-Err-Fault-clause-answers_openly : goal.returns-in-Err-Fault-clause-answers_openly
returns-in-Err-Fault-clause-answers_openly g c text certificate told none cert_told begins =
    let found : IsFault text c.in-Err-Fault.fault.line c.in-Err-Fault.fault.cause =
    rw c.in-Err-Fault.field-0-is at (c.in-Err-Fault.ensures.fault text told) in
    absurd (no_fault_beside text c.in-Err-Fault.fault.line c.in-Err-Fault.fault.cause found none)

pub returns-in-Err-Fault-clause-not_refused : goal.returns-in-Err-Fault-clause-not_refused
returns-in-Err-Fault-clause-not_refused g c text told none =
    let found : IsFault text c.in-Err-Fault.fault.line c.in-Err-Fault.fault.cause =
    rw c.in-Err-Fault.field-0-is at (c.in-Err-Fault.ensures.fault text told) in
    absurd (no_fault_beside text c.in-Err-Fault.fault.line c.in-Err-Fault.fault.cause found none)

pub returns-in-Err-Fault-clause-once : goal.returns-in-Err-Fault-clause-once
returns-in-Err-Fault-clause-once g c =
    let between = seen g.D.Desk.files g.D.Desk.written g.D.Desk.printed c.read_network.new.desk in
    let now = seen g.D.Desk.files g.D.Desk.written g.D.Desk.printed c.refuse_text.new.desk in
    refusal_reads _ _ c.refuse_text.result between now _ _ _ c.refuse_text.ensures.answers
    c.read_network.ensures.opened c.refuse_text.ensures.openings_stay

-- ---- a status ends the command

pub returns-in-Err-Ended-clause-only_prints : goal.returns-in-Err-Ended-clause-only_prints
returns-in-Err-Ended-clause-only_prints g c = untouched_prints _ _ c.read_network.ensures.untouched

pub returns-in-Err-Ended-clause-leaves : goal.returns-in-Err-Ended-clause-leaves
returns-in-Err-Ended-clause-leaves g c =
    let why : (c.in-Err-Ended.status ≡ ReadFault) ⊎ (c.in-Err-Ended.status ≡ OutOfMemory) =
    rw c.in-Err-Ended.field-0-is at c.in-Err-Ended.ensures.why in
    rw c.in-Err-Ended.field-0-is (ended_leaves c.in-Err-Ended.status _ _ c.read_network.ensures.untouched why)

pub returns-in-Err-Ended-clause-answers : goal.returns-in-Err-Ended-clause-answers
returns-in-Err-Ended-clause-answers g c text certificate told none cert_told begins =
    let why : (c.in-Err-Ended.status ≡ ReadFault) ⊎ (c.in-Err-Ended.status ≡ OutOfMemory) =
    rw c.in-Err-Ended.field-0-is at c.in-Err-Ended.ensures.why in
    rw c.in-Err-Ended.field-0-is (ended_answers c.in-Err-Ended.status _ _ c.read_network.ensures.untouched text
    certificate why)

pub returns-in-Err-Ended-clause-answers_openly : goal.returns-in-Err-Ended-clause-answers_openly
returns-in-Err-Ended-clause-answers_openly g c text certificate told none cert_told begins =
    let why : (c.in-Err-Ended.status ≡ ReadFault) ⊎ (c.in-Err-Ended.status ≡ OutOfMemory) =
    rw c.in-Err-Ended.field-0-is at c.in-Err-Ended.ensures.why in
    rw c.in-Err-Ended.field-0-is (ended_open_answers c.in-Err-Ended.status _ _ c.read_network.ensures.untouched text
    certificate why)

pub returns-in-Err-Ended-clause-refused : goal.returns-in-Err-Ended-clause-refused
returns-in-Err-Ended-clause-refused g c text line cause told fault =
    let why : (c.in-Err-Ended.status ≡ ReadFault) ⊎ (c.in-Err-Ended.status ≡ OutOfMemory) =
    rw c.in-Err-Ended.field-0-is at c.in-Err-Ended.ensures.why in
    rw c.in-Err-Ended.field-0-is (ended_refused c.in-Err-Ended.status _ _ c.read_network.ensures.untouched line cause
    why)

pub returns-in-Err-Ended-clause-not_refused : goal.returns-in-Err-Ended-clause-not_refused
returns-in-Err-Ended-clause-not_refused g c text told none =
    let why : (c.in-Err-Ended.status ≡ ReadFault) ⊎ (c.in-Err-Ended.status ≡ OutOfMemory) =
    rw c.in-Err-Ended.field-0-is at c.in-Err-Ended.ensures.why in
    rw c.in-Err-Ended.field-0-is (ended_not_refused c.in-Err-Ended.status why)

pub returns-in-Err-Ended-clause-once : goal.returns-in-Err-Ended-clause-once
returns-in-Err-Ended-clause-once g c =
    let why : (c.in-Err-Ended.status ≡ ReadFault) ⊎ (c.in-Err-Ended.status ≡ OutOfMemory) =
    rw c.in-Err-Ended.field-0-is at c.in-Err-Ended.ensures.why in
    rw c.in-Err-Ended.field-0-is (ended_reads c.in-Err-Ended.status _ _ why c.read_network.ensures.opened)
