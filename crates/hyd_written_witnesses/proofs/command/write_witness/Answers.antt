-- What the calls of the command leave, said of its start.
use Rattle.std.proofs.Common.{◌≡◌, ◌∙◌, ◌⊎◌, Option, ap}
use Rattle.hyd_io.specs.DeskBytes.{Files, file_at}
use Rattle.hyd_spec_input.specs.Faults.{IsFault}
use Rattle.hyd_theorems_on_input.proofs.OneFault.{one_fault, no_fault_beside}
use Rattle.hyd_command_answers.specs.DeskContents.{seen}
use Rattle.hyd_command_answers.specs.FaultsAndRefusals.{AnswersRefused}
use Rattle.hyd_command_answers.specs.declared.status.Status.TheVariants.{ReadFault, OutOfMemory}
use Rattle.hyd_command_answers.proofs.AnswerLemmas.{since_before, refused_since, same_refusal, refusal_never_usage}
use Rattle.hyd_target_commands.proofs.StatusesOfTargets.{ended_refused, ended_never_usage}
use Rattle.hyd_written_witnesses.specs.CommandWitness.{LeavesSearch, HoldsWitness}
use Rattle.hyd_written_witnesses.proofs.CommandLemmas.{search_leaves, search_never_usage, search_not_refused}
use Rattle.hyd_written_witnesses.proofs.CommandLemmas.{search_holds, search_others, search_opens, search_since}
use Rattle.hyd_written_witnesses.proofs.CommandLemmas.{refusal_leaves, refusal_holds, refusal_opens, ended_leaves}
use Rattle.hyd_written_witnesses.proofs.CommandLemmas.{ended_searches, ended_holds, ended_not_refused}
use Rattle.hyd_written_witnesses.proofs.CommandLemmas.{ended_opens}
use Rattle.hyd_written_witnesses.proofs.command.write_witness.Goals as goal

-- ---- a network was read

pub returns-in-Ok-clause-leaves : goal.returns-in-Ok-clause-leaves
returns-in-Ok-clause-leaves g c =
    search_leaves _ _ _ _ _ _ c.read_network.ensures.untouched c.read_network.ensures.opened c.in-Ok.project
    c.args.words.now.files.cert.now c.args.words.now.out.now c.write_of_network.result
    c.write_of_network.ensures.searches

pub returns-in-Ok-clause-never_usage : goal.returns-in-Ok-clause-never_usage
returns-in-Ok-clause-never_usage g c =
    search_never_usage _ _ _ _ _ _ c.read_network.ensures.untouched c.read_network.ensures.opened c.in-Ok.project
    c.args.words.now.files.cert.now c.args.words.now.out.now c.write_of_network.result
    c.write_of_network.ensures.searches

pub returns-in-Ok-clause-refused : goal.returns-in-Ok-clause-refused
returns-in-Ok-clause-refused g c text line cause told fault =
    absurd (no_fault_beside text line cause fault (c.in-Ok.ensures.no_fault text told))

pub returns-in-Ok-clause-searches : goal.returns-in-Ok-clause-searches
returns-in-Ok-clause-searches g c text certificate told none told_too =
    search_since text certificate c.args.words.now.files.cert.now c.args.words.now.out.now c.in-Ok.project
    c.write_of_network.result _ _ _ _ _ c.read_network.ensures.untouched (c.in-Ok.ensures.project text told)
    c.write_of_network.ensures.searches told_too

pub returns-in-Ok-clause-not_refused : goal.returns-in-Ok-clause-not_refused
returns-in-Ok-clause-not_refused g c text told none =
    search_not_refused _ _ _ _ _ _ c.read_network.ensures.untouched c.read_network.ensures.opened c.in-Ok.project
    c.args.words.now.files.cert.now c.args.words.now.out.now c.write_of_network.result
    c.write_of_network.ensures.searches

pub returns-in-Ok-clause-holds : goal.returns-in-Ok-clause-holds
returns-in-Ok-clause-holds g c =
    search_holds _ _ _ _ _ _ c.read_network.ensures.untouched c.read_network.ensures.opened c.in-Ok.project
    c.args.words.now.files.cert.now c.args.words.now.out.now c.write_of_network.result
    c.write_of_network.ensures.searches

pub returns-in-Ok-clause-others : goal.returns-in-Ok-clause-others
returns-in-Ok-clause-others g c =
    search_others _ _ _ _ _ _ c.read_network.ensures.untouched c.read_network.ensures.opened c.in-Ok.project
    c.args.words.now.files.cert.now c.args.words.now.out.now c.write_of_network.result
    c.write_of_network.ensures.searches

pub returns-in-Ok-clause-opens_in_turn : goal.returns-in-Ok-clause-opens_in_turn
returns-in-Ok-clause-opens_in_turn g c =
    search_opens _ _ _ _ _ _ c.read_network.ensures.untouched c.read_network.ensures.opened c.in-Ok.project
    c.args.words.now.files.cert.now c.args.words.now.out.now c.write_of_network.result
    c.write_of_network.ensures.searches

-- ---- the text has a fault

pub returns-in-Err-Fault-clause-leaves : goal.returns-in-Err-Fault-clause-leaves
returns-in-Err-Fault-clause-leaves g c =
    let now = seen g.D.Desk.files g.D.Desk.written g.D.Desk.printed c.refuse_text.new.desk in
    since_before (λ b. LeavesSearch c.refuse_text.result b now) _ _ c.read_network.ensures.untouched
    (refusal_leaves _ _ c.refuse_text.result _ _ c.refuse_text.ensures.answers)

pub returns-in-Err-Fault-clause-never_usage : goal.returns-in-Err-Fault-clause-never_usage
returns-in-Err-Fault-clause-never_usage g c =
    refusal_never_usage _ _ c.refuse_text.result _ _ c.refuse_text.ensures.answers

pub returns-in-Err-Fault-clause-refused : goal.returns-in-Err-Fault-clause-refused
returns-in-Err-Fault-clause-refused g c text line cause told fault =
    let before = seen g.D.Desk.files g.D.Desk.written g.D.Desk.printed c.args.desk.now in
    let between = seen g.D.Desk.files g.D.Desk.written g.D.Desk.printed c.read_network.new.desk in
    let now = seen g.D.Desk.files g.D.Desk.written g.D.Desk.printed c.refuse_text.new.desk in
    let found : IsFault text c.in-Err-Fault.fault.line c.in-Err-Fault.fault.cause =
    rw c.in-Err-Fault.field-0-is at (c.in-Err-Fault.ensures.fault text told) in
    let same = one_fault text c.in-Err-Fault.fault.line line c.in-Err-Fault.fault.cause cause found fault in
    let answered : AnswersRefused c.in-Err-Fault.fault.line c.in-Err-Fault.fault.cause c.refuse_text.result between
    now =
    rw c.in-Err-Fault.field-0-is at c.refuse_text.ensures.answers in
    same_refusal c.in-Err-Fault.fault.line line c.in-Err-Fault.fault.cause cause c.refuse_text.result before now
    same.lines same.causes (refused_since c.in-Err-Fault.fault.line c.in-Err-Fault.fault.cause c.refuse_text.result
    before between now c.read_network.ensures.untouched answered)

pub returns-in-Err-Fault-clause-searches : goal.returns-in-Err-Fault-clause-searches
returns-in-Err-Fault-clause-searches g c text certificate told none told_too =
    let found : IsFault text c.in-Err-Fault.fault.line c.in-Err-Fault.fault.cause =
    rw c.in-Err-Fault.field-0-is at (c.in-Err-Fault.ensures.fault text told) in
    absurd (no_fault_beside text c.in-Err-Fault.fault.line c.in-Err-Fault.fault.cause found none)

pub returns-in-Err-Fault-clause-not_refused : goal.returns-in-Err-Fault-clause-not_refused
returns-in-Err-Fault-clause-not_refused g c text told none =
    let found : IsFault text c.in-Err-Fault.fault.line c.in-Err-Fault.fault.cause =
    rw c.in-Err-Fault.field-0-is at (c.in-Err-Fault.ensures.fault text told) in
    absurd (no_fault_beside text c.in-Err-Fault.fault.line c.in-Err-Fault.fault.cause found none)

pub returns-in-Err-Fault-clause-holds : goal.returns-in-Err-Fault-clause-holds
returns-in-Err-Fault-clause-holds g c =
    let now = seen g.D.Desk.files g.D.Desk.written g.D.Desk.printed c.refuse_text.new.desk in
    since_before (λ b. HoldsWitness c.refuse_text.result c.args.words.now.out.now b now) _ _
    c.read_network.ensures.untouched
    (refusal_holds _ _ c.refuse_text.result c.args.words.now.out.now _ _ c.refuse_text.ensures.answers)

pub returns-in-Err-Fault-clause-others : goal.returns-in-Err-Fault-clause-others
returns-in-Err-Fault-clause-others g c other differs =
    c.refuse_text.ensures.others other
    ∙ ap (λ (files : Option Files). file_at files other) c.read_network.ensures.untouched.files

pub returns-in-Err-Fault-clause-opens_in_turn : goal.returns-in-Err-Fault-clause-opens_in_turn
returns-in-Err-Fault-clause-opens_in_turn g c =
    let between = seen g.D.Desk.files g.D.Desk.written g.D.Desk.printed c.read_network.new.desk in
    let now = seen g.D.Desk.files g.D.Desk.written g.D.Desk.printed c.refuse_text.new.desk in
    refusal_opens _ _ c.refuse_text.result between now _ _ _ c.refuse_text.ensures.answers
    c.read_network.ensures.opened c.refuse_text.ensures.openings_stay

-- ---- a status ends the command

pub returns-in-Err-Ended-clause-leaves : goal.returns-in-Err-Ended-clause-leaves
returns-in-Err-Ended-clause-leaves g c =
    let status = c.in-Err-Ended.status in
    let why : (status ≡ ReadFault) ⊎ (status ≡ OutOfMemory) =
    rw c.in-Err-Ended.field-0-is at c.in-Err-Ended.ensures.why in
    rw c.in-Err-Ended.field-0-is (ended_leaves status why _ _ c.read_network.ensures.untouched)

pub returns-in-Err-Ended-clause-never_usage : goal.returns-in-Err-Ended-clause-never_usage
returns-in-Err-Ended-clause-never_usage g c =
    let status = c.in-Err-Ended.status in
    let why : (status ≡ ReadFault) ⊎ (status ≡ OutOfMemory) =
    rw c.in-Err-Ended.field-0-is at c.in-Err-Ended.ensures.why in
    rw c.in-Err-Ended.field-0-is (ended_never_usage status why)

pub returns-in-Err-Ended-clause-refused : goal.returns-in-Err-Ended-clause-refused
returns-in-Err-Ended-clause-refused g c text line cause told fault =
    let status = c.in-Err-Ended.status in
    let why : (status ≡ ReadFault) ⊎ (status ≡ OutOfMemory) =
    rw c.in-Err-Ended.field-0-is at c.in-Err-Ended.ensures.why in
    rw c.in-Err-Ended.field-0-is (ended_refused status _ _ c.read_network.ensures.untouched why line cause)

pub returns-in-Err-Ended-clause-searches : goal.returns-in-Err-Ended-clause-searches
returns-in-Err-Ended-clause-searches g c text certificate told none told_too =
    let status = c.in-Err-Ended.status in
    let why : (status ≡ ReadFault) ⊎ (status ≡ OutOfMemory) =
    rw c.in-Err-Ended.field-0-is at c.in-Err-Ended.ensures.why in
    rw c.in-Err-Ended.field-0-is (ended_searches status why _ _ c.read_network.ensures.untouched text certificate
    c.args.words.now.out.now)

pub returns-in-Err-Ended-clause-not_refused : goal.returns-in-Err-Ended-clause-not_refused
returns-in-Err-Ended-clause-not_refused g c text told none =
    let status = c.in-Err-Ended.status in
    let why : (status ≡ ReadFault) ⊎ (status ≡ OutOfMemory) =
    rw c.in-Err-Ended.field-0-is at c.in-Err-Ended.ensures.why in
    rw c.in-Err-Ended.field-0-is (ended_not_refused status why)

pub returns-in-Err-Ended-clause-holds : goal.returns-in-Err-Ended-clause-holds
returns-in-Err-Ended-clause-holds g c =
    let status = c.in-Err-Ended.status in
    let why : (status ≡ ReadFault) ⊎ (status ≡ OutOfMemory) =
    rw c.in-Err-Ended.field-0-is at c.in-Err-Ended.ensures.why in
    rw c.in-Err-Ended.field-0-is (ended_holds status why _ _ c.read_network.ensures.untouched c.args.words.now.out.now)

pub returns-in-Err-Ended-clause-others : goal.returns-in-Err-Ended-clause-others
returns-in-Err-Ended-clause-others g c other differs =
    ap (λ (files : Option Files). file_at files other) c.read_network.ensures.untouched.files

pub returns-in-Err-Ended-clause-opens_in_turn : goal.returns-in-Err-Ended-clause-opens_in_turn
returns-in-Err-Ended-clause-opens_in_turn g c =
    let status = c.in-Err-Ended.status in
    let why : (status ≡ ReadFault) ⊎ (status ≡ OutOfMemory) =
    rw c.in-Err-Ended.field-0-is at c.in-Err-Ended.ensures.why in
    rw c.in-Err-Ended.field-0-is (ended_opens status why _ _ c.read_network.ensures.opened)
