-- The text has a network or a fault, and never both.
use Rattle.std.proofs.Common.{inl}
use Rattle.hyd_spec_input.specs.Faults.{IsFault}
use Rattle.hyd_theorems_on_input.proofs.OneFault.{one_fault, no_fault_beside}
use Rattle.hyd_command_words.specs.CommandView.{files_seen}
use Rattle.hyd_command_answers.specs.DeskContents.{seen}
use Rattle.hyd_command_answers.specs.FaultsAndRefusals.{AnswersRefused}
use Rattle.hyd_command_answers.proofs.AnswerLemmas.{same_refusal, refusal_never_usage}
use Rattle.hyd_cli.proofs.GenLemmas.{generated_leaves, generated_never_usage, generated_answers, gen_refusal_leaves}
use Rattle.hyd_cli.proofs.GenLemmas.{refusal_creates}
use Rattle.hyd_cli.proofs.command_gen.run_text.Goals as goal

-- ---- its network was run

pub returns-in-Ok-clause-leaves : goal.returns-in-Ok-clause-leaves
returns-in-Ok-clause-leaves g c order =
    generated_leaves c.in-Ok.project c.args.text.now (files_seen c.args.files) c.do_with_network.result _ _ _ _ _
    c.do_with_network.ensures.does.answers

pub returns-in-Ok-clause-never_usage : goal.returns-in-Ok-clause-never_usage
returns-in-Ok-clause-never_usage g c =
    generated_never_usage c.in-Ok.project c.args.text.now (files_seen c.args.files) c.do_with_network.result _ _ _ _ _
    c.do_with_network.ensures.does.answers

pub returns-in-Ok-clause-refused : goal.returns-in-Ok-clause-refused
returns-in-Ok-clause-refused g c line cause fault =
    absurd (no_fault_beside c.args.text.now line cause fault c.in-Ok.ensures.no_fault)

pub returns-in-Ok-clause-answers : goal.returns-in-Ok-clause-answers
returns-in-Ok-clause-answers g c none =
    generated_answers c.args.text.now c.in-Ok.project (files_seen c.args.files) c.do_with_network.result _ _ _ _ _
    c.in-Ok.ensures.project c.do_with_network.ensures.does.answers

-- ---- it has a fault

pub returns-in-Err-Fault-clause-leaves : goal.returns-in-Err-Fault-clause-leaves
returns-in-Err-Fault-clause-leaves g c order =
    gen_refusal_leaves _ _ c.refuse_text.result _ _ c.refuse_text.ensures.answers

pub returns-in-Err-Fault-clause-never_usage : goal.returns-in-Err-Fault-clause-never_usage
returns-in-Err-Fault-clause-never_usage g c =
    refusal_never_usage _ _ c.refuse_text.result _ _ c.refuse_text.ensures.answers

pub returns-in-Err-Fault-clause-refused : goal.returns-in-Err-Fault-clause-refused
returns-in-Err-Fault-clause-refused g c line cause fault =
    let before = seen g.D.Desk.files g.D.Desk.written g.D.Desk.printed c.args.desk.now in
    let now = seen g.D.Desk.files g.D.Desk.written g.D.Desk.printed c.refuse_text.new.desk in
    let text = c.args.text.now in
    let found : IsFault text c.in-Err-Fault.fault.line c.in-Err-Fault.fault.cause =
    rw c.in-Err-Fault.field-0-is at c.in-Err-Fault.ensures.fault in
    let same = one_fault text c.in-Err-Fault.fault.line line c.in-Err-Fault.fault.cause cause found fault in
    let answered : AnswersRefused c.in-Err-Fault.fault.line c.in-Err-Fault.fault.cause c.refuse_text.result before now =
    rw c.in-Err-Fault.field-0-is at c.refuse_text.ensures.answers in
    same_refusal c.in-Err-Fault.fault.line line c.in-Err-Fault.fault.cause cause c.refuse_text.result before now
    same.lines same.causes answered

pub returns-in-Err-Fault-clause-answers : goal.returns-in-Err-Fault-clause-answers
returns-in-Err-Fault-clause-answers g c none =
    let found : IsFault c.args.text.now c.in-Err-Fault.fault.line c.in-Err-Fault.fault.cause =
    rw c.in-Err-Fault.field-0-is at c.in-Err-Fault.ensures.fault in
    absurd (no_fault_beside c.args.text.now c.in-Err-Fault.fault.line c.in-Err-Fault.fault.cause found none)

pub returns-in-Err-Fault-clause-others : goal.returns-in-Err-Fault-clause-others
returns-in-Err-Fault-clause-others g c other net cert = c.refuse_text.ensures.others other

pub returns-in-Err-Fault-clause-once : goal.returns-in-Err-Fault-clause-once
returns-in-Err-Fault-clause-once g c =
    refusal_creates _ _ c.refuse_text.result _ _ _ _ c.refuse_text.ensures.answers c.refuse_text.ensures.opens

pub returns-in-Err-Fault-clause-keeps_cert : goal.returns-in-Err-Fault-clause-keeps_cert
returns-in-Err-Fault-clause-keeps_cert g c = inl (c.refuse_text.ensures.others c.args.files.cert.now)

pub returns-in-Err-Fault-clause-keeps_net : goal.returns-in-Err-Fault-clause-keeps_net
returns-in-Err-Fault-clause-keeps_net g c = inl (c.refuse_text.ensures.others c.args.files.net.now)
