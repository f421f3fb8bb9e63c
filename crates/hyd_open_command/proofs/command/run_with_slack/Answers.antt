-- What the calls of a run leave, said of its start.
use Rattle.std.proofs.Common.{Option, ap, ◌∙◌}
use Rattle.hyd_io.specs.DeskBytes.{Files, file_at}
use Rattle.hyd_spec_input.specs.Faults.{IsFault}
use Rattle.hyd_open_run.specs.PeriodsOfOpenRuns.{asked_of}
use Rattle.hyd_theorems_on_input.proofs.OneFault.{one_fault, no_fault_beside}
use Rattle.hyd_command_answers.specs.DeskContents.{seen}
use Rattle.hyd_command_answers.specs.FaultsAndRefusals.{AnswersRefused}
use Rattle.hyd_command_answers.proofs.AnswerLemmas.{refused_since}
use Rattle.hyd_open_command.proofs.OpenLemmas.{leaves_since, holds_since, run_since, refused_leaves_since}
use Rattle.hyd_command_answers.proofs.AnswerLemmas.{same_refusal, opens_once}
use Rattle.hyd_open_command.proofs.OpenLemmas.{refused_holds_since, never_usage}
use Rattle.hyd_command_answers.proofs.AnswerLemmas.{refusal_never_usage}
use Rattle.hyd_open_command.proofs.command.run_with_slack.Goals as goal

-- ---- a network was read

pub returns-in-Ok-clause-leaves : goal.returns-in-Ok-clause-leaves
returns-in-Ok-clause-leaves g c =
    let before = seen g.D.Desk.files g.D.Desk.written g.D.Desk.printed c.args.desk.now in
    let between = seen g.D.Desk.files g.D.Desk.written g.D.Desk.printed c.read_network.new.desk in
    let now = seen g.D.Desk.files g.D.Desk.written g.D.Desk.printed c.run_network.new.desk in
    leaves_since c.in-Ok.project (asked_of c.args.settings) c.args.cert.now c.run_network.result
    before between now
    c.read_network.ensures.untouched c.run_network.ensures.answers

pub returns-in-Ok-clause-never_usage : goal.returns-in-Ok-clause-never_usage
returns-in-Ok-clause-never_usage g c =
    never_usage c.in-Ok.project (asked_of c.args.settings) c.args.cert.now c.run_network.result _ _
    c.run_network.ensures.answers

pub returns-in-Ok-clause-refused : goal.returns-in-Ok-clause-refused
returns-in-Ok-clause-refused g c text line cause told fault =
    absurd (no_fault_beside text line cause fault (c.in-Ok.ensures.no_fault text told))

pub returns-in-Ok-clause-run : goal.returns-in-Ok-clause-run
returns-in-Ok-clause-run g c text told none =
    let before = seen g.D.Desk.files g.D.Desk.written g.D.Desk.printed c.args.desk.now in
    let between = seen g.D.Desk.files g.D.Desk.written g.D.Desk.printed c.read_network.new.desk in
    let now = seen g.D.Desk.files g.D.Desk.written g.D.Desk.printed c.run_network.new.desk in
    run_since text c.in-Ok.project (asked_of c.args.settings) c.args.cert.now c.run_network.result
    before between now
    c.read_network.ensures.untouched (c.in-Ok.ensures.project text told) c.run_network.ensures.answers

pub returns-in-Ok-clause-holds : goal.returns-in-Ok-clause-holds
returns-in-Ok-clause-holds g c =
    let before = seen g.D.Desk.files g.D.Desk.written g.D.Desk.printed c.args.desk.now in
    let between = seen g.D.Desk.files g.D.Desk.written g.D.Desk.printed c.read_network.new.desk in
    let now = seen g.D.Desk.files g.D.Desk.written g.D.Desk.printed c.run_network.new.desk in
    holds_since c.in-Ok.project (asked_of c.args.settings) c.args.cert.now c.run_network.result
    before between now
    c.read_network.ensures.untouched c.run_network.ensures.answers

pub returns-in-Ok-clause-others : goal.returns-in-Ok-clause-others
returns-in-Ok-clause-others g c other differs =
    c.run_network.ensures.others other differs
    ∙ ap (λ (files : Option Files). file_at files other) c.read_network.ensures.untouched.files

pub returns-in-Ok-clause-once : goal.returns-in-Ok-clause-once
returns-in-Ok-clause-once g c =
    opens_once c.run_network.result (g.D.Desk.openings c.args.desk.now) (g.D.Desk.openings c.read_network.new.desk)
    (g.D.Desk.openings c.run_network.new.desk) c.read_network.ensures.opened
    c.run_network.ensures.opens

-- ---- the text has a fault

pub returns-in-Err-Fault-clause-leaves : goal.returns-in-Err-Fault-clause-leaves
returns-in-Err-Fault-clause-leaves g c =
    let before = seen g.D.Desk.files g.D.Desk.written g.D.Desk.printed c.args.desk.now in
    let between = seen g.D.Desk.files g.D.Desk.written g.D.Desk.printed c.read_network.new.desk in
    let now = seen g.D.Desk.files g.D.Desk.written g.D.Desk.printed c.refuse_text.new.desk in
    refused_leaves_since _ _ c.refuse_text.result before between now c.read_network.ensures.untouched
    c.refuse_text.ensures.answers

pub returns-in-Err-Fault-clause-never_usage : goal.returns-in-Err-Fault-clause-never_usage
returns-in-Err-Fault-clause-never_usage g c =
    refusal_never_usage _ _ c.refuse_text.result _ _ c.refuse_text.ensures.answers

pub returns-in-Err-Fault-clause-refused : goal.returns-in-Err-Fault-clause-refused
returns-in-Err-Fault-clause-refused g c text line cause told fault =
    let before = seen g.D.Desk.files g.D.Desk.written g.D.Desk.printed c.args.desk.now in
    let between = seen g.D.Desk.files g.D.Desk.written g.D.Desk.printed c.read_network.new.desk in
    let now = seen g.D.Desk.files g.D.Desk.written g.D.Desk.printed c.refuse_text.new.desk in
    let found : IsFault text c.in-Err-Fault.fault.line c.in-Err-Fault.fault.cause =
    rw c.in-Err-Fault.field-0-is at (c.in-Err-Fault.ensures.fault text told) in
    let same = one_fault text c.in-Err-Fault.fault.line line c.in-Err-Fault.fault.cause cause found fault in
    let answered : AnswersRefused c.in-Err-Fault.fault.line c.in-Err-Fault.fault.cause c.refuse_text.result between
    now =
    rw c.in-Err-Fault.field-0-is at c.refuse_text.ensures.answers in
    same_refusal c.in-Err-Fault.fault.line line c.in-Err-Fault.fault.cause cause c.refuse_text.result before now
    same.lines same.causes (refused_since c.in-Err-Fault.fault.line c.in-Err-Fault.fault.cause c.refuse_text.result
    before
    between now c.read_network.ensures.untouched answered)

pub returns-in-Err-Fault-clause-run : goal.returns-in-Err-Fault-clause-run
returns-in-Err-Fault-clause-run g c text told none =
    let found : IsFault text c.in-Err-Fault.fault.line c.in-Err-Fault.fault.cause =
    rw c.in-Err-Fault.field-0-is at (c.in-Err-Fault.ensures.fault text told) in
    absurd (no_fault_beside text c.in-Err-Fault.fault.line c.in-Err-Fault.fault.cause found none)

pub returns-in-Err-Fault-clause-holds : goal.returns-in-Err-Fault-clause-holds
returns-in-Err-Fault-clause-holds g c =
    let before = seen g.D.Desk.files g.D.Desk.written g.D.Desk.printed c.args.desk.now in
    let between = seen g.D.Desk.files g.D.Desk.written g.D.Desk.printed c.read_network.new.desk in
    let now = seen g.D.Desk.files g.D.Desk.written g.D.Desk.printed c.refuse_text.new.desk in
    refused_holds_since _ _ c.refuse_text.result _ before between now c.read_network.ensures.untouched
    c.refuse_text.ensures.answers

pub returns-in-Err-Fault-clause-others : goal.returns-in-Err-Fault-clause-others
returns-in-Err-Fault-clause-others g c other differs =
    c.refuse_text.ensures.others other
    ∙ ap (λ (files : Option Files). file_at files other) c.read_network.ensures.untouched.files

pub returns-in-Err-Fault-clause-once : goal.returns-in-Err-Fault-clause-once
returns-in-Err-Fault-clause-once g c =
    opens_once c.refuse_text.result (g.D.Desk.openings c.args.desk.now) (g.D.Desk.openings c.read_network.new.desk)
    (g.D.Desk.openings c.refuse_text.new.desk) c.read_network.ensures.opened c.refuse_text.ensures.opens
