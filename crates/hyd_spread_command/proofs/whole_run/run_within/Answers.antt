-- The run is for the spread of the text; or the text is refused with its fault, or memory is lacking.
use Rattle.std.proofs.Common.{◌∙◌, ap, refl}
use Rattle.hyd_spec_spread_rows.specs.TextsOfSpreads.{spread_in}
use Rattle.hyd_spread_check.specs.PassedOn.{asked_of}
use Rattle.hyd_command_answers.specs.DeskContents.{seen}
use Rattle.hyd_spread_files.specs.RefusedSpreads.{IsSpreadFault, AnswersSpreadRefused}
use Rattle.hyd_spread_command.specs.SpreadAnswers.{refuses, runs, lacks_memory}
use Rattle.hyd_spread_command.proofs.SpreadLemmas.{run_of}
use Rattle.hyd_spread_command.proofs.whole_run.run_within.Goals as goal

pub returns-in-Ok-clause-answers : goal.returns-in-Ok-clause-answers
returns-in-Ok-clause-answers g c =
    let before = seen g.D.Desk.files g.D.Desk.written g.D.Desk.printed c.args.desk.now in
    let now = seen g.D.Desk.files g.D.Desk.written g.D.Desk.printed c.run_by_gradients-status.new.desk in
    let spread = spread_in c.args.project c.args.text.now in
    runs c.in-Ok.ensures.gives (run_of c.args.project c.in-Ok.sim.project (asked_of c.args.settings spread)
    (asked_of c.in-Ok.sim.settings c.in-Ok.sim.nets.spread) c.args.names.cert.now c.run_by_gradients-status.result
    before now c.in-Ok.ensures.project
    (ap (λ s. asked_of s c.in-Ok.sim.nets.spread) c.in-Ok.ensures.settings
    ∙ ap (asked_of c.args.settings) c.in-Ok.ensures.spread)
    c.run_by_gradients-status.ensures.answers)

pub returns-in-Err-OutOfMemory-clause-answers : goal.returns-in-Err-OutOfMemory-clause-answers
returns-in-Err-OutOfMemory-clause-answers g c =
    lacks_memory refl (record { files = refl; written = refl; printed = refl })

pub returns-in-Err-Fault-clause-answers : goal.returns-in-Err-Fault-clause-answers
returns-in-Err-Fault-clause-answers g c =
    let fault = c.in-Err-Fault.fault in
    let found : IsSpreadFault c.args.project c.args.text.now fault.line fault.cause =
    rw c.in-Err-Fault.field-0-is at c.in-Err-Fault.ensures.fault in
    let before = seen g.D.Desk.files g.D.Desk.written g.D.Desk.printed c.args.desk.now in
    let now = seen g.D.Desk.files g.D.Desk.written g.D.Desk.printed c.refuse_spread.new.desk in
    let answered : AnswersSpreadRefused fault.line fault.cause c.refuse_spread.result before now =
    rw c.in-Err-Fault.field-0-is at c.refuse_spread.ensures.answers in
    refuses (record { line = fault.line; cause = fault.cause; is_fault = found; answers = answered })
