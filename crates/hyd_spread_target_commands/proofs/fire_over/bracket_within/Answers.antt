-- The inquiry is for the spread of the text and the pressure of the words; or the text is refused with its fault, or
-- memory is lacking.
use Rattle.std.proofs.Common.{ℤ, refl, subst}
use Rattle.hyd_spec.specs.DemandsHeadsAndPumpLifts.{is_us}
use Rattle.hyd_spec_spread.specs.Spreads.{Spread}
use Rattle.hyd_spec_spread_rows.specs.TextsOfSpreads.{spread_in}
use Rattle.hyd_targets.specs.Inquiries.{target_pressure}
use Rattle.hyd_spread_targets.specs.InquiriesWithin.{target_within}
use Rattle.hyd_command_answers.specs.DeskContents.{seen}
use Rattle.hyd_spread_files.specs.RefusedSpreads.{IsSpreadFault}
use Rattle.hyd_spread_target_commands.specs.AnswersByTexts.{answers, lacks_memory, refuses}
use Rattle.hyd_spread_target_commands.specs.SpreadBrackets.{AnswersFireOver}
use Rattle.hyd_spread_target_commands.proofs.fire_over.bracket_within.Goals as goal

pub returns-in-Ok-clause-answers : goal.returns-in-Ok-clause-answers
returns-in-Ok-clause-answers g c =
    let project = c.args.project.now in
    let words = c.args.words.now.fire in
    let before = seen g.D.Desk.files g.D.Desk.written g.D.Desk.printed c.args.desk.now in
    let now = seen g.D.Desk.files g.D.Desk.written g.D.Desk.printed c.bracket_of_name.new.desk in
    answers c.in-Ok.ensures.gives
    (subst (λ (p : ℤ). AnswersFireOver project words.junction.now (target_pressure (is_us project) p) words.rounds
    (spread_in project c.args.text.now) c.bracket_of_name.result before now) c.in-Ok.ensures.pressure
    (subst (λ (s : Spread). AnswersFireOver project words.junction.now (target_within project c.in-Ok.inquiry)
    words.rounds s c.bracket_of_name.result before now) c.in-Ok.ensures.spread c.bracket_of_name.ensures.answers))

pub returns-in-Err-OutOfMemory-clause-answers : goal.returns-in-Err-OutOfMemory-clause-answers
returns-in-Err-OutOfMemory-clause-answers g c =
    lacks_memory refl (record { files = refl; written = refl; printed = refl })

pub returns-in-Err-Fault-clause-answers : goal.returns-in-Err-Fault-clause-answers
returns-in-Err-Fault-clause-answers g c =
    let fault = c.in-Err-Fault.fault in
    let found : IsSpreadFault c.args.project.now c.args.text.now fault.line fault.cause =
    rw c.in-Err-Fault.field-0-is at c.in-Err-Fault.ensures.fault in
    refuses (record {
      line = fault.line;
      cause = fault.cause;
      is_fault = found;
      answers = c.refuse_spread.ensures.answers;
    })
