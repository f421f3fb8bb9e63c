-- The check is by a run for the spread of the text; or the text is refused with its fault.
use Rattle.std.proofs.Common.{subst}
use Rattle.hyd_spec.specs.ProgramTypes.{Project}
use Rattle.hyd_spec_spread.specs.Spreads.{Spread}
use Rattle.hyd_command_answers.specs.DeskContents.{seen}
use Rattle.hyd_check_command.proofs.CheckLemmas.{check_never_refused}
use Rattle.hyd_spread_command.specs.SpreadChecks.{AnswersCertOver, checks}
use Rattle.hyd_spread_files.proofs.RefusalLemmas.{refusal_prints}
use Rattle.hyd_spread_command.proofs.SpreadCheckLemmas.{refusal_leaves_cert}
use Rattle.hyd_spread_command.proofs.whole_check.check_within.Goals as goal

pub returns-in-Ok-clause-answers : goal.returns-in-Ok-clause-answers
returns-in-Ok-clause-answers g c =
    let before = seen g.D.Desk.files g.D.Desk.written g.D.Desk.printed c.args.desk.now in
    let now = seen g.D.Desk.files g.D.Desk.written g.D.Desk.printed c.check_in_room.new.desk in
    let status = c.check_in_room.result in
    checks c.in-Ok.ensures.gives (check_never_refused status _ _ c.check_in_room.ensures.opened) (λ certificate told.
    subst (λ (s : Spread). AnswersCertOver c.args.project s certificate status before now) c.in-Ok.ensures.spread
    (subst (λ (p : Project). AnswersCertOver p c.in-Ok.sim.nets.spread certificate status before now)
    c.in-Ok.ensures.project (c.check_in_room.ensures.answers certificate told)))

pub returns-in-Err-Fault-clause-only_prints : goal.returns-in-Err-Fault-clause-only_prints
returns-in-Err-Fault-clause-only_prints g c =
    refusal_prints _ _ c.refuse_spread.result _ _ c.refuse_spread.ensures.answers

pub returns-in-Err-Fault-clause-leaves : goal.returns-in-Err-Fault-clause-leaves
returns-in-Err-Fault-clause-leaves g c =
    let before = seen g.D.Desk.files g.D.Desk.written g.D.Desk.printed c.args.desk.now in
    let now = seen g.D.Desk.files g.D.Desk.written g.D.Desk.printed c.refuse_spread.new.desk in
    refusal_leaves_cert _ _ c.refuse_spread.result before now c.refuse_spread.ensures.answers
