-- The spread and the pressure are those with which the inquiry was opened.
use Rattle.std.proofs.Common.{sym, subst}
use Rattle.hyd_num.specs.declared.decimals.Decimal.{Decimal}
use Rattle.hyd_spec.specs.DemandsHeadsAndPumpLifts.{is_us}
use Rattle.hyd_spec_spread.specs.Spreads.{Spread}
use Rattle.hyd_spec_spread_runs.specs.RunsForSpreads.{AreDemandsInRange}
use Rattle.hyd_targets.specs.Inquiries.{target_pressure}
use Rattle.hyd_spread_targets.specs.InquiriesWithin.{spread_for, target_within}
use Rattle.hyd_command_answers.specs.DeskContents.{seen}
use Rattle.hyd_spread_target_commands.specs.SpreadClosures.{AnswersClosuresOver}
use Rattle.hyd_spread_target_commands.proofs.StatusesOfClosures.{demand_closes}
use Rattle.hyd_spread_target_commands.proofs.closures_over.ask_closures.Goals as goal

pub answer_closures-requires-clause-in_range : goal.answer_closures-requires-clause-in_range
answer_closures-requires-clause-in_range g c =
    subst (λ (s : Spread). AreDemandsInRange c.args.project.now s 0) (sym c.start.ensures.spread)
    c.in-Ok.ensures.in_range

pub returns-in-Ok-clause-answers : goal.returns-in-Ok-clause-answers
returns-in-Ok-clause-answers g c =
    let project = c.args.project.now in
    let before = seen g.D.Desk.files g.D.Desk.written g.D.Desk.printed c.args.desk.now in
    let now = seen g.D.Desk.files g.D.Desk.written g.D.Desk.printed c.answer_closures.new.desk in
    subst (λ (p : Decimal). AnswersClosuresOver project (target_pressure (is_us project) p.nano) c.args.rounds
    (spread_for c.args.inquiry.now) c.answer_closures.result before now) c.start.ensures.pressure
    (subst (λ (s : Spread). AnswersClosuresOver project (target_within project c.start.new.self) c.args.rounds s
    c.answer_closures.result before now) c.start.ensures.spread c.answer_closures.ensures.answers)

pub returns-in-Err-clause-answers : goal.returns-in-Err-clause-answers
returns-in-Err-clause-answers g c =
    demand_closes c.args.project.now (target_within c.args.project.now c.args.inquiry.now) c.args.rounds
    (spread_for c.args.inquiry.now) c.stop_by_demand.result _ _
    (c.stop_by_demand.ensures.answers (spread_for c.args.inquiry.now) c.in-Err.ensures.refused)
