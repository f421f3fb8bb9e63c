use Rattle.std.proofs.Common.{◌≡◌, subst}
use Rattle.std.proofs.lemmas.Result.{err_from_is_err_and}
use Rattle.hyd_spec_certificates.specs.RecordAndStanding.{Record}
use Rattle.hyd_spec_certificates.specs.Valid.{IsValid}
use Rattle.hyd_theorems_on_definitions.proofs.OneRefusal.{one_refusal, refused_invalid}
use Rattle.hyd_cert.specs.RecordView.{row_of}
use Rattle.hyd_period_network.specs.NetAsPeriodNetwork.{grid_of}
use Rattle.hyd_sim.specs.PeriodAttempt.{next_standing}
use Rattle.hyd_sim.specs.RunView.{standing_for}
use Rattle.hyd_sim.proofs.TakenAndRefusedRecords.{taken-of}
use Rattle.hyd_sim.proofs.handed_in_record.take.Goals as goal

pub returns-clause-taken : goal.returns-clause-taken
returns-clause-taken c =
    taken-of c.args.project.now c.args.standing.now c.check_due.new.net c.check_due.new.row c.check_due.new.facts
    c.check_due.new.close c.move_on.new.self c.move_on.ensures.standing c.in_ok-check_due.ensures.made

pub returns-clause-exactly : goal.returns-clause-exactly
returns-clause-exactly c = λ cause is.
    let project = c.args.project.now in
    let here = c.args.standing.now in
    let grid = grid_of c.check_due.new.net in
    let next = next_standing project here c.check_due.new.row.length c.check_due.new.close in
    absurd (refused_invalid project (standing_for here) (row_of c.args.given.now) cause is grid next
    (subst (λ (r : Record). IsValid project (standing_for here) grid r next) c.in_ok-check_due.ensures.row
    c.in_ok-check_due.ensures.made.valid))

pub returns-in_err-check_place-clause-exactly : goal.returns-in_err-check_place-clause-exactly
returns-in_err-check_place-clause-exactly c = λ cause is.
    let same : c.in_err-check_place.field-0.0 ≡ cause = one_refusal c.args.project.now
    (standing_for c.args.standing.now) (row_of c.args.given.now) _ cause c.in_err-check_place.ensures.refused is in
    let out = err_from_is_err_and c.from_residual.result c.from_residual.ensures.1 in
    let first = out.1 in
    let there = out.2 in
    cc

pub returns-in_err-check_due-clause-exactly : goal.returns-in_err-check_due-clause-exactly
returns-in_err-check_due-clause-exactly c = λ cause is.
    let same : c.in_err-check_due.field-0.0 ≡ cause = one_refusal c.args.project.now
    (standing_for c.args.standing.now) (row_of c.args.given.now) _ cause c.in_err-check_due.ensures.refused is in
    let out = err_from_is_err_and c.from_residual-in_err-check_due.result c.from_residual-in_err-check_due.ensures.1 in
    let first = out.1 in
    let there = out.2 in
    cc
