use Rattle.std.proofs.Common.{◌≡◌, subst}
use Rattle.std.proofs.lemmas.Result.{err_from_is_err_and}
use Rattle.hyd_spec_open_ends.specs.OpenStandings.{OpenRecord}
use Rattle.hyd_spec_open_ends.specs.OpenRecords.{IsValidOpenly}
use Rattle.hyd_theorems_on_open_refusals.proofs.OneOpenRefusal.{one_refusal, refused_invalid}
use Rattle.hyd_open_certificates.specs.OpenRowView.{open_record_of}
use Rattle.hyd_period_network.specs.NetAsPeriodNetwork.{grid_of}
use Rattle.hyd_open_sim_start.specs.StandingsOfOpenRuns.{standing_for}
use Rattle.hyd_open_sim.specs.EndedPeriods.{next_standing}
use Rattle.hyd_open_sim.proofs.TakenAndRefusedRecords.{taken-of}
use Rattle.hyd_open_sim.proofs.StandingsBehindPeriods.{goes-on}
use Rattle.hyd_open_sim.proofs.handed_in_record.take.Goals as goal

pub returns-clause-taken : goal.returns-clause-taken
returns-clause-taken c =
    taken-of c.args.project.now c.args.standing.now c.check_due.new.net c.check_due.new.found c.check_due.new.facts
    c.check_due.new.close c.move_on.new.standing c.move_on.new.close c.move_on.ensures.standing
    c.move_on.ensures.first c.move_on.ensures.late c.move_on.ensures.opened c.in_ok-check_due.ensures.made

pub move_on-requires-clause-goes_on : goal.move_on-requires-clause-goes_on
move_on-requires-clause-goes_on c =
    let made = c.in_ok-check_due.ensures.made in
    goes-on c.args.project.now c.requires.sound c.args.standing.now c.requires.standing c.check_due.new.net
    c.check_due.new.found c.check_due.new.facts c.check_due.new.close made.0 made.1

pub returns-clause-exactly : goal.returns-clause-exactly
returns-clause-exactly c = λ cause is.
    let project = c.args.project.now in
    let here = c.args.standing.now in
    let grid = grid_of c.check_due.new.net in
    let next = next_standing project here c.check_due.new.close in
    absurd (refused_invalid project (standing_for here) (open_record_of c.args.given.now) cause is grid next
    (subst (λ (r : OpenRecord). IsValidOpenly project (standing_for here) grid r next)
    c.in_ok-check_due.ensures.found c.in_ok-check_due.ensures.made.1.valid))

pub returns-in_err-check_place-clause-exactly : goal.returns-in_err-check_place-clause-exactly
returns-in_err-check_place-clause-exactly c = λ cause is.
    let same : c.in_err-check_place.field-0.0 ≡ cause = one_refusal c.args.project.now
    (standing_for c.args.standing.now) (open_record_of c.args.given.now) _ cause
    c.in_err-check_place.ensures.refused is in
    let out = err_from_is_err_and c.from_residual.result c.from_residual.ensures.1 in
    let first = out.1 in
    let there = out.2 in
    cc

pub returns-in_err-check_due-clause-exactly : goal.returns-in_err-check_due-clause-exactly
returns-in_err-check_due-clause-exactly c = λ cause is.
    let same : c.in_err-check_due.field-0.0 ≡ cause = one_refusal c.args.project.now
    (standing_for c.args.standing.now) (open_record_of c.args.given.now) _ cause
    c.in_err-check_due.ensures.refused is in
    let out = err_from_is_err_and c.from_residual-in_err-check_due.result c.from_residual-in_err-check_due.ensures.1 in
    let first = out.1 in
    let there = out.2 in
    cc
