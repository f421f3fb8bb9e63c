use Rattle.std.proofs.Common.{◌≡◌, subst, sym}
use Rattle.std.proofs.lemmas.Result.{err_from_is_err_and}
use Rattle.hyd_spec_open_ends.specs.OpenStandings.{OpenRecord}
use Rattle.hyd_spec_spread.specs.Spreads.{Spread, IsSpread}
use Rattle.hyd_spec_open_spreads.specs.OpenRunsForSpreads.{IsValidOpenlyOver}
use Rattle.hyd_theorems_on_spread_refusals.proofs.OneSpreadRefusal.{one_refusal, refused_invalid}
use Rattle.hyd_open_certificates.specs.OpenRowView.{open_record_of}
use Rattle.hyd_open_sim_start.specs.StandingsOfOpenRuns.{standing_for}
use Rattle.hyd_open_sim.specs.EndedPeriods.{next_standing}
use Rattle.hyd_spread_networks.specs.NetsOfSpreads.{pair_of}
use Rattle.hyd_spread_sim.proofs.StandingsOverSpreads.{leads-of}
use Rattle.hyd_spread_sim.proofs.acceptance.take.Goals as goal

pub returns-clause-taken : goal.returns-clause-taken
returns-clause-taken c =
    let made = c.in_ok-check_due.ensures.made in
    leads-of c.args.project.now c.args.standing.now c.check_due.new.nets c.check_due.new.found c.check_due.new.facts
    c.check_due.new.close c.go_on.new.standing c.go_on.new.close c.go_on.ensures.standing
    c.go_on.ensures.first c.go_on.ensures.late c.go_on.ensures.opened made.0 made.1

pub returns-clause-exactly : goal.returns-clause-exactly
returns-clause-exactly c = λ cause is.
    let project = c.args.project.now in
    let here = c.args.standing.now in
    let given = open_record_of c.args.given.now in
    let nets = c.check_due.new.nets in
    let next = next_standing project here c.check_due.new.close in
    let valid : IsValidOpenlyOver project c.args.nets.now.spread (standing_for here) (pair_of nets) given next =
    subst (λ (s : Spread). IsValidOpenlyOver project s (standing_for here) (pair_of nets) given next)
    c.check_due.ensures.spread
    (subst (λ (r : OpenRecord). IsValidOpenlyOver project nets.spread (standing_for here) (pair_of nets) r next)
    c.in_ok-check_due.ensures.found c.in_ok-check_due.ensures.made.1.valid) in
    absurd (refused_invalid project c.args.nets.now.spread (standing_for here) given cause is (pair_of nets) next
    valid)

pub returns-in_err-check_place-clause-exactly : goal.returns-in_err-check_place-clause-exactly
returns-in_err-check_place-clause-exactly c = λ cause is.
    let same : c.in_err-check_place.field-0.0 ≡ cause = one_refusal c.args.project.now c.args.nets.now.spread
    (standing_for c.args.standing.now) (open_record_of c.args.given.now) _ cause
    c.in_err-check_place.ensures.refused is in
    let out = err_from_is_err_and c.from_residual.result c.from_residual.ensures.1 in
    let first = out.1 in
    let there = out.2 in
    cc

pub returns-in_err-check_due-clause-exactly : goal.returns-in_err-check_due-clause-exactly
returns-in_err-check_due-clause-exactly c = λ cause is.
    let same : c.in_err-check_due.field-0.0 ≡ cause = one_refusal c.args.project.now c.args.nets.now.spread
    (standing_for c.args.standing.now) (open_record_of c.args.given.now) _ cause
    c.in_err-check_due.ensures.refused is in
    let out = err_from_is_err_and c.from_residual-in_err-check_due.result c.from_residual-in_err-check_due.ensures.1 in
    let first = out.1 in
    let there = out.2 in
    cc

pub go_on-requires-clause-spread : goal.go_on-requires-clause-spread
go_on-requires-clause-spread c =
    subst (λ (s : Spread). IsSpread c.args.project.now s) (sym c.check_due.ensures.spread) c.requires.spread
