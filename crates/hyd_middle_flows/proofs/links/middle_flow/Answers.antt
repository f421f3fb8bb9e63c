use Rattle.std.proofs.Common.{◌≡◌, ℤ, ℕ, sym, subst}
use Rattle.std.specs.Int.{w128}
use Rattle.std.proofs.lemmas.Int.{to_z-of_z}
use Rattle.hyd_spec_witnesses.specs.EnclosingFunctionsAtScale.{low_at, high_at, IsInRange}
use Rattle.hyd_spec_witnesses.specs.MetPeriods.{difference_of}
use Rattle.hyd_spec_witnesses.specs.MiddleCandidate.{halves, IsHalfway}
use Rattle.hyd_period_network.specs.NetAsPeriodNetwork.{states_of}
use Rattle.hyd_laws_at_scale.specs.Windows.{IsAnswer}
use Rattle.hyd_witness_texts.specs.MomentView.{moment_of}
use Rattle.hyd_met_flows.specs.Periods.{period_in}
use Rattle.hyd_middle_flows.specs.HalfwayFlows.{LinkPasses}
use Rattle.hyd_middle_flows.proofs.WindowsHalved.{law_halfway}
use Rattle.hyd_middle_flows.proofs.links.middle_flow.Goals as goal

pub returns-clause-halfway : goal.returns-clause-halfway
returns-clause-halfway c = λ here at.
    let project = c.args.project.now in
    let net = c.args.net.now in
    let tanks = c.args.tanks.now in
    let period = period_in (moment_of c.args.moment.now) tanks (states_of net) in
    let d = c.difference_of-difference.result in
    let q = c.halfway.result in
    let window = c.window_of_link.result in
    let kept = to_z-of_z w128 d (record { sfits = c.difference_of-difference.type_inv }) in
    let is : d ≡ difference_of project halves period here =
    subst (λ (S : ℕ). d ≡ difference_of project S period here) c.halves.ensures
    (c.difference_of-difference.ensures net tanks here c.requires.set at) in
    let answer : IsAnswer halves here.law d window = subst (λ (S : ℕ). IsAnswer S here.law d window) c.halves-2.ensures
    (rw kept at (c.window_of_link.ensures here at)) in
    subst (LinkPasses project (moment_of c.args.moment.now) tanks (states_of net) here)
    (sym (to_z-of_z w128 q (record { sfits = c.halfway.type_inv })))
    (subst (λ (z : ℤ). IsHalfway (IsInRange halves here.law z) (low_at halves here.law z) (high_at halves here.law z) q)
    is
    (law_halfway here.law d window q (record { some = c.halfway.ensures.some; none = c.halfway.ensures.none }) answer))
