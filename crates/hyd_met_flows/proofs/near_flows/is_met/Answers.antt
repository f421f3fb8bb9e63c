use Rattle.std.proofs.Common.{Option, subst}
use Rattle.std.specs.Int.{w128}
use Rattle.std.proofs.lemmas.Int.{to_z-of_z}
use Rattle.hyd_spec_witnesses.specs.MetFlows.{IsNearBoth, IsMetBy}
use Rattle.hyd_laws_at_scale.specs.declared.windows.Window.{Window}
use Rattle.hyd_laws_at_scale.specs.Scales.{parts_of}
use Rattle.hyd_laws_at_scale.specs.Windows.{IsWindow, IsAnswer}
use Rattle.hyd_met_flows.proofs.Tests.{also_true, also_false}
use Rattle.hyd_met_flows.proofs.NearFlows.{met_by, near_of}
use Rattle.hyd_met_flows.proofs.near_flows.is_met.Goals as goal

pub returns-in-Some-clause-yes : goal.returns-in-Some-clause-yes
returns-in-Some-clause-yes c = λ law d answer.
    let S = parts_of c.args.scale in
    let w = c.in-Some.window in
    let is : IsWindow S law d w = subst (λ (o : Option Window). IsAnswer S law d o) c.in-Some.is answer in
    let f = to_z-of_z w128 c.args.flow c.ranges.flow in
    also_true c.is_near.result (IsNearBoth S w.low w.high c.args.flow) (IsMetBy law S d c.args.flow)
    (rw f at c.is_near.ensures.yes) (met_by S law d w c.args.flow is)

pub returns-in-Some-clause-no : goal.returns-in-Some-clause-no
returns-in-Some-clause-no c = λ law d answer.
    let S = parts_of c.args.scale in
    let w = c.in-Some.window in
    let is : IsWindow S law d w = subst (λ (o : Option Window). IsAnswer S law d o) c.in-Some.is answer in
    let f = to_z-of_z w128 c.args.flow c.ranges.flow in
    also_false c.is_near.result (IsNearBoth S w.low w.high c.args.flow) (IsMetBy law S d c.args.flow)
    (rw f at c.is_near.ensures.no) (near_of S law d w c.args.flow is)

pub returns-in-None-clause-no : goal.returns-in-None-clause-no
returns-in-None-clause-no c = λ law d answer met.
    (subst (λ (o : Option Window). IsAnswer (parts_of c.args.scale) law d o) c.in-None.is answer) met.in_range
