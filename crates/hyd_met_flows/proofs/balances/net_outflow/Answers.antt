use Rattle.std.proofs.Common.{◌≤◌, ◌*◌, ℤ, List, length, unsigned_abs, sym, subst, ap, ◌∙◌, arith}
use Rattle.std.specs.Int.{w128}
use Rattle.std.proofs.lemmas.Int.{to_z-of_z}
use Rattle.std.proofs.lemmas.List.{length-map}
use Rattle.hyd_period_network.specs.LinkEnds.{ties_from}
use Rattle.hyd_period_network.specs.NetsSetToPeriods.{ends_of}
use Rattle.hyd_period_network.specs.declared.junctions_ends_and_settings.Ends.{Ends}
use Rattle.hyd_met_flows.specs.TieFlows.{ties_flow}
use Rattle.hyd_met_flows.proofs.FlowsOverTies.{sum_over_ties, bounded}
use Rattle.hyd_met_flows.proofs.balances.net_outflow.Goals as goal

pub taken_by-requires-clause-there : goal.taken_by-requires-clause-there
taken_by-requires-clause-there c k d lt =
    let tie = c.row.ensures.ties k d lt in
    let there = tie.link in
    let as_many = ap length c.requires.of.ends in
    let long = length-map c.args.project.now.links.list ends_of in
    omega (arith, there, as_many, long, c.requires.each)

pub taken_by-requires-clause-few : goal.taken_by-requires-clause-few
taken_by-requires-clause-few c = c.row.ensures.few

pub returns-clause-value : goal.returns-clause-value
returns-clause-value c =
    let project = c.args.project.now in
    let flows = c.args.flows.now in
    to_z-of_z w128 c.taken_by.result (record { sfits = c.taken_by.type_inv })
    ∙ (c.taken_by.ensures.value ∙ (ap (ties_flow flows) c.row.ensures.row
    ∙ (ap (λ (ends : List Ends). ties_flow flows (ties_from c.args.node 0 ends)) c.requires.of.ends
    ∙ sum_over_ties c.args.node project.links.list flows c.requires.each)))

pub returns-clause-bound : goal.returns-clause-bound
returns-clause-bound c = λ most all.
    let project = c.args.project.now in
    let flows = c.args.flows.now in
    subst (λ (z : ℤ). unsigned_abs z ≤ length project.links.list * most) (sym (returns-clause-value c))
    (bounded c.args.node project.links.list flows most all)
