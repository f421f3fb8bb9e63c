use Rattle.std.proofs.Common.{◌≡◌, length, ◌∙◌, All, ap, subst, arith}
use Rattle.hyd_spec.specs.Assignment.{head_at}
use Rattle.hyd_period_network.specs.NetView.{NetView}
use Rattle.hyd_period_network.specs.SoundNets.{IsSoundNet}
use Rattle.hyd_period_network.specs.NetAsPeriodNetwork.{grid_of, node_count}
use Rattle.hyd_period_network.specs.LinkEnds.{ties_from, ties_share, IsTie}
use Rattle.hyd_period_network.proofs.NetItemsInGrid.{row_at}
use Rattle.hyd_period_network.proofs.SumsOverLinkEnds.{sum_over_ties, count_of_ties}
use Rattle.hyd_period_network.proofs.LinkEndLemmas.{few, are_ties}
use Rattle.hyd_period_network.proofs.net.Net.row.Goals as goal

row_is : (c : goal.After-as_slice) → c.as_slice.result.now ≡ ties_from c.args.node 0 c.self.inside.ends.items
row_is c =
    let count = ap node_count c.self.view_is in
    c.as_slice.ensures ∙ row_at _ _ _ c.args.node c.index.result.now c.self.invariant.1.0
    (omega (arith, count, c.requires)) c.index.ensures

pub returns-clause-ties : goal.returns-clause-ties
returns-clause-ties c =
    subst (λ (n : NetView). All (IsTie (node_count n) (length n.ends)) c.as_slice.result.now) c.self.view_is
    (rw (row_is c) (are_ties _ _ _ _ _ (omega arith) c.self.invariant.0.ends))

pub returns-clause-few : goal.returns-clause-few
returns-clause-few c =
    let n = few c.args.node 0 c.self.inside.ends.items in
    let l = c.self.invariant.0.few_links in
    rw (row_is c) (omega (arith, n, l))

pub returns-clause-sum : goal.returns-clause-sum
returns-clause-sum c out into heads =
    let sound = subst IsSoundNet c.self.view_is c.self.invariant.0 in
    ap (ties_share out into (grid_of c.args.self.now).links heads (head_at heads c.args.node))
    (row_is c ∙ ap (λ (n : NetView). ties_from c.args.node 0 n.ends) c.self.view_is)
    ∙ sum_over_ties out into heads c.args.node c.args.self.now sound.each_setting sound.each_own

pub returns-clause-count : goal.returns-clause-count
returns-clause-count c =
    let sound = subst IsSoundNet c.self.view_is c.self.invariant.0 in
    ap length (row_is c ∙ ap (λ (n : NetView). ties_from c.args.node 0 n.ends) c.self.view_is)
    ∙ count_of_ties c.args.node 0 c.args.self.now.ends c.args.self.now.settings c.args.self.now.own sound.each_setting
    sound.each_own
