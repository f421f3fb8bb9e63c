use Rattle.std.proofs.Common.{◌+◌, ◌<◌, ◌++◌, true, false, List, Option, length, map, take, sym, subst, refl, arith}
use Rattle.hyd_spec.specs.Rules.{offer_of}
use Rattle.hyd_controls_and_rules.specs.declared.actions_by_priority.Offer as program
use Rattle.hyd_controls_and_rules.specs.ActionsByPriority.{AreBest}
use Rattle.hyd_controls_and_rules.proofs.BestOffers.{higher_taken, lower_left, stands, link_is}
use Rattle.hyd_controls_and_rules.proofs.actions_by_priority.take_offers.Goals as goal
use Rattle.hyd_controls_and_rules.proofs.actions_by_priority.take_offers.Goals.{then-is_higher, else-is_higher}

pub loop-action-preserved : goal.loop-action-preserved
loop-action-preserved c = λ count before are.
    let actions = c.actions_of-actions.result.now in
    let action = c.action-item.result in
    let best = c.loop-action.best in
    let i = c.loop-action.action-index in
    let rule = c.args.rule.now in
    let so_far = c.loop-action.invariant count before are in
    let there : action.link < length best =
    link_is (length best) (length c.args.best.now) actions _ i action c.requires.links
    c.actions_of-actions.ensures c.loop-action-test.true c.action-item.is (omega arith) in
    elim c.if-is_higher.branch [
      | then-is_higher w ↦
          let new : program.Offer = record {
            rule =
                c.args.number;
            priority = rule.priority;
            link = action.link;
            to = action.to;
          } in
          subst (λ (table : List (Option program.Offer)). AreBest count (before ++ map (offer_of
          c.args.number rule) (take (i + 1) actions)) table) (sym w.best-is)
          (higher_taken count before c.args.number rule actions i action best new c.loop-action-test.true
          c.action-item.is so_far refl there
          (stands best action.link c.index-best-link.result true rule.priority c.is_higher.result there
          c.index-best-link.is c.is_higher.ensures w.if-is_higher.true))
      | else-is_higher w ↦
          subst (λ (table : List (Option program.Offer)). AreBest count (before ++ map (offer_of
          c.args.number rule) (take (i + 1) actions)) table) (sym w.best-is)
          (lower_left count before c.args.number rule actions i action best c.loop-action-test.true
          c.action-item.is so_far
          (stands best action.link c.index-best-link.result false rule.priority c.is_higher.result there
          c.index-best-link.is c.is_higher.ensures w.if-is_higher.false))
    ]
