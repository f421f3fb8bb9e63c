use Rattle.std.proofs.Common.{ℕ, List, ◌++◌, map, take}
use Rattle.hyd_spec.specs.Rules.{Offer, offer_of}
use Rattle.hyd_controls_and_rules.specs.ActionsByPriority.{AreBest}
use Rattle.hyd_controls_and_rules.proofs.actions_by_priority.take_offers.Given as goal

abbrev pub invariant-loop-action : goal.invariant-loop-action
invariant-loop-action l = (count : ℕ) (before : List Offer) → AreBest count before l.initial.best
    → AreBest count (before ++ map (offer_of l.number l.rule) (take l.action-index l.actions)) l.best
