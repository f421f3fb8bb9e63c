use Rattle.std.proofs.Common.{length, take}
use Rattle.hyd_spec.specs.Rules.{offers_from}
use Rattle.hyd_controls_and_rules.specs.ActionsByPriority.{AreBest}
use Rattle.hyd_controls_and_rules.proofs.actions_by_priority.rank_offers.Given as goal

abbrev pub invariant-loop-number : goal.invariant-loop-number
invariant-loop-number l =
    AreBest (length l.project.links.list) (offers_from 0 (take l.number l.rules) (take l.number l.values)) l.best
