use Rattle.std.proofs.Common.{◌≡◌, ◌+◌, ◌-◌, ◌%◌, ◌<◌, ◌≤◌, length}
use Rattle.hyd_open_rules.proofs.InstantsWalked.{AreWalked}
use Rattle.hyd_open_rules.proofs.rule_instants.first_matter.Given as goal

abbrev pub invariant-loop-seconds : goal.invariant-loop-seconds
invariant-loop-seconds l = record {
  later : 0 < l.seconds;
  multiple : (l.fn.facts.time + l.seconds) % l.project.times.rule ≡ 0;
  walked : AreWalked l.project l.fn.facts l.late l.readings l.seconds;
  facts : l.facts ≡ l.fn.facts;
  links : l.links ≡ l.fn.links;
  levels : length l.fn.levels.list + l.fn.levels.spare ≤ length l.levels.list + l.levels.spare;
}

abbrev pub decreases-loop-seconds : goal.decreases-loop-seconds
decreases-loop-seconds l = l.last + 1 - l.seconds
