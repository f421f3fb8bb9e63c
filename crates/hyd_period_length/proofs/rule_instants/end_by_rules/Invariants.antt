use Rattle.std.proofs.Common.{◌≡◌, ◌+◌, ◌-◌, ◌%◌, ◌<◌, ◌≤◌, length}
use Rattle.hyd_theorems_on_nesting.specs.FirstAmongWatched.{IsWalked}
use Rattle.hyd_period_length.specs.Endings.{ForPeriod}
use Rattle.hyd_period_length.proofs.rule_instants.end_by_rules.Given as goal

abbrev pub invariant-loop-seconds : goal.invariant-loop-seconds
invariant-loop-seconds l = record {
  later : 0 < l.seconds;
  multiple : (l.fn.facts.time + l.seconds) % l.project.times.rule ≡ 0;
  walked : ForPeriod l.project l.fn.facts l.low l.high l.flows
      (λ grid standing row. IsWalked l.project grid standing row l.seconds);
  facts : l.facts ≡ l.fn.facts;
  links : l.links ≡ l.fn.links;
  levels : length l.fn.levels.list + l.fn.levels.spare ≤ length l.levels.list + l.levels.spare;
}

abbrev pub decreases-loop-seconds : goal.decreases-loop-seconds
decreases-loop-seconds l = l.last + 1 - l.seconds
