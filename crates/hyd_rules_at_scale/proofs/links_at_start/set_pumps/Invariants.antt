use Rattle.std.proofs.Common.{◌≡◌, ◌++◌, length, take, drop}
use Rattle.hyd_spec.specs.PumpPatternsAndSimpleControls.{after_patterns}
use Rattle.hyd_rules_at_scale.proofs.links_at_start.set_pumps.Given as goal

abbrev pub invariant-loop-number : goal.invariant-loop-number
invariant-loop-number l = record {
  count : length l.links ≡ length l.all;
  states : take l.number l.links ++ after_patterns l.project l.time (drop l.number l.all) (drop l.number l.links)
      ≡ after_patterns l.project l.time l.all l.initial.links;
}
