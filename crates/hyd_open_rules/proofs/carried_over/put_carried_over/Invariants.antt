use Rattle.std.proofs.Common.{◌≡◌, ◌+◌, ◌≤◌, length, take}
use Rattle.std.specs.Prelude.{map}
use Rattle.hyd_spec_certificates.specs.SpansAsIntervals.{levels_of}
use Rattle.hyd_open_rules.proofs.CarriedOverByFacts.{all_carried}
use Rattle.hyd_open_rules.proofs.carried_over.put_carried_over.Given as goal

abbrev pub invariant-loop-tank : goal.invariant-loop-tank
invariant-loop-tank l = record {
  count : length l.levels.list ≡ l.tank;
  levels : map levels_of l.levels.list
      ≡ take l.tank (all_carried l.project l.facts l.lengths.shortest l.lengths.longest);
  room : length l.fn.levels.list + l.fn.levels.spare ≤ length l.levels.list + l.levels.spare;
}
