use Rattle.std.proofs.Common.{◌≡◌, ◌+◌, ◌≤◌, length, take}
use Rattle.std.specs.Prelude.{map}
use Rattle.std.specs.Option.{option_map}
use Rattle.hyd_spec_certificates.specs.SpansAsIntervals.{levels_of}
use Rattle.hyd_open_watches.specs.Candidates.{watch_for}
use Rattle.hyd_open_period_end.proofs.CarriedLeftByFacts.{all_left_in}
use Rattle.hyd_open_period_end.proofs.carried_at_end.put_carried_at_end.Given as goal

abbrev pub invariant-loop-tank : goal.invariant-loop-tank
invariant-loop-tank l = record {
  count : length l.levels.list ≡ l.tank;
  levels : map levels_of l.levels.list ≡ take l.tank (all_left_in l.project l.facts l.lengths.shortest
      l.lengths.longest (option_map watch_for l.reached));
  room : length l.fn.levels.list + l.fn.levels.spare ≤ length l.levels.list + l.levels.spare;
}
