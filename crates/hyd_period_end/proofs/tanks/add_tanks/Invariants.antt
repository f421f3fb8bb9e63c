use Rattle.std.proofs.Common.{◌≡◌, ◌≤◌, ◌+◌, ◌++◌, length, take}
use Rattle.std.specs.Prelude.{map}
use Rattle.hyd_spec_certificates.specs.SpansAsIntervals.{levels_of}
use Rattle.hyd_spec_certificates.specs.EndsOfPeriods.{tank_events}
use Rattle.hyd_period_end.proofs.tanks.add_tanks.Given as goal

abbrev pub invariant-loop-tank : goal.invariant-loop-tank
invariant-loop-tank l = record {
  events : l.events.list ≡ l.fn.events.list ++ tank_events 0 (take l.tank l.project.tanks.list)
      (take l.tank l.states) (take l.tank (map levels_of l.carried));
  spare : l.fn.events.spare ≤ l.events.spare + l.tank;
  room : length l.fn.events.list + l.fn.events.spare ≤ length l.events.list + l.events.spare;
}
