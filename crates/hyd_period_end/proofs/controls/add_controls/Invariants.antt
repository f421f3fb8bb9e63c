use Rattle.std.proofs.Common.{◌≡◌, ◌≤◌, ◌+◌, ◌++◌, length, take}
use Rattle.std.specs.Prelude.{map}
use Rattle.hyd_spec.specs.Lists.{map_from, present}
use Rattle.hyd_spec_certificates.specs.SpansAsIntervals.{levels_of}
use Rattle.hyd_spec_certificates.specs.EndsOfPeriods.{control_event}
use Rattle.hyd_period_end.proofs.controls.add_controls.Given as goal

abbrev pub invariant-loop-number : goal.invariant-loop-number
invariant-loop-number l = record {
  events : l.events.list ≡ l.fn.events.list ++ present (map_from
      (control_event (map levels_of l.before) (map levels_of l.carried)) 0 (take l.number l.project.controls.list));
  spare : l.fn.events.spare ≤ l.events.spare + l.number;
  room : length l.fn.events.list + l.fn.events.spare ≤ length l.events.list + l.events.spare;
}
