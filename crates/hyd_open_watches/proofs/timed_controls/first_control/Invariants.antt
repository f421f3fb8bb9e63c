use Rattle.std.proofs.Common.{take}
use Rattle.hyd_period_length.specs.Instants.{IsFirstAmong}
use Rattle.hyd_open_watches.proofs.timed_controls.first_control.Given as goal

abbrev pub invariant-loop-control : goal.invariant-loop-control
invariant-loop-control l = IsFirstAmong l.project l.time l.cap (take l.control-index l.control-items) l.first
