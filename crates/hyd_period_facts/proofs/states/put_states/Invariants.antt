use Rattle.std.proofs.Common.{◌≡◌, ℕ, ◌+◌, ◌<◌, ◌≤◌, Bool, false, length, take}
use Rattle.std.specs.Prelude.{Option, Some, map, slice_index_or}
use Rattle.hyd_spec.specs.declared.TankState.{TankState}
use Rattle.hyd_spec_certificates.specs.SpansAsIntervals.{levels_of}
use Rattle.hyd_spec_certificates.specs.Stops.{open_states}
use Rattle.hyd_period_facts.proofs.DecidedTankStates.{states_at}
use Rattle.hyd_period_facts.proofs.states.put_states.Given as goal

abbrev pub invariant-loop-tank : goal.invariant-loop-tank
invariant-loop-tank l = record {
  count : length l.states.list ≡ l.tank;
  states : map {B = Option TankState} Some l.states.list ≡ take l.tank (states_at l.project (map levels_of l.levels));
  known : (k : ℕ) (d : Bool) → k < l.tank → slice_index_or (open_states l.project (map levels_of l.levels)) k d ≡ false;
  room : length l.fn.states.list + l.fn.states.spare ≤ length l.states.list + l.states.spare;
}
