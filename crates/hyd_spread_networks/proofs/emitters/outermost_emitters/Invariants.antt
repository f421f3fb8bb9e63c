use Rattle.std.proofs.Common.{◌≡◌, ℕ, ◌<◌, length, Option, IfSome, slice_index_or}
use Rattle.hyd_spec.specs.ProgramTypes.{Capacity}
use Rattle.hyd_theorems_on_definitions.specs.SoundLawsAndGrids.{IsSoundCapacity}
use Rattle.hyd_spread_rows.specs.SpreadsRead.{spread_of}
use Rattle.hyd_spread_networks.proofs.EmitterLemmas.{AreOutermostTo}
use Rattle.hyd_spread_networks.proofs.emitters.outermost_emitters.Given as goal

abbrev pub invariant-loop-junction : goal.invariant-loop-junction
invariant-loop-junction l = record {
  count : length l.emitters.items ≡ l.junction;
  outermost : AreOutermostTo l.project (spread_of l.rows) l.junction l.emitters.items;
  sound : (k : ℕ) (e : Option Capacity) → k < l.junction → IfSome (slice_index_or l.emitters.items k e) IsSoundCapacity;
}
