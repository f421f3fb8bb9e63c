use Rattle.std.proofs.Common.{◌≡◌, ℕ, ◌<◌, length, slice_index_or}
use Rattle.hyd_spec.specs.ProgramTypes.{Tank}
use Rattle.hyd_spec_certificates.specs.declared.LevelSpan.{LevelSpan}
use Rattle.hyd_period_network.specs.SoundNets.{AreHeads}
use Rattle.hyd_period_network.specs.NetsSetToPeriods.{HasHeads}
use Rattle.hyd_period_network.proofs.fixed_heads.set_tanks.Given as goal

abbrev pub invariant-loop-i : goal.invariant-loop-i
invariant-loop-i l = record {
  count : length l.heads ≡ length l.project.tanks.list;
  set : (k : ℕ) (s : LevelSpan) → k < l.i → (tank : Tank) (levels : LevelSpan)
      → HasHeads (slice_index_or l.tanks k tank) (slice_index_or l.levels k levels) (slice_index_or l.heads k s);
  range : (k : ℕ) (s : LevelSpan) → k < l.i → AreHeads (slice_index_or l.heads k s);
}
