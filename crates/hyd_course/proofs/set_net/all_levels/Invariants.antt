use Rattle.std.proofs.Common.{◌≡◌, ◌<◌, ℕ, length}
use Rattle.std.specs.Prelude.{slice_index_or}
use Rattle.hyd_spec.specs.ProgramTypes.{Tank}
use Rattle.hyd_spec_certificates.specs.declared.LevelSpan.{LevelSpan}
use Rattle.hyd_period_network.specs.NetsSetToPeriods.{IsSpanOf}
use Rattle.hyd_course.proofs.set_net.all_levels.Given as goal

-- the tanks so far have their levels
abbrev pub invariant-loop-tank : goal.invariant-loop-tank
invariant-loop-tank l = record {
  each : length l.levels.items ≡ l.tank-index;
  spans : (k : ℕ) (tank : Tank) (span : LevelSpan) → k < l.tank-index
      → IsSpanOf (slice_index_or l.tanks k tank) (slice_index_or l.levels.items k span);
}
