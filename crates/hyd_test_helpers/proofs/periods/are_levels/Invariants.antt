use Rattle.std.proofs.Common.{◌<◌, ℕ, slice_index_or}
use Rattle.hyd_spec.specs.ProgramTypes.{Tank}
use Rattle.hyd_spec_certificates.specs.declared.LevelSpan.{LevelSpan}
use Rattle.hyd_period_network.specs.NetsSetToPeriods.{IsSpanOf}
use Rattle.hyd_test_helpers.proofs.periods.are_levels.Given as goal

abbrev pub invariant-loop-k : goal.invariant-loop-k
invariant-loop-k l = (n : ℕ) (tank : Tank) (span : LevelSpan) → n < l.k
    → IsSpanOf (slice_index_or l.tanks n tank) (slice_index_or l.levels n span)
