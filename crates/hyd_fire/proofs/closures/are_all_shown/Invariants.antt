use Rattle.std.proofs.Common.{◌≡◌, ◌<◌, ℕ}
use Rattle.std.specs.Prelude.{Some, slice_get}
use Rattle.hyd_spec_certificates.specs.declared.LevelSpan.{LevelSpan}
use Rattle.hyd_fire.specs.SidesOfClosures.{IsShownBy}
use Rattle.hyd_fire.proofs.closures.are_all_shown.Given as goal

abbrev pub invariant-loop-junction : goal.invariant-loop-junction
invariant-loop-junction l = record {
  shown : (j : ℕ) (target : LevelSpan) → j < l.junction → slice_get l.targets j ≡ Some target
      → IsShownBy (record { upper = l.upper; lower = l.lower }) l.sides j target;
}
