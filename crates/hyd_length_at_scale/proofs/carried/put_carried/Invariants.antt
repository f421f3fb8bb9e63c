use Rattle.std.proofs.Common.{◌≡◌, ℕ, ◌<◌, get_or}
use Rattle.std.specs.Prelude.{Some, slice_get}
use Rattle.hyd_spec.specs.ProgramTypes.{Tank}
use Rattle.hyd_spec.specs.PeriodLength.{carried_after}
use Rattle.hyd_laws_at_scale.specs.Scales.{parts_of}
use Rattle.hyd_stocks_at_scale.specs.declared.carried_levels.ExactLevel.{ExactLevel}
use Rattle.hyd_rules_at_scale.specs.Instants.{IsSmallLevel}
use Rattle.hyd_rules_at_scale.specs.Quantities.{IsExactly}
use Rattle.hyd_length_at_scale.specs.MetPeriods.{told}
use Rattle.hyd_length_at_scale.proofs.carried.put_carried.Given as goal

abbrev pub invariant-loop-tank : goal.invariant-loop-tank
invariant-loop-tank l = record {
  exact : (k : ℕ) (d : ExactLevel) (each : Tank) → k < l.tank
      → slice_get l.period.project.now.tanks.list k ≡ Some each
      → IsExactly (get_or l.levels k d)
      (carried_after l.period.project.now (parts_of l.period.scale) (told l.period) k each l.seconds);
  small : (k : ℕ) (d : ExactLevel) → k < l.tank → IsSmallLevel (get_or l.levels k d);
}
