use Rattle.std.proofs.Common.{◌≡◌, ◌<◌, ℕ, pos, get_or}
use Rattle.std.specs.Prelude.{Some, slice_get}
use Rattle.hyd_spec.specs.ProgramTypes.{Tank}
use Rattle.hyd_spec.specs.declared.TankState.{TankState}
use Rattle.hyd_spec.specs.Tank.{tank_state}
use Rattle.hyd_laws_at_scale.specs.Scales.{parts_of}
use Rattle.hyd_course.proofs.setting.put_tanks.Given as goal

-- the tanks so far have the states of their levels
abbrev pub invariant-loop-tank : goal.invariant-loop-tank
invariant-loop-tank l = (k : ℕ) → k < l.tank → (each : Tank) (state : TankState)
    → slice_get l.project.tanks.list k ≡ Some each
    → get_or l.tanks k state ≡ tank_state (parts_of l.scale) each (get_or l.levels k (pos 0))
