use Rattle.std.proofs.Common.{◌≡◌, ◌∙◌, ◌<◌, ℕ, List, pos, length, arith}
use Rattle.std.proofs.Common.{below_more, get_or, get_or-set_other, get_or-set_same}
use Rattle.std.specs.Prelude.{Some, slice_get, slice_set}
use Rattle.hyd_spec.specs.ProgramTypes.{Tank}
use Rattle.hyd_spec.specs.declared.TankState.{TankState}
use Rattle.hyd_spec.specs.Tank.{tank_state}
use Rattle.hyd_laws_at_scale.specs.Scales.{parts_of}
use Rattle.hyd_course.proofs.ListsOfStates.{tanks_are}
use Rattle.hyd_course.proofs.setting.put_tanks.Goals as goal

pub loop-tank-preserved : goal.loop-tank-preserved
loop-tank-preserved c =
    let S = parts_of c.args.scale in
    let levels = c.args.levels.now in
    let i : ℕ = c.loop-tank.tank in
    let tanks : List TankState = c.loop-tank.tanks in
    let state : TankState = c.tank_at.result in
    let there : i < length tanks = omega arith in
    below_more (λ k. (each : Tank) (d : TankState) → slice_get c.args.project.now.tanks.list k ≡ Some each
    → get_or (slice_set tanks i state) k d ≡ tank_state S each (get_or levels k (pos 0))) i
    (λ k h each d at. get_or-set_other tanks i k state d (omega (arith, h)) ∙ c.loop-tank.invariant k h each d at)
    (λ each d at. get_or-set_same tanks i state d there ∙ c.tank_at.ensures each at)

pub returns : goal.returns
returns c =
    let over = c.loop-tank-test.false in
    tanks_are (parts_of c.args.scale) c.args.project.now.tanks.list c.args.levels.now c.loop-tank.tanks
    c.requires.each_level (omega arith)
    (λ k each state lt at. c.loop-tank.invariant k (omega (arith, lt, over)) each state at)
