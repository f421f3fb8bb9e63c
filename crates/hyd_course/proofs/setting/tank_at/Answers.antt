use Rattle.std.proofs.Common.{◌∙◌, ℤ, ap, to_z, of_z}
use Rattle.std.specs.Int.{w128}
use Rattle.std.proofs.lemmas.Int.{to_z-of_z}
use Rattle.hyd_spec.specs.ProgramTypes.{Tank}
use Rattle.hyd_spec.specs.Tank.{tank_state}
use Rattle.hyd_laws_at_scale.specs.Scales.{parts_of}
use Rattle.hyd_lemmas.proofs.ListsOptionsAndResults.{each_is}
use Rattle.hyd_course.proofs.setting.tank_at.Goals as goal

pub returns : goal.returns
returns c = λ each at.
    let S = parts_of c.args.scale in
    let same = each_is c.args.project.now.tanks.list c.as_slice-tanks.result.now c.args.tank c.index-tanks-tank.result
    each c.index-tanks-tank.is c.as_slice-tanks.ensures at in
    let level = to_z-of_z w128 c.number_at.result (record { sfits = c.number_at.type_inv }) ∙ c.number_at.ensures in
    c.state_at.ensures
    ∙ (ap (λ (t : Tank). tank_state S t (to_z w128 (of_z w128 c.number_at.result))) same
    ∙ ap (λ (z : ℤ). tank_state S each z) level)
