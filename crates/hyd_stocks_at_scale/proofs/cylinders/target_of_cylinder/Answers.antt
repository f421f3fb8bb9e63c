use Rattle.std.proofs.Common.{◌≡◌, ◌*◌, ℤ, pos, ap, ◌∙◌, to_z, of_z, w64, unsigned_abs}
use Rattle.std.specs.Int.{w128}
use Rattle.std.proofs.lemmas.Int.{to_z-of_z}
use Rattle.hyd_spec.specs.Scale.{at_scale}
use Rattle.hyd_laws_at_scale.specs.Scales.{parts_of}
use Rattle.hyd_stocks_at_scale.proofs.TargetsMet.{cylinder_stands}
use Rattle.hyd_stocks_at_scale.proofs.cylinders.target_of_cylinder.Goals as goal

pub returns-clause-stands : goal.returns-clause-stands
returns-clause-stands c =
    let b : to_z w128 (of_z w128 c.breadth_of_cylinder.result) ≡ pos (27 * unsigned_abs c.args.tank.now.area) =
    to_z-of_z w128 c.breadth_of_cylinder.result (record { sfits = c.breadth_of_cylinder.type_inv })
    ∙ c.breadth_of_cylinder.ensures.value in
    let level = to_z-of_z w64 c.args.level c.ranges.level in
    let p : to_z w128 (of_z w128 c.in_parts.result) ≡ at_scale (parts_of c.args.scale) c.args.level =
    to_z-of_z w128 c.in_parts.result (record { sfits = c.in_parts.type_inv })
    ∙ (c.in_parts.ensures.value ∙ ap (λ (y : ℤ). at_scale (parts_of c.args.scale) y) level) in
    let z = to_z-of_z w128 c.in_shares.result (record { sfits = c.in_shares.type_inv }) in
    cylinder_stands (parts_of c.args.scale) (unsigned_abs c.args.tank.now.area) c.args.tank.now c.args.level
    (to_z w128 (of_z w128 c.in_shares.result)) (z ∙ (rw (b, p) at c.in_shares.ensures.value))
