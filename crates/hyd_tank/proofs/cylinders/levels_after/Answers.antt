use Rattle.std.proofs.Common.{◌∙◌, unsigned_abs, arith, rules, w64, SFits}
use Rattle.std.specs.Int.{w128}
use Rattle.std.proofs.lemmas.Int.{ints, to_z-of_z, fits_signed_from_abs}
use Rattle.hyd_spec.specs.Tank.{level_bounds}
use Rattle.hyd_tank.specs.Contents.{bounds_of}
use Rattle.hyd_tank.proofs.LevelAndVolumeEnds.{interval_is, held_plain, lower_plain, upper_plain, cylinder_lower}
use Rattle.hyd_tank.proofs.LevelAndVolumeEnds.{cylinder_upper}
use Rattle.hyd_tank.proofs.cylinders.levels_after.Goals as goal

pub returns : goal.returns
returns c =
    let motion = c.motion_of-motion in
    let bounds = c.level_bounds-bounds in
    let b = motion.result.breadth in
    let d = motion.result.drive in
    let area = unsigned_abs c.args.tank.now.area in
    let range = bounds.ensures.range in
    let broad = motion.ensures.range.breadth in
    let fb : SFits w128 b = fits_signed_from_abs w128 b (omega (arith, ints, broad.at_least, broad.at_most)) in
    let lo : SFits w64 c.args.level.lo = search rules in
    let hi : SFits w64 c.args.level.hi = search rules in
    let low : SFits w128 c.args.inflow.lo = search rules in
    let high : SFits w128 c.args.inflow.hi = search rules in
    let some = broad.at_least in
    interval_is _ _ _ _
    (to_z-of_z w64 c.lower_content.result (record { sfits = c.lower_content.type_inv })
    ∙ cylinder_lower area c.args.seconds b d c.args.level.lo c.args.inflow.lo c.args.widening
    c.held_after-least.result c.lower_content.result bounds.result (level_bounds c.args.tank.now)
    motion.ensures.breadth motion.ensures.drive bounds.ensures.value some range.apart
    (held_plain b d c.args.level.lo c.args.inflow.lo c.held_after-least.result bounds.result lo low
    c.held_after-least.ensures)
    (lower_plain b c.held_after-least.result c.args.widening c.lower_content.result (bounds_of bounds.result) fb
    (record { sfits = c.held_after-least.type_inv }) c.ranges.widening
    c.lower_content.ensures))
    (to_z-of_z w64 c.upper_content.result (record { sfits = c.upper_content.type_inv })
    ∙ cylinder_upper area c.args.seconds b d c.args.level.hi c.args.inflow.hi c.args.widening
    c.held_after-greatest.result c.upper_content.result bounds.result (level_bounds c.args.tank.now)
    motion.ensures.breadth motion.ensures.drive bounds.ensures.value some range.apart
    (held_plain b d c.args.level.hi c.args.inflow.hi c.held_after-greatest.result bounds.result hi high
    c.held_after-greatest.ensures)
    (upper_plain b c.held_after-greatest.result c.args.widening c.upper_content.result (bounds_of bounds.result) fb
    (record { sfits = c.held_after-greatest.type_inv }) c.ranges.widening
    c.upper_content.ensures))
