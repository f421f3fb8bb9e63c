use Rattle.std.proofs.Common.{pos, ◌-ℤ◌, refl, Bool, sym, subst, unsigned_abs, arith, SFits, to_z, of_z, w64}
use Rattle.std.specs.Int.{w128}
use Rattle.std.proofs.lemmas.Int.{ints, fits_signed_from_abs}
use Rattle.hyd_spec.specs.Tank.{has_reached}
use Rattle.hyd_spec_certificates.specs.FirstSeconds.{IsFirstSecond}
use Rattle.hyd_tank.specs.StockIntervals.{cylinder, level_stock}
use Rattle.hyd_tank.proofs.CylinderFirstSeconds.{rises_first, falls_first, need_is, speed_is}
use Rattle.hyd_tank.proofs.cylinders.first_from.Goals as goal

pub returns-then-rising : goal.returns-then-rising
returns-then-rising c =
    let tank = c.args.tank.now in
    let b = c.breadth_of-breadth.result in
    let range = c.breadth_of-breadth.ensures.range in
    let fb : SFits w128 b = fits_signed_from_abs w128 b (omega (arith, ints, range.at_least, range.at_most)) in
    let parts = c.in_parts.result in
    subst (λ (r : Bool). IsFirstSecond (has_reached 1 (cylinder tank) tank (level_stock c.args.level) c.args.inflow r
    c.args.target) c.args.cap c.first_meeting.result) (sym c.if-rising.true)
    (rises_first (unsigned_abs tank.area) tank c.args.level c.args.inflow c.args.target b
    (to_z w128 (of_z w128 parts)) (to_z w128 (of_z w128 c.saturating_mul.result)) c.args.cap c.first_meeting.result
    c.breadth_of-breadth.ensures.value
    (need_is parts b (to_z w64 (of_z w64 (to_z w64 (of_z w64 c.args.target) -ℤ to_z w64 (of_z w64 c.args.level))))
    (c.args.target -ℤ c.args.level)
    (record { sfits = c.in_parts.type_inv }) fb c.in_parts.ensures.value (omega (arith, ints)))
    (record {
      at_least = omega (arith, ints, c.in_parts.ensures.small);
      at_most = omega (arith, ints, c.in_parts.ensures.small);
    })
    (speed_is c.saturating_mul.result (to_z w128 (of_z w128 c.args.inflow)) c.args.inflow (record {
      sfits = c.saturating_mul.type_inv;
    }) c.saturating_mul.ensures (omega (arith, ints)))
    c.first_meeting.ensures)

pub returns-else-rising : goal.returns-else-rising
returns-else-rising c =
    let tank = c.args.tank.now in
    let b = c.breadth_of-breadth.result in
    let range = c.breadth_of-breadth.ensures.range in
    let fb : SFits w128 b = fits_signed_from_abs w128 b (omega (arith, ints, range.at_least, range.at_most)) in
    let parts = c.in_parts-else-rising.result in
    let rate = c.saturating_mul-else-rising in
    let back = to_z w128 (of_z w128 (pos 0 -ℤ to_z w128 (of_z w128 c.args.inflow))) in
    subst (λ (r : Bool). IsFirstSecond (has_reached 1 (cylinder tank) tank (level_stock c.args.level) c.args.inflow r
    c.args.target) c.args.cap c.first_meeting-else-rising.result) (sym c.if-rising.false)
    (falls_first (unsigned_abs tank.area) tank c.args.level c.args.inflow back c.args.target b
    (to_z w128 (of_z w128 parts)) (to_z w128 (of_z w128 rate.result)) c.args.cap c.first_meeting-else-rising.result
    c.breadth_of-breadth.ensures.value
    (need_is parts b (to_z w64 (of_z w64 (to_z w64 (of_z w64 c.args.level) -ℤ to_z w64 (of_z w64 c.args.target))))
    (c.args.level -ℤ c.args.target)
    (record { sfits = c.in_parts-else-rising.type_inv }) fb c.in_parts-else-rising.ensures.value (omega (arith, ints)))
    (record {
      at_least = omega (arith, ints, c.in_parts-else-rising.ensures.small);
      at_most = omega (arith, ints, c.in_parts-else-rising.ensures.small);
    })
    (omega (arith, ints))
    (speed_is rate.result back back (record { sfits = rate.type_inv }) rate.ensures refl)
    c.first_meeting-else-rising.ensures)
