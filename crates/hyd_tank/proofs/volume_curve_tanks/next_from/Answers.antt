use Rattle.std.proofs.Common.{◌≡◌, pos, ℤ, ap, ◌∙◌, arith, rules, to_z, of_z, w64, SFits}
use Rattle.std.specs.Int.{w128}
use Rattle.std.proofs.lemmas.Int.{ints, to_z-of_z}
use Rattle.hyd_spec.specs.Scale.{missed_stock_ticks}
use Rattle.hyd_spec.specs.Tank.{Curve}
use Rattle.hyd_spec_certificates.specs.Stocks.{lower_end, upper_end, lower_level, upper_level}
use Rattle.hyd_tank.specs.Contents.{bounds_of, in_ticks}
use Rattle.hyd_tank.proofs.LevelAndVolumeEnds.{volume_lower, volume_upper, stocks_are}
use Rattle.hyd_tank.proofs.volume_curve_tanks.next_from.Goals as goal

pub returns : goal.returns
returns c =
    let tank = c.args.tank.now in
    let points = c.args.points.now in
    let s = c.args.seconds in
    let volumes = c.volume_bounds-volumes.result in
    let are = c.volume_bounds-volumes.ensures in
    let bounds = bounds_of volumes in
    let parts = c.parts_after-least in
    let h = parts.result.0 in
    let k = parts.result.1 in
    let h-fits : SFits w128 h = search rules in
    let k-fits : SFits w128 k = search rules in
    let h-is = to_z-of_z w128 h h-fits in
    let k-is = to_z-of_z w128 k k-fits in
    let b : to_z w128 (of_z w128 c.from-breadth.result) ≡ pos 864 = omega (arith, ints) in
    let low = volume_lower tank points volumes are c.args.stock.volume.lo c.args.inflow.lo h s parts.ensures.least
    (pos missed_stock_ticks) c.lower_content-lo.result
    (c.lower_content-lo.ensures
    ∙ ap (λ (z : ℤ). lower_end bounds bounds (in_ticks z (to_z w128 (of_z w128 h)))
    (in_ticks z (to_z w128 (of_z w128 h))) (pos missed_stock_ticks)) b
    ∙ ap (λ (z : ℤ). lower_end bounds bounds (in_ticks (pos 864) z) (in_ticks (pos 864) z) (pos missed_stock_ticks))
    h-is) in
    let high = volume_upper tank points volumes are c.args.stock.volume.hi c.args.inflow.hi k s parts.ensures.greatest
    (pos missed_stock_ticks) c.upper_content-hi.result
    (c.upper_content-hi.ensures
    ∙ ap (λ (z : ℤ). upper_end bounds bounds (in_ticks z (to_z w128 (of_z w128 k)))
    (in_ticks z (to_z w128 (of_z w128 k))) (pos missed_stock_ticks)) b
    ∙ ap (λ (z : ℤ). upper_end bounds bounds (in_ticks (pos 864) z) (in_ticks (pos 864) z) (pos missed_stock_ticks))
    k-is) in
    let low-is = to_z-of_z w64 c.lower_content-lo.result (record { sfits = c.lower_content-lo.type_inv }) in
    let high-is = to_z-of_z w64 c.upper_content-hi.result (record { sfits = c.upper_content-hi.type_inv }) in
    let least-is = to_z-of_z w64 c.lower_level.result (record { sfits = c.lower_level.type_inv }) in
    let most-is = to_z-of_z w64 c.upper_level.result (record { sfits = c.upper_level.type_inv }) in
    let lo : to_z w128 (of_z w128 c.from.result) ≡ c.lower_content-lo.result = omega (arith, ints, low-is) in
    let hi : to_z w128 (of_z w128 c.from-2.result) ≡ c.upper_content-hi.result = omega (arith, ints, high-is) in
    stocks_are _ _ _ _ _ _ _ _
    (least-is ∙ c.lower_level.ensures ∙ ap (λ (z : ℤ). lower_level (Curve points) tank (record {
      num = z;
      den = 1;
    }) (pos missed_stock_ticks)) (lo ∙ low))
    (most-is ∙ c.upper_level.ensures ∙ ap (λ (z : ℤ). upper_level (Curve points) tank (record {
      num = z;
      den = 1;
    }) (pos missed_stock_ticks)) (hi ∙ high))
    (low-is ∙ low) (high-is ∙ high)
