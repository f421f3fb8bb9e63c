use Rattle.std.proofs.Common.{◌≡◌, ◌∙◌, ℤ, pos, ◌*ℤ◌, ap, to_z, of_z, w64, arith}
use Rattle.std.specs.Int.{w128, int_max, int_min}
use Rattle.std.proofs.lemmas.Int.{ints, to_z-of_z}
use Rattle.hyd_num.specs.Rational.{floor}
use Rattle.hyd_spec.specs.Tank.{Curve, exact_content}
use Rattle.hyd_stocks_at_scale.specs.Motions.{stock_of}
use Rattle.hyd_stocks_below.proofs.KeptVolumes.{held_volume}
use Rattle.hyd_stocks_below.proofs.volumes.volume_below.Goals as goal

pub returns-clause-value : goal.returns-clause-value
returns-clause-value c = λ points tank l m order.
    let lo = c.args.volumes.lo in
    let hi = c.args.volumes.hi in
    let shares = c.shares_after-shares.result in
    let volume = c.whole_volume-volume.result in
    let least = c.in_halves-least.result in
    let most = c.in_halves-most.result in
    let low : to_z w64 (of_z w64 lo) ≡ lo = omega (arith, ints, c.requires.least) in
    let high : to_z w64 (of_z w64 hi) ≡ hi = omega (arith, ints, c.requires.most) in
    let twice-low : least ≡ pos 2 *ℤ lo = c.in_halves-least.ensures.value ∙ ap (λ (z : ℤ). pos 2 *ℤ z) low in
    let twice-high : most ≡ pos 2 *ℤ hi = c.in_halves-most.ensures.value ∙ ap (λ (z : ℤ). pos 2 *ℤ z) high in
    let kept-shares = to_z-of_z w128 shares (record { sfits = c.shares_after-shares.type_inv }) in
    let kept-flow = to_z-of_z w128 c.args.inflow c.ranges.inflow in
    let exact : shares ≡ (exact_content (Curve points) (stock_of c.args.stock) c.args.inflow c.args.seconds).num =
    rw kept-flow at c.shares_after-shares.ensures.value in
    let whole : volume ≡ floor (exact_content (Curve points) (stock_of c.args.stock) c.args.inflow c.args.seconds) =
    c.whole_volume-volume.ensures ∙ (ap (λ (z : ℤ). floor (record { num = z; den = 864 })) kept-shares
    ∙ ap (λ (z : ℤ). floor (record { num = z; den = 864 })) exact) in
    let held = rw (
      to_z-of_z w128 volume (record { sfits = c.whole_volume-volume.type_inv }),
      to_z-of_z w128 least (record { sfits = c.in_halves-least.type_inv }),
      to_z-of_z w128 most (record { sfits = c.in_halves-most.type_inv }),
    ) at c.held.ensures.value in
    to_z-of_z w128 c.held.result (record { sfits = c.held.type_inv })
    ∙ (held ∙ (ap (λ (z : ℤ). int_min (int_max volume z) most) twice-low
    ∙ (ap (λ (z : ℤ). int_min (int_max volume (pos 2 *ℤ lo)) z) twice-high
    ∙ held_volume points tank (stock_of c.args.stock) c.args.inflow c.args.seconds volume lo hi whole l m order)))
