-- Volumes to which a great inflow empties and fills a tank, and volumes rounded down between them.
use Rattle.std.proofs.Common.{◌≡◌, ℕ, ◌^◌, ◌≤◌, ℤ, pos, neg_ℤ, ◌*ℤ◌, ◌≤ℤ◌, unsigned_abs, List}
use Rattle.std.proofs.Common.{arith}
use Rattle.std.specs.Int.{int_max, int_min}
use Rattle.std.proofs.lemmas.Int.{ints, clamps}
use Rattle.hyd_num.proofs.Integers.{times_rises, times_reflects}
use Rattle.hyd_num.specs.Rational.{Rational, floor}
use Rattle.hyd_net.specs.Curves.{volume_at}
use Rattle.hyd_spec.specs.ProgramTypes.{Tank, VolumePoint}
use Rattle.hyd_spec.specs.Scale.{at_scale}
use Rattle.hyd_spec.specs.Tank.{Walls, Cylinder, Curve, Stock, content_bounds, exact_content, kept_volume}
use Rattle.hyd_spec_certificates.specs.Interval.{Interval}
use Rattle.hyd_spec_certificates.specs.Stocks.{Stocks, exact_least, exact_greatest, carried_stocks}
use Rattle.hyd_spec_witnesses.specs.MiddleCandidate.{halves, content_below}
use Rattle.hyd_lemmas.proofs.Integers.{floor_low, floor_greatest, floor_whole}
use Rattle.hyd_theorems_on_definitions.proofs.ValuesByContent.{lower-is, upper-is, placed-is}
use Rattle.hyd_tank.specs.StockIntervals.{AreHeld}

-- more than each volume in shares
abbrev pub great : ℕ
great = 10 ^ 30

-- a volume to which a tank is emptied
pub emptied : (walls : Walls) (tank : Tank) (stocks : Stocks) (inflow : Interval) (seconds : ℕ) (lo : ℤ)
    → AreHeld walls tank stocks → unsigned_abs (kept_volume walls tank.minimum) ≤ 10 ^ 18
    → unsigned_abs (kept_volume walls tank.maximum) ≤ 10 ^ 18 → (pos seconds *ℤ inflow.lo) ≤ℤ neg_ℤ (pos great)
    → lo ≡ (carried_stocks walls tank stocks inflow seconds).volume.lo → lo ≡ kept_volume walls tank.minimum
emptied (Cylinder area) tank stocks inflow seconds lo held least most flow e = e
emptied (Curve points) tank stocks inflow seconds lo held least most flow e =
    let bounds = content_bounds (Curve points) tank in
    let x = exact_least (Curve points) stocks inflow seconds in
    let v = stocks.volume.lo in
    let under = held.volume.lo_below in
    lower-is (λ (z : ℤ). lo ≡ z → lo ≡ bounds.least) bounds bounds x x (pos 0)
    (λ h f. absurd (omega (arith, ints, h, under, flow, least, most)))
    (λ h l f. f)
    (λ h l. absurd (omega (arith, ints, l, under, flow, least, most)))
    e

-- and one to which it is filled
pub filled : (walls : Walls) (tank : Tank) (stocks : Stocks) (inflow : Interval) (seconds : ℕ) (hi : ℤ)
    → AreHeld walls tank stocks → unsigned_abs (kept_volume walls tank.minimum) ≤ 10 ^ 18
    → unsigned_abs (kept_volume walls tank.maximum) ≤ 10 ^ 18 → pos great ≤ℤ (pos seconds *ℤ inflow.hi)
    → hi ≡ (carried_stocks walls tank stocks inflow seconds).volume.hi → hi ≡ kept_volume walls tank.maximum
filled (Cylinder area) tank stocks inflow seconds hi held least most flow e = e
filled (Curve points) tank stocks inflow seconds hi held least most flow e =
    let bounds = content_bounds (Curve points) tank in
    let x = exact_greatest (Curve points) stocks inflow seconds in
    let v = stocks.volume.hi in
    let over = held.volume.hi_above in
    upper-is (λ (z : ℤ). hi ≡ z → hi ≡ bounds.most) bounds bounds x x (pos 0)
    (λ h f. f)
    (λ h l f. absurd (omega (arith, ints, l, over, flow, least, most)))
    (λ h l. absurd (omega (arith, ints, h, over, flow, least, most)))
    e

-- a volume rounded down and held within bounds
pub held_volume : (points : List VolumePoint) (tank : Tank) (stock : Stock) (q : ℤ) (seconds : ℕ) (f least most : ℤ)
    → f ≡ floor (exact_content (Curve points) stock q seconds) → least ≡ volume_at points tank.minimum
    → most ≡ volume_at points tank.maximum → least ≤ℤ most
    → int_min (int_max f (pos 2 *ℤ least)) (pos 2 *ℤ most) ≡ content_below (Curve points) tank stock q seconds
held_volume points tank stock q seconds f least most is l m order =
    let bounds = content_bounds (Curve points) tank in
    let x = exact_content (Curve points) stock q seconds in
    let low = floor_low x (omega arith) in
    let twice = times_rises 2 least most order in
    placed-is (λ (r : Rational). int_min (int_max f (pos 2 *ℤ least)) (pos 2 *ℤ most) ≡ floor r) halves bounds bounds
    x x
    (λ h. let g = floor_greatest x (pos 2 *ℤ bounds.most) (omega arith) h in
    let w = floor_whole (at_scale halves bounds.most) in omega (arith, ints, clamps, g, w, is, l, m, twice))
    (λ s h. let g = times_reflects 864 (floor x) (pos 2 *ℤ bounds.least) (omega arith) (omega (arith, ints, low, h)) in
    let w = floor_whole (at_scale halves bounds.least) in omega (arith, ints, clamps, g, w, is, l, m, twice))
    (λ s h. let g = floor_greatest x (pos 2 *ℤ bounds.least) (omega arith) (omega (arith, ints, h)) in
    let k = times_reflects 864 (floor x) (pos 2 *ℤ bounds.most) (omega arith) (omega (arith, ints, low, s)) in
    omega (arith, ints, clamps, g, k, is, l, m, twice))
