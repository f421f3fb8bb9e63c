use Rattle.std.proofs.Common.{ℤ, Bool, sym, subst, true, false, arith, rules, to_z, of_z, w64, SFits, ap}
use Rattle.std.specs.Int.{w128}
use Rattle.std.proofs.lemmas.Int.{ints, to_z-of_z}
use Rattle.hyd_spec.specs.Tank.{Bounds, Curve, has_reached}
use Rattle.hyd_spec_certificates.specs.SpansAsIntervals.{flows_of}
use Rattle.hyd_spec_certificates.specs.FirstSeconds.{IsFirstSecond}
use Rattle.hyd_spec_certificates.specs.Stocks.{least_stock, greatest_stock}
use Rattle.hyd_tank.specs.StockIntervals.{stocks_of}
use Rattle.hyd_tank.specs.Targets.{StandsFor, IsFirstMet}
use Rattle.hyd_tank.proofs.CylinderFirstSeconds.{earliest_up, latest_up, earliest_down, latest_down}
use Rattle.hyd_tank.proofs.TargetVolumes.{first_stands}
use Rattle.hyd_tank.proofs.volume_curve_tanks.first_from.Goals as goal

pub returns-then-rising-clause-earliest : goal.returns-then-rising-clause-earliest
returns-then-rising-clause-earliest c =
    let tank = c.args.tank.now in
    let points = c.args.points.now in
    let one = greatest_stock (stocks_of c.args.stock) in
    let level = c.args.level in
    let target = c.risen_target-target.result in
    let cap = c.args.cap in
    let second = c.first_of-high.result in
    let volume-fits : SFits w64 c.args.stock.volume.hi = search rules in
    let inflow-fits : SFits w128 c.args.inflow.hi = search rules in
    let stands = subst (λ (z : ℤ). StandsFor tank points z true target) (to_z-of_z w64 level c.ranges.level)
    c.risen_target-target.ensures.meets in
    let met = subst (λ (z : ℤ). IsFirstMet z c.args.inflow.hi target true cap second)
    (to_z-of_z w64 c.args.stock.volume.hi volume-fits)
    (subst (λ (z : ℤ). IsFirstMet (to_z w64 (of_z w64 c.args.stock.volume.hi)) z target true cap second)
    (to_z-of_z w128 c.args.inflow.hi inflow-fits) c.first_of-high.ensures) in
    earliest_up (Curve points) tank (stocks_of c.args.stock) (flows_of c.args.inflow) level cap second c.args.rising
    c.if-rising.true
    (subst (λ (r : Bool). IsFirstSecond (has_reached 1 (Curve points) tank one c.args.inflow.hi r level) cap second)
    (sym c.if-rising.true)
    (first_stands tank points level true target one c.args.inflow.hi cap second stands met))

pub returns-then-rising-clause-latest : goal.returns-then-rising-clause-latest
returns-then-rising-clause-latest c =
    let tank = c.args.tank.now in
    let points = c.args.points.now in
    let one = least_stock (stocks_of c.args.stock) in
    let level = c.args.level in
    let target = c.risen_target-target.result in
    let cap = c.args.cap in
    let second = c.first_of-low.result in
    let volume-fits : SFits w64 c.args.stock.volume.lo = search rules in
    let inflow-fits : SFits w128 c.args.inflow.lo = search rules in
    let stands = subst (λ (z : ℤ). StandsFor tank points z true target) (to_z-of_z w64 level c.ranges.level)
    c.risen_target-target.ensures.meets in
    let met = subst (λ (z : ℤ). IsFirstMet z c.args.inflow.lo target true cap second)
    (to_z-of_z w64 c.args.stock.volume.lo volume-fits)
    (subst (λ (z : ℤ). IsFirstMet (to_z w64 (of_z w64 c.args.stock.volume.lo)) z target true cap second)
    (to_z-of_z w128 c.args.inflow.lo inflow-fits) c.first_of-low.ensures) in
    latest_up (Curve points) tank (stocks_of c.args.stock) (flows_of c.args.inflow) level cap second c.args.rising
    c.if-rising.true
    (subst (λ (r : Bool). IsFirstSecond (has_reached 1 (Curve points) tank one c.args.inflow.lo r level) cap second)
    (sym c.if-rising.true)
    (first_stands tank points level true target one c.args.inflow.lo cap second stands met))

pub returns-else-rising-clause-earliest : goal.returns-else-rising-clause-earliest
returns-else-rising-clause-earliest c =
    let tank = c.args.tank.now in
    let points = c.args.points.now in
    let one = least_stock (stocks_of c.args.stock) in
    let level = c.args.level in
    let target = c.fallen_target-target.result in
    let cap = c.args.cap in
    let second = c.first_of-low-else-rising.result in
    let volume-fits : SFits w64 c.args.stock.volume.lo = search rules in
    let inflow-fits : SFits w128 c.args.inflow.lo = search rules in
    let stands = subst (λ (z : ℤ). StandsFor tank points z false target) (to_z-of_z w64 level c.ranges.level)
    c.fallen_target-target.ensures.meets in
    let met = subst (λ (z : ℤ). IsFirstMet z c.args.inflow.lo target false cap second)
    (to_z-of_z w64 c.args.stock.volume.lo volume-fits)
    (subst (λ (z : ℤ). IsFirstMet (to_z w64 (of_z w64 c.args.stock.volume.lo)) z target false cap second)
    (to_z-of_z w128 c.args.inflow.lo inflow-fits) c.first_of-low-else-rising.ensures) in
    earliest_down (Curve points) tank (stocks_of c.args.stock) (flows_of c.args.inflow) level cap second
    c.args.rising c.if-rising.false
    (subst (λ (r : Bool). IsFirstSecond (has_reached 1 (Curve points) tank one c.args.inflow.lo r level) cap second)
    (sym c.if-rising.false)
    (first_stands tank points level false target one c.args.inflow.lo cap second stands met))

pub returns-else-rising-clause-latest : goal.returns-else-rising-clause-latest
returns-else-rising-clause-latest c =
    let tank = c.args.tank.now in
    let points = c.args.points.now in
    let one = greatest_stock (stocks_of c.args.stock) in
    let level = c.args.level in
    let target = c.fallen_target-target.result in
    let cap = c.args.cap in
    let second = c.first_of-high-else-rising.result in
    let volume-fits : SFits w64 c.args.stock.volume.hi = search rules in
    let inflow-fits : SFits w128 c.args.inflow.hi = search rules in
    let stands = subst (λ (z : ℤ). StandsFor tank points z false target) (to_z-of_z w64 level c.ranges.level)
    c.fallen_target-target.ensures.meets in
    let met = subst (λ (z : ℤ). IsFirstMet z c.args.inflow.hi target false cap second)
    (to_z-of_z w64 c.args.stock.volume.hi volume-fits)
    (subst (λ (z : ℤ). IsFirstMet (to_z w64 (of_z w64 c.args.stock.volume.hi)) z target false cap second)
    (to_z-of_z w128 c.args.inflow.hi inflow-fits) c.first_of-high-else-rising.ensures) in
    latest_down (Curve points) tank (stocks_of c.args.stock) (flows_of c.args.inflow) level cap second c.args.rising
    c.if-rising.false
    (subst (λ (r : Bool). IsFirstSecond (has_reached 1 (Curve points) tank one c.args.inflow.hi r level) cap second)
    (sym c.if-rising.false)
    (first_stands tank points level false target one c.args.inflow.hi cap second stands met))

pub first_of-low-requires-clause-volume : goal.first_of-low-requires-clause-volume
first_of-low-requires-clause-volume c =
    let are = c.volume_bounds-volumes.ensures in
    let range = are.range in
    let least = ap (λ (k : Bounds). k.least) are.value in
    let most = ap (λ (k : Bounds). k.most) are.value in
    let within = c.requires.volume in
    record {
      at_least = omega (
        arith,
        ints,
        range.from,
        range.apart,
        range.up_to,
        least,
        most,
        within.lo_above,
        within.lo_below,
        within.hi_above,
        within.hi_below,
      );
      at_most = omega (
        arith,
        ints,
        range.from,
        range.apart,
        range.up_to,
        least,
        most,
        within.lo_above,
        within.lo_below,
        within.hi_above,
        within.hi_below,
      );
    }

pub first_of-high-requires-clause-volume : goal.first_of-high-requires-clause-volume
first_of-high-requires-clause-volume c =
    let are = c.volume_bounds-volumes.ensures in
    let range = are.range in
    let least = ap (λ (k : Bounds). k.least) are.value in
    let most = ap (λ (k : Bounds). k.most) are.value in
    let within = c.requires.volume in
    record {
      at_least = omega (
        arith,
        ints,
        range.from,
        range.apart,
        range.up_to,
        least,
        most,
        within.lo_above,
        within.lo_below,
        within.hi_above,
        within.hi_below,
      );
      at_most = omega (
        arith,
        ints,
        range.from,
        range.apart,
        range.up_to,
        least,
        most,
        within.lo_above,
        within.lo_below,
        within.hi_above,
        within.hi_below,
      );
    }

pub first_of-low-requires-else-rising-clause-volume : goal.first_of-low-requires-else-rising-clause-volume
first_of-low-requires-else-rising-clause-volume c =
    let are = c.volume_bounds-volumes.ensures in
    let range = are.range in
    let least = ap (λ (k : Bounds). k.least) are.value in
    let most = ap (λ (k : Bounds). k.most) are.value in
    let within = c.requires.volume in
    record {
      at_least = omega (
        arith,
        ints,
        range.from,
        range.apart,
        range.up_to,
        least,
        most,
        within.lo_above,
        within.lo_below,
        within.hi_above,
        within.hi_below,
      );
      at_most = omega (
        arith,
        ints,
        range.from,
        range.apart,
        range.up_to,
        least,
        most,
        within.lo_above,
        within.lo_below,
        within.hi_above,
        within.hi_below,
      );
    }

pub first_of-high-requires-else-rising-clause-volume : goal.first_of-high-requires-else-rising-clause-volume
first_of-high-requires-else-rising-clause-volume c =
    let are = c.volume_bounds-volumes.ensures in
    let range = are.range in
    let least = ap (λ (k : Bounds). k.least) are.value in
    let most = ap (λ (k : Bounds). k.most) are.value in
    let within = c.requires.volume in
    record {
      at_least = omega (
        arith,
        ints,
        range.from,
        range.apart,
        range.up_to,
        least,
        most,
        within.lo_above,
        within.lo_below,
        within.hi_above,
        within.hi_below,
      );
      at_most = omega (
        arith,
        ints,
        range.from,
        range.apart,
        range.up_to,
        least,
        most,
        within.lo_above,
        within.lo_below,
        within.hi_above,
        within.hi_below,
      );
    }
