-- What stocks and first seconds keep: order, bounds, and stocks inside others.
use Rattle.std.proofs.Common.{◌≡◌, ℕ, ◌<◌, ◌≤◌, ℤ, pos, ◌*ℤ◌, ◌≤ℤ◌, Bool, true, false, List, arith}
use Rattle.std.proofs.lemmas.Int.{ints}
use Rattle.hyd_num.specs.Rational.{Rational}
use Rattle.hyd_spec.specs.ProgramTypes.{Tank, VolumePoint}
use Rattle.hyd_spec.specs.Tank.{Walls, Cylinder, Curve, Bounds, content_bounds}
use Rattle.hyd_spec_certificates.specs.SpansAsIntervals.{levels_of}
use Rattle.hyd_spec_certificates.specs.Interval.{Interval}
use Rattle.hyd_spec_certificates.specs.Stocks.{Stocks, least_stock, greatest_stock, exact_least, exact_greatest}
use Rattle.hyd_spec_certificates.specs.Stocks.{contents_after, carried_stocks, may_reach, must_reach}
use Rattle.hyd_spec_certificates.specs.FirstSeconds.{IsFirstSecond}
use Rattle.hyd_spec_certificates.specs.declared.LevelSpan.{LevelSpan}
use Rattle.hyd_theorems_on_definitions.specs.LyingInIntervals.{LiesIn, StockLies, IsInside, AreInside}
use Rattle.hyd_theorems_on_definitions.specs.SoundTanks.{IsVessel}
use Rattle.hyd_theorems_on_definitions.specs.LyingInIntervals.{IsWithin, HasStock}
use Rattle.hyd_theorems_on_definitions.proofs.ValuesByContent.{Fits, lower-least, lower-most, upper-least, upper-most}
use Rattle.hyd_theorems_on_definitions.proofs.ValuesByContent.{ends-ordered}
use Rattle.hyd_theorems_on_definitions.proofs.ValuesByContent.{lower-rises}
use Rattle.hyd_theorems_on_definitions.proofs.StocksInIntervals.{exact-some, content-leads, content-up, carried_within}
use Rattle.hyd_theorems_on_definitions.proofs.StocksInIntervals.{carried_inside}
use Rattle.hyd_theorems_on_definitions.proofs.StocksInIntervals.{carried_ordered, contents_inside}
use Rattle.hyd_theorems_on_definitions.proofs.DecidedByEnds.{seconds_hold}
use Rattle.hyd_tank.specs.StockIntervals.{stocks_at, with_levels, level_stock, AreHeld}

-- ---- levels of a tank without a volume curve

nothing : (n : ℕ) → pos n *ℤ pos 0 ≡ pos 0
nothing n = omega (arith, ints)

pub level_lies : (S : ℕ) (level : LevelSpan) (z : ℤ) → LiesIn S (levels_of level) z
    → StockLies S (stocks_at level) (level_stock z)
level_lies S level z lies = record {
  level = lies;
  volume = record { low = omega (arith, ints, nothing S); high = omega (arith, ints, nothing S) };
}

pub levels_inside : (level : LevelSpan) (wider : Interval) → IsInside (levels_of level) wider
    → AreInside (stocks_at level) (with_levels wider)
levels_inside level wider inside = record {
  level = inside;
  volume = record {
    low = omega (arith, ints);
    high = omega
        (arith, ints);
  };
}

pub level_there : (level : LevelSpan) → level.lo ≤ℤ level.hi → HasStock (stocks_at level)
level_there level order = record { level = order; volume = omega (arith, ints) }

-- ---- carried stocks

own-fits : (bounds : Bounds) (x : Rational) → bounds.least ≤ℤ bounds.most → 0 < x.den → Fits bounds bounds x x
own-fits bounds x order some = record {
  some = some;
  value_some = some;
  order = order;
  below_most = λ h. omega (arith, ints, h);
  above_least = λ h. omega (arith, ints, h);
}

-- the carried volumes lie within their bounds, and are in order
module _ (points : List VolumePoint) (tank : Tank) (vessel : IsVessel (Curve points) tank) (stocks : Stocks) (inflow :
    Interval) (seconds : ℕ) where
  least-fits : Fits (content_bounds (Curve points) tank) (content_bounds (Curve points) tank) (exact_least (Curve
      points) stocks inflow seconds) (exact_least (Curve points) stocks inflow seconds)
  least-fits = own-fits (content_bounds (Curve points) tank) (exact_least (Curve points) stocks inflow seconds)
      vessel.contents_ordered
      (exact-some (Curve points) (least_stock stocks) inflow.lo seconds vessel.holds_water)

  greatest-fits : Fits (content_bounds (Curve points) tank) (content_bounds (Curve points) tank) (exact_greatest (Curve
      points) stocks inflow seconds) (exact_greatest (Curve points) stocks inflow seconds)
  greatest-fits = own-fits (content_bounds (Curve points) tank) (exact_greatest (Curve points) stocks inflow seconds)
      vessel.contents_ordered
      (exact-some (Curve points) (greatest_stock stocks) inflow.hi seconds vessel.holds_water)

  volumes-within : IsWithin (content_bounds (Curve points) tank) (contents_after (pos 0) (Curve points) tank stocks
      inflow seconds)
  volumes-within =
      let bounds = content_bounds (Curve points) tank in
      let least = exact_least (Curve points) stocks inflow seconds in
      let greatest = exact_greatest (Curve points) stocks inflow seconds in
      record {
        lo_above = lower-least bounds bounds least least (pos 0) vessel.contents_ordered;
        lo_below = lower-most bounds bounds least least (pos 0) (omega (arith, ints)) least-fits;
        hi_above = upper-least bounds bounds greatest greatest (pos 0) (omega (arith, ints)) greatest-fits;
        hi_below = upper-most bounds bounds greatest greatest (pos 0) vessel.contents_ordered;
      }

  volumes-ordered : HasStock stocks → inflow.lo ≤ℤ inflow.hi
      → (contents_after (pos 0) (Curve points) tank stocks inflow seconds).lo ≤ℤ (contents_after (pos 0) (Curve points)
      tank stocks inflow seconds).hi
  volumes-ordered has flow =
      let bounds = content_bounds (Curve points) tank in
      let least = exact_least (Curve points) stocks inflow seconds in
      let greatest = exact_greatest (Curve points) stocks inflow seconds in
      let leads = content-leads 1 1 (Curve points) (least_stock stocks) (greatest_stock stocks) inflow.lo inflow.hi
      seconds
      (content-up (Curve points) (least_stock stocks) (greatest_stock stocks) has.level has.volume) (omega (
        arith,
        ints,
        flow,
      )) in
      let a = lower-rises bounds bounds least greatest least greatest least-fits greatest-fits leads leads (pos 0)
      (omega (arith, ints)) in
      let b = ends-ordered bounds bounds greatest greatest (pos 0) (omega (arith, ints)) greatest-fits in
      omega (arith, ints, a, b)

pub carried_held : (walls : Walls) (tank : Tank) (stocks : Stocks) (inflow : Interval) (seconds : ℕ)
    → IsVessel walls tank → AreHeld walls tank (carried_stocks walls tank stocks inflow seconds)
carried_held (Cylinder area) tank stocks inflow seconds vessel = record {
  level = carried_within (Cylinder area) tank stocks inflow seconds vessel;
  volume = record {
    lo_above = omega (arith, ints);
    lo_below = omega (arith, ints);
    hi_above = omega (arith, ints);
    hi_below = omega (arith, ints);
  };
}
carried_held (Curve points) tank stocks inflow seconds vessel = record {
  level = carried_within (Curve points) tank stocks inflow seconds vessel;
  volume = volumes-within points tank vessel stocks inflow seconds;
}

pub carried_has : (walls : Walls) (tank : Tank) (stocks : Stocks) (inflow : Interval) (seconds : ℕ)
    → IsVessel walls tank → HasStock stocks → inflow.lo ≤ℤ inflow.hi
    → HasStock (carried_stocks walls tank stocks inflow seconds)
carried_has (Cylinder area) tank stocks inflow seconds vessel has flow =
    record {
      level = carried_ordered (Cylinder area) tank vessel stocks inflow seconds has flow;
      volume = omega (
        arith,
        ints,
      );
    }
carried_has (Curve points) tank stocks inflow seconds vessel has flow =
    record {
      level = carried_ordered (Curve points) tank vessel stocks inflow seconds has flow;
      volume =
          volumes-ordered points tank vessel stocks inflow seconds has flow;
    }

pub carried_stocks_inside : (walls : Walls) (tank : Tank) (stocks wider : Stocks) (inflow more : Interval) (seconds :
    ℕ) → IsVessel walls tank → AreInside stocks wider → IsInside inflow more
    → AreInside (carried_stocks walls tank stocks inflow seconds) (carried_stocks walls tank wider more seconds)
carried_stocks_inside (Cylinder area) tank stocks wider inflow more seconds vessel at flow = record {
  level = carried_inside (Cylinder area) tank vessel stocks wider inflow more seconds at flow;
  volume = record { low = omega (arith, ints); high = omega (arith, ints) };
}
carried_stocks_inside (Curve points) tank stocks wider inflow more seconds vessel at flow = record {
  level = carried_inside (Curve points) tank vessel stocks wider inflow more seconds at flow;
  volume = contents_inside (Curve points) tank vessel stocks wider inflow more seconds at flow (pos 0) (omega (
    arith,
    ints,
  ));
}

-- ---- first seconds

one-of : (lo hi z : ℤ) → lo ≤ℤ z → z ≤ℤ hi → LiesIn 1 (record { lo = lo; hi = hi }) z
one-of lo hi z low high = record { low = omega (arith, ints, low); high = omega (arith, ints, high) }

pub seconds_ordered : (walls : Walls) (tank : Tank) (stocks : Stocks) (inflow : Interval) (target : ℤ) (rising : Bool)
    (cap earliest latest : ℕ) → IsVessel walls tank
    → HasStock stocks → inflow.lo ≤ℤ inflow.hi
    → IsFirstSecond (may_reach walls tank stocks inflow target rising) cap earliest
    → IsFirstSecond (must_reach walls tank stocks inflow target rising) cap latest → earliest ≤ latest
seconds_ordered walls tank stocks inflow target true cap earliest latest vessel has flow e l =
    (seconds_hold 1 walls tank stocks inflow target true cap (least_stock stocks) inflow.lo earliest latest latest
    (omega arith) vessel
    (record {
      level = one-of stocks.level.lo stocks.level.hi stocks.level.lo (omega (arith, ints)) has.level;
      volume =
          one-of stocks.volume.lo stocks.volume.hi stocks.volume.lo (omega (arith, ints)) has.volume;
    })
    (one-of inflow.lo inflow.hi inflow.lo (omega (arith, ints)) flow) e l l).0
seconds_ordered walls tank stocks inflow target false cap earliest latest vessel has flow e l =
    (seconds_hold 1 walls tank stocks inflow target false cap (greatest_stock stocks) inflow.hi earliest latest latest
    (omega arith) vessel
    (record {
      level = one-of stocks.level.lo stocks.level.hi stocks.level.hi has.level (omega (arith, ints));
      volume =
          one-of stocks.volume.lo stocks.volume.hi stocks.volume.hi has.volume (omega (arith, ints));
    })
    (one-of inflow.lo inflow.hi inflow.hi flow (omega (arith, ints))) e l l).0
