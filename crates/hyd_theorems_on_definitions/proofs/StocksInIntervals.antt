-- Stocks: intervals of them hold the stocks that every history may have, and lesser intervals lead into lesser ones.
use Rattle.std.proofs.Common.{◌≡◌, ℕ, suc, ◌*◌, ◌^◌, ◌<◌, ℤ, pos, ◌+ℤ◌, ◌-ℤ◌, ◌*ℤ◌, ◌≤ℤ◌, ◌<ℤ◌, refl, sym, ap, subst}
use Rattle.std.proofs.Common.{◌∙◌, arith, Bool, true, false, mul-pos, List, [], ◌∷◌}
use Rattle.std.specs.Prelude.{Some, int_le, if◌then◌else◌, map, AllPairs}
use Rattle.std.proofs.lemmas.Int.{ints}
use Rattle.hyd_num.proofs.Integers.{times_plus, times_rises, times_reflects, times_times, one_times}
use Rattle.hyd_num.specs.Rational.{Rational, whole}
use Rattle.hyd_net.specs.Curves.{Knot, value_at, AreRising}
use Rattle.hyd_spec.specs.ProgramTypes.{Tank, VolumePoint}
use Rattle.hyd_spec.specs.Scale.{at_scale, missed_stock_ticks}
use Rattle.hyd_spec.specs.Tank.{Walls, Cylinder, Curve, Stock, Bounds, level_bounds, content_bounds, content_of}
use Rattle.hyd_spec.specs.Tank.{exact_content, level_knots, level_on_curve, level_at, carried_level, IsNextContent}
use Rattle.hyd_spec.specs.Tank.{IsLevelAt, IsNextStock, tank_state, state_band}
use Rattle.hyd_spec.specs.declared.TankState.{TankState}
use Rattle.hyd_spec.specs.declared.TankState.TheVariants.{Full, Between, Empty}
use Rattle.hyd_spec_certificates.specs.Interval.{Interval}
use Rattle.hyd_spec_certificates.specs.Stocks.{Stocks, least_stock, greatest_stock, exact_least, exact_greatest}
use Rattle.hyd_spec_certificates.specs.Stocks.{lower_level, upper_level, contents_after, carried_levels, levels_at}
use Rattle.hyd_spec_certificates.specs.Stocks.{next_stocks, shared_state, state_of}
use Rattle.hyd_theorems_on_definitions.specs.LyingInIntervals.{LiesIn, LiesAround, StockLies}
use Rattle.hyd_theorems_on_definitions.specs.SoundTanks.{IsVessel, HoldWater}
use Rattle.hyd_theorems_on_definitions.specs.LyingInIntervals.{AreInside, IsInside, IsWithin, HasStock}
use Rattle.hyd_lemmas.proofs.Integers.{exchanged}
use Rattle.hyd_lemmas.proofs.BooleanTests.{le-from, le-yes}
use Rattle.hyd_theorems_on_definitions.proofs.ValuesAtTwoScales.{Leads}
use Rattle.hyd_theorems_on_definitions.proofs.RisingLines.{AreClimbing, from-rises, some-den}
use Rattle.hyd_theorems_on_definitions.proofs.ValuesByContent.{Fits, FitsAt, ends-ordered, lower-least, lower-most}
use Rattle.hyd_theorems_on_definitions.proofs.ValuesByContent.{upper-least}
use Rattle.hyd_theorems_on_definitions.proofs.ValuesByContent.{upper-most, next-low, next-high, placed-low, placed-high}
use Rattle.hyd_theorems_on_definitions.proofs.ValuesByContent.{lower-rises, upper-rises, placed-rises, placed-most}
use Rattle.hyd_theorems_on_definitions.proofs.ValuesByContent.{placed-least, placed-some}

-- ---- levels by a volume curve

pub pairs-tail : (R : ℤ → ℤ → Type 0) (x : ℤ) (xs : List ℤ) → AllPairs R (x ∷ xs) → AllPairs R xs
pairs-tail R x xs all = λ i j d below inside. all (suc i) (suc j) d (omega (arith, below)) (omega (arith, inside))

climbing : (p : VolumePoint) (points : List VolumePoint) → AreRising (map (λ (q : VolumePoint). q.level) (p ∷ points))
    → AreRising (map (λ (q : VolumePoint). q.volume) (p ∷ points))
    → AreClimbing (record { place = p.volume; value = p.level }) (level_knots points)
climbing p [] levels volumes = tt
climbing p (q ∷ points) levels volumes = (
  record {
    later = let l = volumes 0 1 (pos 0) (omega arith) (omega arith) in omega (arith, ints, l);
    higher = let l = levels 0 1 (pos 0) (omega arith) (omega arith) in omega (arith, ints, l);
  },
  climbing q points (pairs-tail (λ a b. a <ℤ b) p.level (map (λ (q : VolumePoint). q.level) (q ∷ points)) levels)
      (pairs-tail (λ a b. a <ℤ b) p.volume (map (λ (q : VolumePoint). q.volume) (q ∷ points)) volumes),
)

pub curve-some : (S : ℕ) (points : List VolumePoint) (x : Rational) → HoldWater (Curve points) → 0 < x.den
    → 0 < (level_on_curve S points x).den
curve-some S [] x holds some = mul-pos (omega arith) some
curve-some S (p ∷ points) x holds some =
    mul-pos (some-den (S * x.den) (record { place = p.volume; value = p.level }) (level_knots points) x.num) some

curve-rises : (T U : ℕ) (points : List VolumePoint) (x y : Rational) → HoldWater (Curve points) → 0 < T → 0 < x.den
    → Leads T U x y
    → Leads T U (level_on_curve T points x) (level_on_curve U points y)
curve-rises T U [] x y holds some x-some leads = record { crossed = omega (arith, ints) }
curve-rises T U (p ∷ points) x y holds some x-some leads =
    let knot : Knot = record { place = p.volume; value = p.level } in
    let r = value_at (T * x.den) (level_knots (p ∷ points)) x.num in
    let s = value_at (U * y.den) (level_knots (p ∷ points)) y.num in
    let up = from-rises (T * x.den) (U * y.den) knot (level_knots points) x.num y.num (mul-pos some x-some)
    (climbing p points holds.0 holds.1)
    (let a = leads.crossed in omega (arith, ints, a, merged U y.den x.num, merged T x.den y.num)) in
    record {
      crossed = let a = up.crossed in
          omega (arith, ints, a, apart s.den U y.den r.num, apart r.den T x.den s.num);
    }
  where
    merged : (a b : ℕ) (z : ℤ) → pos (a * b) *ℤ z ≡ pos b *ℤ (pos a *ℤ z)
    merged a b z = sym (times_times a b z) ∙ exchanged b a z

    apart : (a b c : ℕ) (z : ℤ) → pos a *ℤ (pos (b * c) *ℤ z) ≡ pos (a * c) *ℤ (pos b *ℤ z)
    apart a b c z = ap (λ (w : ℤ). pos a *ℤ w) (merged b c z) ∙ times_times a c (pos b *ℤ z)

-- ---- exact contents

pub exact-some : (walls : Walls) (stock : Stock) (q : ℤ) (seconds : ℕ) → HoldWater walls
    → 0 < (exact_content walls stock q seconds).den
exact-some (Cylinder area) stock q seconds holds = mul-pos (omega arith) holds
exact-some (Curve points) stock q seconds holds = omega arith

-- of content and inflow that are at most others, the exact content is
mixed-leads : (T U B F : ℕ) (a b p q : ℤ) → (pos U *ℤ a) ≤ℤ (pos T *ℤ b) → (pos U *ℤ p) ≤ℤ (pos T *ℤ q)
    → Leads T U (record { num = (pos B *ℤ a) +ℤ (pos F *ℤ p); den = B }) (record {
      num = (pos B *ℤ b) +ℤ (pos F *ℤ q);
      den = B;
    })
mixed-leads T U B F a b p q content flow = record {
  crossed = times_rises B (pos U *ℤ ((pos B *ℤ a) +ℤ (pos F *ℤ p))) (pos T *ℤ ((pos B *ℤ b) +ℤ (pos F *ℤ q)))
      (let m = times_rises B (pos U *ℤ a) (pos T *ℤ b) content in
      let n = times_rises F (pos U *ℤ p) (pos T *ℤ q) flow in
      omega (
        arith,
        ints,
        m,
        n,
        times_plus U (pos B *ℤ a) (pos F *ℤ p),
        times_plus T (pos B *ℤ b) (pos F *ℤ q),
        exchanged B U a,
        exchanged F U p,
        exchanged B T b,
        exchanged F T q,
      ));
}

pub content-leads : (T U : ℕ) (walls : Walls) (a b : Stock) (p q : ℤ) (seconds : ℕ)
    → (pos U *ℤ content_of walls a) ≤ℤ (pos T *ℤ content_of walls b)
    → (pos U *ℤ p) ≤ℤ (pos T *ℤ q) → Leads T U (exact_content walls a p seconds) (exact_content walls b q seconds)
content-leads T U (Cylinder area) a b p q seconds content flow = mixed-leads T U (86400 * area) (seconds * 10 ^ 15)
    a.level b.level p q content flow
content-leads T U (Curve points) a b p q seconds content flow = mixed-leads T U 864 seconds a.volume b.volume p q
    content flow

-- ---- levels that go with contents

self-fits-at : (S : ℕ) (bounds : Bounds) (x : Rational) → 0 < x.den → FitsAt S bounds bounds x x
self-fits-at S bounds x some = record {
  some = some;
  value_some = some;
  below_most = λ h. omega (arith, ints, h);
  above_least = λ h. omega (arith, ints, h);
}

fits-from : (contents range : Bounds) (x value : Rational) → range.least ≤ℤ range.most
    → FitsAt 1 contents range x value → Fits contents range x value
fits-from contents range x value order f = record {
  some = f.some;
  value_some = f.value_some;
  order = order;
  below_most = λ h. subst (λ (z : ℤ). value.num ≤ℤ (pos value.den *ℤ z)) (one_times range.most)
      (f.below_most (subst (λ (z : ℤ). x.num <ℤ (pos x.den *ℤ z)) (sym (one_times contents.most)) h));
  above_least = λ h. subst (λ (z : ℤ). (pos value.den *ℤ z) ≤ℤ value.num) (one_times range.least)
      (f.above_least (subst (λ (z : ℤ). (pos x.den *ℤ z) <ℤ x.num) (sym (one_times contents.least)) h));
}

pub level-fits-at : (S : ℕ) (walls : Walls) (tank : Tank) (x : Rational) → IsVessel walls tank → 0 < x.den
    → FitsAt S (content_bounds walls tank) (level_bounds tank) x (level_at S walls tank x)
level-fits-at S (Cylinder area) tank x vessel some = self-fits-at S (level_bounds tank) x some
level-fits-at S (Curve points) tank x vessel some =
    let level = level_on_curve S points x in
    let level-some = curve-some S points x vessel.holds_water some in
    let own = self-fits-at S (level_bounds tank) level level-some in
    record {
      some = some;
      value_some = placed-some S (level_bounds tank) (level_bounds tank) level level level-some;
      below_most = λ h. placed-most S (level_bounds tank) (level_bounds tank) level level vessel.ordered own;
      above_least = λ h. placed-least S (level_bounds tank) (level_bounds tank) level level vessel.ordered own;
    }

pub level-fits : (walls : Walls) (tank : Tank) (x : Rational) → IsVessel walls tank → 0 < x.den
    → Fits (content_bounds walls tank) (level_bounds tank) x (level_at 1 walls tank x)
level-fits walls tank x vessel some =
    fits-from (content_bounds walls tank) (level_bounds tank) x (level_at 1 walls tank x) vessel.ordered
    (level-fits-at 1 walls tank x vessel some)

content-fits : (walls : Walls) (tank : Tank) (x : Rational) → IsVessel walls tank → 0 < x.den
    → Fits (content_bounds walls tank) (content_bounds walls tank) x x
content-fits walls tank x vessel some =
    fits-from (content_bounds walls tank) (content_bounds walls tank) x x vessel.contents_ordered
    (self-fits-at 1 (content_bounds walls tank) x some)

pub level-leads : (T U : ℕ) (walls : Walls) (tank : Tank) (y x : Rational) → IsVessel walls tank → 0 < T → 0 < U
    → 0 < y.den → 0 < x.den → Leads T U y x
    → Leads T U (level_at T walls tank y) (level_at U walls tank x)
level-leads T U (Cylinder area) tank y x vessel some other-some y-some x-some leads = leads
level-leads T U (Curve points) tank y x vessel some other-some y-some x-some leads =
    let low = level_on_curve T points y in let high = level_on_curve U points x in
    let up = curve-rises T U points y x vessel.holds_water some y-some leads in
    placed-rises T U (level_bounds tank) (level_bounds tank) low high low high some other-some vessel.ordered
    (self-fits-at T (level_bounds tank) low (curve-some T points y vessel.holds_water y-some))
    (self-fits-at U (level_bounds tank) high (curve-some U points x vessel.holds_water x-some)) up up

-- ---- carried levels at two scales

pub carried-some : (T : ℕ) (walls : Walls) (tank : Tank) (a : Stock) (p : ℤ) (seconds : ℕ) → IsVessel walls tank
    → 0 < (carried_level T walls tank a p seconds).den
carried-some T walls tank a p seconds vessel =
    let x = exact_content walls a p seconds in
    placed-some T (content_bounds walls tank) (level_bounds tank) x (level_at T walls tank x)
    (level-fits-at T walls tank x vessel (exact-some walls a p seconds vessel.holds_water)).value_some

pub carried-leads : (T U : ℕ) (walls : Walls) (tank : Tank) (a b : Stock) (p q : ℤ) (seconds : ℕ)
    → IsVessel walls tank → 0 < T → 0 < U
    → (pos U *ℤ content_of walls a) ≤ℤ (pos T *ℤ content_of walls b) → (pos U *ℤ p) ≤ℤ (pos T *ℤ q)
    → Leads T U (carried_level T walls tank a p seconds) (carried_level U walls tank b q seconds)
carried-leads T U walls tank a b p q seconds vessel some other-some content flow =
    let x = exact_content walls a p seconds in let y = exact_content walls b q seconds in
    let x-some = exact-some walls a p seconds vessel.holds_water in
    let y-some = exact-some walls b q seconds vessel.holds_water in
    let leads = content-leads T U walls a b p q seconds content flow in
    placed-rises T U (content_bounds walls tank) (level_bounds tank) x y (level_at T walls tank x)
    (level_at U walls tank y) some other-some vessel.ordered
    (level-fits-at T walls tank x vessel x-some) (level-fits-at U walls tank y vessel y-some) leads
    (level-leads T U walls tank x y vessel some other-some x-some y-some leads)

-- ---- the stocks of a history

-- the content of a stock that lies in an interval of stocks
pub content-low : (S : ℕ) (walls : Walls) (stocks : Stocks) (stock : Stock) → StockLies S stocks stock
    → (pos S *ℤ content_of walls (least_stock stocks)) ≤ℤ (pos 1 *ℤ content_of walls stock)
content-low S (Cylinder area) stocks stock lies = let a = lies.level.low in omega (arith, ints, a)
content-low S (Curve points) stocks stock lies = let a = lies.volume.low in omega (arith, ints, a)

pub content-high : (S : ℕ) (walls : Walls) (stocks : Stocks) (stock : Stock) → StockLies S stocks stock
    → (pos 1 *ℤ content_of walls stock) ≤ℤ (pos S *ℤ content_of walls (greatest_stock stocks))
content-high S (Cylinder area) stocks stock lies = let a = lies.level.high in omega (arith, ints, a)
content-high S (Curve points) stocks stock lies = let a = lies.volume.high in omega (arith, ints, a)

module _ (S : ℕ) (walls : Walls) (stocks : Stocks) (inflow : Interval) (seconds : ℕ) (stock : Stock) (q : ℤ)
    (lies : StockLies S stocks stock) (flow : LiesIn S inflow q) where
  pub least-leads : Leads 1 S (exact_least walls stocks inflow seconds) (exact_content walls stock q seconds)
  least-leads = content-leads 1 S walls (least_stock stocks) stock inflow.lo q seconds
      (content-low S walls stocks stock lies)
      (let a = flow.low in omega (arith, ints, a))

  pub greatest-leads : Leads S 1 (exact_content walls stock q seconds) (exact_greatest walls stocks inflow seconds)
  greatest-leads = content-leads S 1 walls stock (greatest_stock stocks) q inflow.hi seconds
      (content-high S walls stocks stock lies)
      (let a = flow.high in omega (arith, ints, a))

  module _ (tank : Tank) (some : 0 < S) (vessel : IsVessel walls tank) where
    least-some : 0 < (exact_least walls stocks inflow seconds).den
    least-some = exact-some walls (least_stock stocks) inflow.lo seconds vessel.holds_water

    greatest-some : 0 < (exact_greatest walls stocks inflow seconds).den
    greatest-some = exact-some walls (greatest_stock stocks) inflow.hi seconds vessel.holds_water

    between-some : 0 < (exact_content walls stock q seconds).den
    between-some = exact-some walls stock q seconds vessel.holds_water

    -- the carried level lies in the interval of carried levels
    pub carried_lies : LiesAround S (carried_levels walls tank stocks inflow seconds)
        (carried_level S walls tank stock q seconds)
    carried_lies =
        let least = exact_least walls stocks inflow seconds in
        let greatest = exact_greatest walls stocks inflow seconds in
        let exact = exact_content walls stock q seconds in
        let fits = level-fits-at S walls tank exact vessel between-some in
        record {
          some = placed-some S (content_bounds walls tank) (level_bounds tank) exact (level_at S walls tank exact)
              fits.value_some;
          low = placed-low S (content_bounds walls tank) (level_bounds tank) least exact (level_at 1 walls tank least)
              (level_at S walls tank exact) some
              (level-fits walls tank least vessel least-some) fits least-leads
              (level-leads 1 S walls tank least exact vessel (omega arith) some least-some between-some least-leads);
          high = placed-high S (content_bounds walls tank) (level_bounds tank) greatest exact
              (level_at 1 walls tank greatest) (level_at S walls tank exact) some
              (level-fits walls tank greatest vessel greatest-some) fits greatest-leads
              (level-leads S 1 walls tank exact greatest vessel some (omega arith) between-some greatest-some
              greatest-leads);
        }

    contents-lie : (next : ℤ) → IsNextContent S walls tank stock q seconds next
        → LiesIn S (contents_after (pos missed_stock_ticks) walls tank stocks inflow seconds) next
    contents-lie next is =
        let bounds = content_bounds walls tank in
        let least = exact_least walls stocks inflow seconds in
        let greatest = exact_greatest walls stocks inflow seconds in
        let exact = exact_content walls stock q seconds in
        record {
          low = next-low S bounds bounds least exact least exact some
              (content-fits walls tank least vessel least-some) (self-fits-at S bounds exact between-some)
              least-leads least-leads next is;
          high = next-high S bounds bounds greatest exact greatest exact some
              (content-fits walls tank greatest vessel greatest-some) (self-fits-at S bounds exact between-some)
              greatest-leads greatest-leads next is;
        }

-- the level that goes with a volume in an interval lies in the levels that go with the interval
levels-lie : (S : ℕ) (points : List VolumePoint) (tank : Tank) (volumes : Interval) (volume level : ℤ) → 0 < S
    → IsVessel (Curve points) tank → LiesIn S volumes volume
    → IsLevelAt S points tank volume level → LiesIn S (levels_at points tank volumes) level
levels-lie S points tank volumes volume level some vessel lies is =
    let least = whole volumes.lo in let greatest = whole volumes.hi in let exact = whole volume in
    let fits = level-fits-at S (Curve points) tank exact vessel (omega arith) in
    let under : Leads 1 S least exact = record {
      crossed = let a = lies.low in
          omega (arith, ints, a, one_times (pos S *ℤ volumes.lo), one_times volume, one_times (pos 1 *ℤ volume));
    } in
    let over : Leads S 1 exact greatest = record {
      crossed = let a = lies.high in
          omega (arith, ints, a, one_times (pos S *ℤ volumes.hi), one_times volume, one_times (pos 1 *ℤ volume));
    } in
    record {
      low = next-low S (content_bounds (Curve points) tank) (level_bounds tank) least exact
          (level_at 1 (Curve points) tank least) (level_at S (Curve points) tank exact) some
          (level-fits (Curve points) tank least vessel (omega arith)) fits under
          (level-leads 1 S (Curve points) tank least exact vessel (omega arith) some (omega arith) (omega arith)
          under) level is;
      high = next-high S (content_bounds (Curve points) tank) (level_bounds tank) greatest exact
          (level_at 1 (Curve points) tank greatest) (level_at S (Curve points) tank exact) some
          (level-fits (Curve points) tank greatest vessel (omega arith)) fits over
          (level-leads S 1 (Curve points) tank exact greatest vessel some (omega arith) (omega arith) (omega arith)
          over) level is;
    }

-- the next stock lies in the interval of next stocks
pub next_lies : (S : ℕ) (walls : Walls) (tank : Tank) (stocks : Stocks) (inflow : Interval) (seconds : ℕ)
    (stock : Stock) (q : ℤ) (next : Stock) → 0 < S → IsVessel walls tank
    → StockLies S stocks stock → LiesIn S inflow q → IsNextStock S walls tank stock q seconds next
    → StockLies S (next_stocks walls tank stocks inflow seconds) next
next_lies S (Cylinder area) tank stocks inflow seconds stock q next some vessel lies flow is = record {
  level = contents-lie S (Cylinder area) stocks inflow seconds stock q lies flow tank some vessel next.level is.0;
  volume = let none = is.1 in record {
    low = omega (arith, ints, none, nothing S);
    high = omega (arith, ints, none, nothing S);
  };
}
  where
    nothing : (n : ℕ) → pos n *ℤ pos 0 ≡ pos 0
    nothing n = omega (arith, ints)
next_lies S (Curve points) tank stocks inflow seconds stock q next some vessel lies flow is =
    let volume = contents-lie S (Curve points) stocks inflow seconds stock q lies flow tank some vessel next.volume
    is.0 in
    record {
      level = levels-lie S points tank
          (contents_after (pos missed_stock_ticks) (Curve points) tank stocks inflow seconds) next.volume
          next.level some vessel volume is.1;
      volume = volume;
    }

-- ---- lesser intervals

pub content-up : (walls : Walls) (a b : Stock) → a.level ≤ℤ b.level → a.volume ≤ℤ b.volume
    → (pos 1 *ℤ content_of walls a) ≤ℤ (pos 1 *ℤ content_of walls b)
content-up (Cylinder area) a b level volume = omega (arith, ints, level)
content-up (Curve points) a b level volume = omega (arith, ints, volume)

module _ (walls : Walls) (tank : Tank) (vessel : IsVessel walls tank) where
  pub lower-levels : (x y : Rational) (room : ℤ) → pos 0 ≤ℤ room → 0 < x.den → 0 < y.den → Leads 1 1 x y
      → lower_level walls tank x room ≤ℤ lower_level walls tank y room
  lower-levels x y room positive some other-some leads =
      lower-rises (content_bounds walls tank) (level_bounds tank) x y (level_at 1 walls tank x)
      (level_at 1 walls tank y)
      (level-fits walls tank x vessel some) (level-fits walls tank y vessel other-some) leads
      (level-leads 1 1 walls tank x y vessel (omega arith) (omega arith) some other-some leads) room positive

  pub upper-levels : (x y : Rational) (room : ℤ) → pos 0 ≤ℤ room → 0 < x.den → 0 < y.den → Leads 1 1 x y
      → upper_level walls tank x room ≤ℤ upper_level walls tank y room
  upper-levels x y room positive some other-some leads =
      upper-rises (content_bounds walls tank) (level_bounds tank) x y (level_at 1 walls tank x)
      (level_at 1 walls tank y)
      (level-fits walls tank x vessel some) (level-fits walls tank y vessel other-some) leads
      (level-leads 1 1 walls tank x y vessel (omega arith) (omega arith) some other-some leads) room positive

  module _ (stocks wider : Stocks) (inflow more : Interval) (seconds : ℕ) (at : AreInside stocks wider)
      (flow : IsInside inflow more) where
    pub least-follows : Leads 1 1 (exact_least walls wider more seconds) (exact_least walls stocks inflow seconds)
    least-follows = content-leads 1 1 walls (least_stock wider) (least_stock stocks) more.lo inflow.lo seconds
        (content-up walls (least_stock wider) (least_stock stocks) at.level.low at.volume.low) (let a = flow.low in
        omega (arith, ints, a))

    pub greatest-follows : Leads 1 1 (exact_greatest walls stocks inflow seconds)
        (exact_greatest walls wider more seconds)
    greatest-follows = content-leads 1 1 walls (greatest_stock stocks) (greatest_stock wider) inflow.hi more.hi seconds
        (content-up walls (greatest_stock stocks) (greatest_stock wider) at.level.high at.volume.high)
        (let a = flow.high in omega (arith, ints, a))

    pub carried_inside : IsInside (carried_levels walls tank stocks inflow seconds)
        (carried_levels walls tank wider more seconds)
    carried_inside = record {
      low = lower-levels (exact_least walls wider more seconds) (exact_least walls stocks inflow seconds) (pos 0)
          (omega (arith, ints))
          (exact-some walls (least_stock wider) more.lo seconds vessel.holds_water)
          (exact-some walls (least_stock stocks) inflow.lo seconds vessel.holds_water) least-follows;
      high = upper-levels (exact_greatest walls stocks inflow seconds) (exact_greatest walls wider more seconds)
          (pos 0) (omega (arith, ints))
          (exact-some walls (greatest_stock stocks) inflow.hi seconds vessel.holds_water)
          (exact-some walls (greatest_stock wider) more.hi seconds vessel.holds_water) greatest-follows;
    }

    pub contents_inside : (room : ℤ) → pos 0 ≤ℤ room → IsInside (contents_after room walls tank stocks inflow seconds)
        (contents_after room walls tank wider more seconds)
    contents_inside room positive =
        let bounds = content_bounds walls tank in
        let least = exact_least walls stocks inflow seconds in let least-wider = exact_least walls wider more seconds in
        let greatest = exact_greatest walls stocks inflow seconds in
        let greatest-wider = exact_greatest walls wider more seconds in
        record {
          low = lower-rises bounds bounds least-wider least least-wider least
              (content-fits walls tank least-wider vessel (exact-some walls (least_stock wider) more.lo seconds
              vessel.holds_water))
              (content-fits walls tank least vessel (exact-some walls (least_stock stocks) inflow.lo seconds
              vessel.holds_water)) least-follows least-follows room positive;
          high = upper-rises bounds bounds greatest greatest-wider greatest greatest-wider
              (content-fits walls tank greatest vessel (exact-some walls (greatest_stock stocks) inflow.hi seconds
              vessel.holds_water))
              (content-fits walls tank greatest-wider vessel (exact-some walls (greatest_stock wider) more.hi seconds
              vessel.holds_water)) greatest-follows greatest-follows room positive;
        }

levels-inside : (points : List VolumePoint) (tank : Tank) (a b : Interval) → IsVessel (Curve points) tank
    → IsInside a b → IsInside (levels_at points tank a) (levels_at points tank b)
levels-inside points tank a b vessel at = record {
  low = lower-levels (Curve points) tank vessel (whole b.lo) (whole a.lo) (pos missed_stock_ticks) (omega (arith, ints))
      (omega arith)
      (omega arith) (wholes b.lo a.lo at.low);
  high = upper-levels (Curve points) tank vessel (whole a.hi) (whole b.hi) (pos missed_stock_ticks)
      (omega (arith, ints))
      (omega arith) (omega arith) (wholes a.hi b.hi at.high);
}
  where
    wholes : (m n : ℤ) → m ≤ℤ n → Leads 1 1 (whole m) (whole n)
    wholes m n le = record {
      crossed = omega (
        arith,
        ints,
        le,
        one_times m,
        one_times n,
        one_times (pos 1 *ℤ m),
        one_times (pos 1 *ℤ n),
      );
    }

-- stocks and an inflow inside others lead to next stocks inside the others'
pub next_inside : (walls : Walls) (tank : Tank) (stocks wider : Stocks) (inflow more : Interval) (seconds : ℕ)
    → IsVessel walls tank → AreInside stocks wider → IsInside inflow more
    → AreInside (next_stocks walls tank stocks inflow seconds) (next_stocks walls tank wider more seconds)
next_inside (Cylinder area) tank stocks wider inflow more seconds vessel at flow = record {
  level = contents_inside (Cylinder area) tank vessel stocks wider inflow more seconds at flow (pos missed_stock_ticks)
      (omega (arith, ints));
  volume = record { low = omega (arith, ints); high = omega (arith, ints) };
}
next_inside (Curve points) tank stocks wider inflow more seconds vessel at flow =
    let volume = contents_inside (Curve points) tank vessel stocks wider inflow more seconds at flow
    (pos missed_stock_ticks)
    (omega (arith, ints)) in
    record {
      level = levels-inside points tank
          (contents_after (pos missed_stock_ticks) (Curve points) tank stocks inflow seconds)
          (contents_after (pos missed_stock_ticks) (Curve points) tank wider more seconds) vessel volume;
      volume = volume;
    }

-- ---- bounds

contents_within : (room : ℤ) (walls : Walls) (tank : Tank) (stocks : Stocks) (inflow : Interval) (seconds : ℕ)
    → pos 0 ≤ℤ room → IsVessel walls tank
    → IsWithin (content_bounds walls tank) (contents_after room walls tank stocks inflow seconds)
contents_within room walls tank stocks inflow seconds positive vessel =
    let bounds = content_bounds walls tank in
    let least = exact_least walls stocks inflow seconds in
    let greatest = exact_greatest walls stocks inflow seconds in
    record {
      lo_above = lower-least bounds bounds least least room vessel.contents_ordered;
      lo_below = lower-most bounds bounds least least room positive
          (content-fits walls tank least vessel (exact-some walls (least_stock stocks) inflow.lo seconds
          vessel.holds_water));
      hi_above = upper-least bounds bounds greatest greatest room positive
          (content-fits walls tank greatest vessel (exact-some walls (greatest_stock stocks) inflow.hi seconds
          vessel.holds_water));
      hi_below = upper-most bounds bounds greatest greatest room vessel.contents_ordered;
    }

levels-within : (walls : Walls) (tank : Tank) (x y : Rational) (room : ℤ) → pos 0 ≤ℤ room → IsVessel walls tank
    → 0 < x.den → 0 < y.den
    → IsWithin (level_bounds tank) (record { lo = lower_level walls tank x room; hi = upper_level walls tank y room })
levels-within walls tank x y room positive vessel some other-some = record {
  lo_above = lower-least (content_bounds walls tank) (level_bounds tank) x (level_at 1 walls tank x) room
      vessel.ordered;
  lo_below = lower-most (content_bounds walls tank) (level_bounds tank) x (level_at 1 walls tank x) room positive
      (level-fits walls tank x vessel some);
  hi_above = upper-least (content_bounds walls tank) (level_bounds tank) y (level_at 1 walls tank y) room positive
      (level-fits walls tank y vessel other-some);
  hi_below = upper-most (content_bounds walls tank) (level_bounds tank) y (level_at 1 walls tank y) room vessel.ordered;
}

pub carried_within : (walls : Walls) (tank : Tank) (stocks : Stocks) (inflow : Interval) (seconds : ℕ)
    → IsVessel walls tank
    → IsWithin (level_bounds tank) (carried_levels walls tank stocks inflow seconds)
carried_within walls tank stocks inflow seconds vessel =
    levels-within walls tank (exact_least walls stocks inflow seconds) (exact_greatest walls stocks inflow seconds)
    (pos 0) (omega (arith, ints)) vessel
    (exact-some walls (least_stock stocks) inflow.lo seconds vessel.holds_water)
    (exact-some walls (greatest_stock stocks) inflow.hi seconds vessel.holds_water)

pub next_within : (walls : Walls) (tank : Tank) (stocks : Stocks) (inflow : Interval) (seconds : ℕ)
    → IsVessel walls tank
    → IsWithin (level_bounds tank) (next_stocks walls tank stocks inflow seconds).level
next_within (Cylinder area) tank stocks inflow seconds vessel =
    contents_within (pos missed_stock_ticks) (Cylinder area) tank stocks inflow seconds (omega (arith, ints)) vessel
next_within (Curve points) tank stocks inflow seconds vessel =
    let volume = contents_after (pos missed_stock_ticks) (Curve points) tank stocks inflow seconds in
    levels-within (Curve points) tank (whole volume.lo) (whole volume.hi) (pos missed_stock_ticks) (omega (arith, ints))
    vessel (omega arith) (omega arith)

-- ---- stocks that are there

module _ (walls : Walls) (tank : Tank) (vessel : IsVessel walls tank) where
  levels-ordered : (x y : Rational) (room : ℤ) → pos 0 ≤ℤ room → 0 < x.den → 0 < y.den → Leads 1 1 x y
      → lower_level walls tank x room ≤ℤ upper_level walls tank y room
  levels-ordered x y room positive some other-some leads =
      let a = lower-levels walls tank vessel x y room positive some other-some leads in
      let b = ends-ordered (content_bounds walls tank) (level_bounds tank) y (level_at 1 walls tank y) room positive
      (level-fits walls tank y vessel other-some) in
      omega (arith, ints, a, b)

  module _ (stocks : Stocks) (inflow : Interval) (seconds : ℕ) (has : HasStock stocks) (flow : inflow.lo ≤ℤ inflow.hi)
    where
      least-below : Leads 1 1 (exact_least walls stocks inflow seconds) (exact_greatest walls stocks inflow seconds)
      least-below = content-leads 1 1 walls (least_stock stocks) (greatest_stock stocks) inflow.lo inflow.hi seconds
          (content-up walls (least_stock stocks) (greatest_stock stocks) has.level has.volume)
          (omega (arith, ints, flow))

      pub carried_ordered : (carried_levels walls tank stocks inflow seconds).lo
          ≤ℤ (carried_levels walls tank stocks inflow seconds).hi
      carried_ordered = levels-ordered (exact_least walls stocks inflow seconds)
          (exact_greatest walls stocks inflow seconds) (pos 0) (omega (arith, ints))
          (exact-some walls (least_stock stocks) inflow.lo seconds vessel.holds_water)
          (exact-some walls (greatest_stock stocks) inflow.hi seconds vessel.holds_water) least-below

      contents-ordered : (room : ℤ) → pos 0 ≤ℤ room → (contents_after room walls tank stocks inflow seconds).lo
          ≤ℤ (contents_after room walls tank stocks inflow seconds).hi
      contents-ordered room positive =
          let bounds = content_bounds walls tank in
          let least = exact_least walls stocks inflow seconds in
          let greatest = exact_greatest walls stocks inflow seconds in
          let fits = content-fits walls tank greatest vessel (exact-some walls (greatest_stock stocks) inflow.hi seconds
          vessel.holds_water) in
          let a = lower-rises bounds bounds least greatest least greatest
          (content-fits walls tank least vessel (exact-some walls (least_stock stocks) inflow.lo seconds
          vessel.holds_water)) fits least-below least-below room positive in
          let b = ends-ordered bounds bounds greatest greatest room positive fits in
          omega (arith, ints, a, b)

-- from stocks and an inflow that are there the next stocks are there
pub next_has : (walls : Walls) (tank : Tank) (stocks : Stocks) (inflow : Interval) (seconds : ℕ) → IsVessel walls tank
    → HasStock stocks → inflow.lo ≤ℤ inflow.hi
    → HasStock (next_stocks walls tank stocks inflow seconds)
next_has (Cylinder area) tank stocks inflow seconds vessel has flow = record {
  level = contents-ordered (Cylinder area) tank vessel stocks inflow seconds has flow (pos missed_stock_ticks)
      (omega (arith, ints));
  volume = omega (arith, ints);
}
next_has (Curve points) tank stocks inflow seconds vessel has flow =
    let volume = contents_after (pos missed_stock_ticks) (Curve points) tank stocks inflow seconds in
    let order = contents-ordered (Curve points) tank vessel stocks inflow seconds has flow (pos missed_stock_ticks)
    (omega (arith, ints)) in
    record {
      level = levels-ordered (Curve points) tank vessel (whole volume.lo) (whole volume.hi) (pos missed_stock_ticks)
          (omega (arith, ints)) (omega arith) (omega arith)
          (record {
            crossed = omega (
              arith,
              ints,
              order,
              one_times volume.lo,
              one_times volume.hi,
              one_times
                  (pos 1 *ℤ volume.lo),
              one_times (pos 1 *ℤ volume.hi),
            );
          });
      volume = order;
    }

-- ---- states

abbrev pub state_by : Bool → Bool → TankState
state_by full empty = if full then Full else if empty then Empty else Between

shared-holds : (s : TankState) (full empty full_low empty_low full_high empty_high : Bool)
    → (full_low ≡ true → full ≡ true) → (full ≡ true → full_high ≡ true)
    → (empty_high ≡ true → empty ≡ true) → (empty ≡ true → empty_low ≡ true)
    → shared_state (state_by full_low empty_low) (state_by full_high empty_high) ≡ Some s → state_by full empty ≡ s
shared-holds s true e true b2 true b4 p q r t h = cc
shared-holds s true e true b2 false b4 p q r t h = let w = q refl in cc
shared-holds s true e false true true b4 p q r t h = cc
shared-holds s true e false false true b4 p q r t h = cc
shared-holds s true e false b2 false b4 p q r t h = let w = q refl in cc
shared-holds s false e true b2 b3 b4 p q r t h = let w = p refl in cc
shared-holds s false true false true true b4 p q r t h = cc
shared-holds s false true false true false true p q r t h = cc
shared-holds s false true false true false false p q r t h = cc
shared-holds s false true false false b3 b4 p q r t h = let w = t refl in cc
shared-holds s false false false b2 b3 true p q r t h = let w = r refl in cc
shared-holds s false false false true true false p q r t h = cc
shared-holds s false false false true false false p q r t h = cc
shared-holds s false false false false true false p q r t h = cc
shared-holds s false false false false false false p q r t h = cc

-- the state that both ends have is that of each level between
pub state_holds : (S : ℕ) (tank : Tank) (level : Interval) (z : ℤ) (s : TankState) → 0 < S → LiesIn S level z
    → state_of tank level ≡ Some s → tank_state S tank z ≡ s
state_holds S tank level z s some at = shared-holds s
    (int_le (at_scale S (tank.maximum -ℤ state_band)) z) (int_le z (at_scale S (tank.minimum +ℤ state_band)))
    (int_le (at_scale 1 (tank.maximum -ℤ state_band)) level.lo)
    (int_le level.lo (at_scale 1 (tank.minimum +ℤ state_band)))
    (int_le (at_scale 1 (tank.maximum -ℤ state_band)) level.hi)
    (int_le level.hi (at_scale 1 (tank.minimum +ℤ state_band)))
    (λ e. le-from (pos S *ℤ (tank.maximum -ℤ state_band)) z
    (let a = le-yes (pos 1 *ℤ (tank.maximum -ℤ state_band)) level.lo e in
    let o = one_times (tank.maximum -ℤ state_band) in
    let b = times_rises S (tank.maximum -ℤ state_band) level.lo (omega (arith, ints, a, o)) in let c = at.low in
    omega (arith, ints, b, c)))
    (λ e. le-from (pos 1 *ℤ (tank.maximum -ℤ state_band)) level.hi
    (let a = le-yes (pos S *ℤ (tank.maximum -ℤ state_band)) z e in let o = one_times (tank.maximum -ℤ state_band) in
    let c = at.high in
    let b = times_reflects S (tank.maximum -ℤ state_band) level.hi some (omega (arith, ints, a, c)) in
    omega (arith, ints, b, o)))
    (λ e. le-from z (pos S *ℤ (tank.minimum +ℤ state_band))
    (let a = le-yes level.hi (pos 1 *ℤ (tank.minimum +ℤ state_band)) e in
    let o = one_times (tank.minimum +ℤ state_band) in
    let b = times_rises S level.hi (tank.minimum +ℤ state_band) (omega (arith, ints, a, o)) in let c = at.high in
    omega (arith, ints, b, c)))
    (λ e. le-from level.lo (pos 1 *ℤ (tank.minimum +ℤ state_band))
    (let a = le-yes z (pos S *ℤ (tank.minimum +ℤ state_band)) e in let o = one_times (tank.minimum +ℤ state_band) in
    let c = at.low in
    let b = times_reflects S level.lo (tank.minimum +ℤ state_band) some (omega (arith, ints, a, c)) in
    omega (arith, ints, b, o)))

-- an interval that has a number, inside one whose state is decided, has that state
pub state_nests : (tank : Tank) (level wider : Interval) (s : TankState) → level.lo ≤ℤ level.hi → IsInside level wider
    → state_of tank wider ≡ Some s → state_of tank level ≡ Some s
state_nests tank level wider s some at e =
    let low = state_holds 1 tank wider level.lo s (omega arith)
    (record {
      low = let a = at.low in omega (arith, ints, a);
      high = let a = at.high in omega (arith, ints, a, some);
    }) e in
    let high = state_holds 1 tank wider level.hi s (omega arith)
    (record {
      low = let a = at.low in omega (arith, ints, a, some);
      high = let a = at.high in omega (arith, ints, a);
    }) e in
    subst (λ (t : TankState). shared_state t (tank_state 1 tank level.hi) ≡ Some s) (sym low)
    (subst (λ (t : TankState). shared_state s t ≡ Some s) (sym high) (itself s))
  where
    itself : (t : TankState) → shared_state t t ≡ Some t
    itself Full = refl
    itself Between = refl
    itself Empty = refl

pub volumes_within : (points : List VolumePoint) (tank : Tank) (stocks : Stocks) (inflow : Interval) (seconds : ℕ)
    → IsVessel (Curve points) tank
    → IsWithin (content_bounds (Curve points) tank) (next_stocks (Curve points) tank stocks inflow seconds).volume
volumes_within points tank stocks inflow seconds vessel =
    contents_within (pos missed_stock_ticks) (Curve points) tank stocks inflow seconds (omega (arith, ints)) vessel
