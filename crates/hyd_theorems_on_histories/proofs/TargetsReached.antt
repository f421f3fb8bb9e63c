-- What the ends of a tank's intervals have reached, each history's tank has.
use Rattle.std.proofs.Common.{◌≡◌, ℕ, ◌<◌, ℤ, pos, ◌-ℤ◌, ◌+ℤ◌, ◌*ℤ◌, ◌≤ℤ◌, ◌<ℤ◌, refl, ap, subst, sym, arith, Bool}
use Rattle.std.proofs.Common.{true, false, ◌&&◌}
use Rattle.std.specs.Prelude.{if◌then◌else◌}
use Rattle.std.proofs.lemmas.Int.{ints}
use Rattle.hyd_num.proofs.Integers.{times_rises, one_times}
use Rattle.hyd_num.specs.Rational.{Rational, floor, ceiling}
use Rattle.hyd_net.specs.Curves.{volume_at}
use Rattle.hyd_spec.specs.ProgramTypes.{Tank}
use Rattle.hyd_spec.specs.WholeNumbers.{is_same_number}
use Rattle.hyd_spec.specs.Tank.{Walls, Cylinder, Curve, Stock, level_bounds, content_bounds, exact_content}
use Rattle.hyd_spec.specs.Tank.{is_at_maximum, is_at_minimum, reaches, watched_level, carried_level, has_reached}
use Rattle.hyd_spec_certificates.specs.Interval.{Interval}
use Rattle.hyd_spec_certificates.specs.Stocks.{Stocks, least_stock, greatest_stock, carried_levels, must_reach}
use Rattle.hyd_theorems_on_definitions.specs.LyingInIntervals.{LiesIn, StockLies}
use Rattle.hyd_theorems_on_definitions.specs.SoundTanks.{IsVessel}
use Rattle.hyd_lemmas.proofs.Integers.{floor_low, ceiling_high, max_is, min_is}
use Rattle.hyd_lemmas.proofs.BooleanTests.{le-from}
use Rattle.hyd_theorems_on_definitions.proofs.ValuesByContent.{above-from, below-from, lower-is, upper-is}
use Rattle.hyd_theorems_on_definitions.proofs.StocksInIntervals.{exact-some, carried_lies}
use Rattle.hyd_theorems_on_definitions.proofs.DecidedByEnds.{must_reached}

-- ---- bounds

same-number : (a : ℤ) → is_same_number a a ≡ true
same-number a = let l = le-from a a (omega (arith, ints)) in λ i. l i && l i

-- a tank has reached its maximum from below when its content has reached that of the maximum
pub reaches_maximum : (S : ℕ) (walls : Walls) (tank : Tank) (stock : Stock) (q : ℤ) (seconds : ℕ)
    → has_reached S walls tank stock q true tank.maximum seconds ≡ is_at_maximum S (content_bounds walls tank)
    (exact_content walls stock q seconds)
reaches_maximum S (Cylinder area) tank stock q seconds = refl
reaches_maximum S (Curve points) tank stock q seconds =
    ap (λ (b : Bool). if b then reaches S true (volume_at points tank.maximum)
    (exact_content (Curve points) stock q seconds)
    else reaches S true tank.maximum (watched_level S (Curve points) tank stock q seconds)) (same-number tank.maximum)

-- and its minimum from above when its content has reached that of the minimum
pub reaches_minimum : (S : ℕ) (walls : Walls) (tank : Tank) (stock : Stock) (q : ℤ) (seconds : ℕ)
    → has_reached S walls tank stock q false tank.minimum seconds ≡ is_at_minimum S (content_bounds walls tank)
    (exact_content walls stock q seconds)
reaches_minimum S (Cylinder area) tank stock q seconds = refl
reaches_minimum S (Curve points) tank stock q seconds =
    ap (λ (b : Bool). if b then reaches S false (volume_at points tank.minimum)
    (exact_content (Curve points) stock q seconds)
    else reaches S false tank.minimum (watched_level S (Curve points) tank stock q seconds)) (same-number tank.minimum)

-- ---- a cylinder whose carried interval has reached a target inside its bounds

above-one : (t : ℤ) (x : Rational) → (pos x.den *ℤ t) ≤ℤ x.num → reaches 1 true t x ≡ true
above-one t x h = above-from 1 t x (subst (λ (z : ℤ). (pos x.den *ℤ z) ≤ℤ x.num) (sym (one_times t)) h)

below-one : (t : ℤ) (x : Rational) → x.num ≤ℤ (pos x.den *ℤ t) → reaches 1 false t x ≡ true
below-one t x h = below-from 1 t x (subst (λ (z : ℤ). x.num ≤ℤ (pos x.den *ℤ z)) (sym (one_times t)) h)

rises-to : (area : ℕ) (tank : Tank) (stocks : Stocks) (inflow : Interval) (target : ℤ) (seconds : ℕ)
    → IsVessel (Cylinder area) tank → tank.minimum <ℤ target
    → target ≤ℤ (carried_levels (Cylinder area) tank stocks inflow seconds).lo
    → must_reach (Cylinder area) tank stocks inflow target true seconds ≡ true
rises-to area tank stocks inflow target seconds vessel over reached =
    let x = exact_content (Cylinder area) (least_stock stocks) inflow.lo seconds in
    let above : 0 < x.den = exact-some (Cylinder area) (least_stock stocks) inflow.lo seconds vessel.holds_water in
    above-one target x (lower-is (λ z. target ≤ℤ z → (pos x.den *ℤ target) ≤ℤ x.num) (level_bounds tank)
    (level_bounds tank) x x (pos 0)
    (λ f h. let a = times_rises x.den target tank.maximum h in omega (arith, ints, a, f))
    (λ f e h. absurd (omega (arith, ints, h, over)))
    (λ f e. max_is (λ z. target ≤ℤ z → (pos x.den *ℤ target) ≤ℤ x.num) tank.minimum (floor x -ℤ pos 0)
    (λ g h. absurd (omega (arith, ints, h, over)))
    (λ g h. let a = times_rises x.den target (floor x) (omega (arith, ints, h)) in let b = floor_low x above in
    omega (arith, ints, a, b))) reached)

falls-to : (area : ℕ) (tank : Tank) (stocks : Stocks) (inflow : Interval) (target : ℤ) (seconds : ℕ)
    → IsVessel (Cylinder area) tank → target <ℤ tank.maximum
    → (carried_levels (Cylinder area) tank stocks inflow seconds).hi ≤ℤ target
    → must_reach (Cylinder area) tank stocks inflow target false seconds ≡ true
falls-to area tank stocks inflow target seconds vessel under reached =
    let x = exact_content (Cylinder area) (greatest_stock stocks) inflow.hi seconds in
    let above : 0 < x.den = exact-some (Cylinder area) (greatest_stock stocks) inflow.hi seconds vessel.holds_water in
    below-one target x (upper-is (λ z. z ≤ℤ target → x.num ≤ℤ (pos x.den *ℤ target)) (level_bounds tank)
    (level_bounds tank) x x (pos 0)
    (λ f h. absurd (omega (arith, ints, h, under)))
    (λ f e h. let a = times_rises x.den tank.minimum target h in omega (arith, ints, a, e))
    (λ f e. min_is (λ z. z ≤ℤ target → x.num ≤ℤ (pos x.den *ℤ target)) tank.maximum (ceiling x +ℤ pos 0)
    (λ g h. absurd (omega (arith, ints, h, under)))
    (λ g h. let a = times_rises x.den (ceiling x) target (omega (arith, ints, h)) in let b = ceiling_high x above in
    omega (arith, ints, a, b))) reached)

-- ---- every tank

-- where the whole interval of carried levels has come up to a target above the minimum, the watched level has
pub watched_above : (S : ℕ) (walls : Walls) (tank : Tank) (stocks : Stocks) (inflow : Interval) (target : ℤ)
    (seconds : ℕ) (stock : Stock) (q : ℤ) → 0 < S → IsVessel walls tank
    → StockLies S stocks stock → LiesIn S inflow q → tank.minimum <ℤ target
    → target ≤ℤ (carried_levels walls tank stocks inflow seconds).lo
    → reaches S true target (watched_level S walls tank stock q seconds) ≡ true
watched_above S (Cylinder area) tank stocks inflow target seconds stock q some vessel at flow over reached =
    must_reached S (Cylinder area) tank stocks inflow target true seconds stock q some vessel at flow
    (rises-to area tank stocks inflow target seconds vessel over reached)
watched_above S (Curve points) tank stocks inflow target seconds stock q some vessel at flow over reached =
    let x = carried_level S (Curve points) tank stock q seconds in
    let l = (carried_lies S (Curve points) stocks inflow seconds stock q at flow tank some vessel).low in
    let lo = (carried_levels (Curve points) tank stocks inflow seconds).lo in
    above-from S target x (let a = times_rises x.den (pos S *ℤ target) (pos S *ℤ lo) (times_rises S target lo reached)
    in omega (arith, ints, a, l))

-- where it has come down to a target below the maximum, the watched level has
pub watched_below : (S : ℕ) (walls : Walls) (tank : Tank) (stocks : Stocks) (inflow : Interval) (target : ℤ)
    (seconds : ℕ) (stock : Stock) (q : ℤ) → 0 < S → IsVessel walls tank
    → StockLies S stocks stock → LiesIn S inflow q → target <ℤ tank.maximum
    → (carried_levels walls tank stocks inflow seconds).hi ≤ℤ target
    → reaches S false target (watched_level S walls tank stock q seconds) ≡ true
watched_below S (Cylinder area) tank stocks inflow target seconds stock q some vessel at flow under reached =
    must_reached S (Cylinder area) tank stocks inflow target false seconds stock q some vessel at flow
    (falls-to area tank stocks inflow target seconds vessel under reached)
watched_below S (Curve points) tank stocks inflow target seconds stock q some vessel at flow under reached =
    let x = carried_level S (Curve points) tank stock q seconds in
    let h = (carried_lies S (Curve points) stocks inflow seconds stock q at flow tank some vessel).high in
    let hi = (carried_levels (Curve points) tank stocks inflow seconds).hi in
    below-from S target x (let a = times_rises x.den (pos S *ℤ hi) (pos S *ℤ target) (times_rises S hi target reached)
    in omega (arith, ints, a, h))
