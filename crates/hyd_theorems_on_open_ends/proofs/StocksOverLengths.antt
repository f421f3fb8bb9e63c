-- Stock intervals over lengths hold the stocks that every history may have, after the cut by what has just been
-- reached, and where it keeps what it reaches.
use Rattle.std.proofs.Common.{◌≡◌, ℕ, ◌<◌, ◌≤◌, ℤ, pos, ◌+ℤ◌, ◌*ℤ◌, ◌≤ℤ◌, ◌<ℤ◌, refl, ap, ◌∙◌}
use Rattle.std.proofs.Common.{arith}
use Rattle.std.proofs.Common.{Bool, true, false, List, [], ◌∷◌, ◌⊎◌, inl, inr, ◌&&◌, ◌==◌}
use Rattle.std.specs.Prelude.{Option, Some, None, Contains}
use Rattle.std.specs.Int.{int_max, int_min}
use Rattle.std.proofs.lemmas.Int.{ints}
use Rattle.std.proofs.lemmas.Bool.{MatchBool-at_true, MatchBool-at_false, cases_Bool, cond_both, eqb-true}
use Rattle.hyd_num.proofs.Integers.{times_plus, times_rises, times_one, one_times}
use Rattle.hyd_num.specs.Rational.{Rational, whole}
use Rattle.hyd_spec.specs.ProgramTypes.{Tank, VolumePoint, Control, When, AtLevel, AtTime, AtClock}
use Rattle.hyd_spec.specs.Scale.{missed_stock_ticks}
use Rattle.hyd_spec.specs.Tank.{Walls, Cylinder, Curve, Stock, level_bounds, content_bounds, exact_content, level_at}
use Rattle.hyd_spec.specs.Tank.{carried_level, IsNextContent, IsLevelAt, IsNextStock, reaches}
use Rattle.hyd_spec.specs.Tank.{Bounds, IsPlaced, is_at_maximum, is_at_minimum}
use Rattle.hyd_spec_certificates.specs.Interval.{Interval}
use Rattle.hyd_spec_certificates.specs.Stocks.{Stocks, least_stock, greatest_stock, exact_least, exact_greatest}
use Rattle.hyd_spec_certificates.specs.Stocks.{lower_end, upper_end, lower_level, upper_level, contents_after}
use Rattle.hyd_spec_certificates.specs.Stocks.{carried_levels, levels_at}
use Rattle.hyd_spec_certificates.specs.ThreeValuedLogic.{is_yes, at_both_ends}
use Rattle.hyd_spec_certificates.specs.Decided.{control_truth}
use Rattle.hyd_spec_open_ends.specs.StocksOverLengths.{Arrival, hull, contents_over, carried_levels_over, cut_by}
use Rattle.hyd_spec_open_ends.specs.StocksOverLengths.{Ends, level_ends, content_ends, goal_stocks, least_content}
use Rattle.hyd_spec_open_ends.specs.StocksOverLengths.{greatest_content, cut_where_reached}
use Rattle.hyd_spec_open_ends.specs.StocksOverLengths.{carried_at_end, contents_at_end, stocks_at_end}
use Rattle.hyd_spec_open_ends.specs.StocksOverLengths.{on_side, kept_when, kept}
use Rattle.hyd_theorems_on_definitions.specs.LyingInIntervals.{LiesIn, LiesAround, StockLies}
use Rattle.hyd_theorems_on_definitions.specs.SoundTanks.{IsVessel}
use Rattle.hyd_lemmas.proofs.Integers.{max_is, min_is, min_left, min_right, max_left, max_right}
use Rattle.hyd_lemmas.proofs.BooleanTests.{both-first, both-second}
use Rattle.hyd_theorems_on_definitions.proofs.ValuesAtTwoScales.{Leads}
use Rattle.hyd_theorems_on_definitions.proofs.ValuesByContent.{Fits, FitsAt, placed-low, placed-high, placed-some}
use Rattle.hyd_theorems_on_definitions.proofs.ValuesByContent.{next-low, next-high, above-yes, below-yes}
use Rattle.hyd_theorems_on_definitions.proofs.ValuesByContent.{above-from, below-from, lower-is, upper-is}
use Rattle.hyd_theorems_on_definitions.proofs.ValuesByContent.{placed-least, placed-most}
use Rattle.hyd_theorems_on_definitions.proofs.StocksInIntervals.{exact-some, level-fits, level-fits-at, level-leads}
use Rattle.hyd_theorems_on_histories.proofs.WatchedLevels.{contains-here, contains-later}
use Rattle.hyd_theorems_on_open_ends.proofs.ContentsOverLengths.{above, below}
use Rattle.hyd_theorems_on_open_ends.proofs.ContentsAtGoals.{IsLow, IsHigh}

-- ---- what has come

-- A content of whole ticks is at most the exact one, in S-th parts, or at or below the least of the tank; the exact one
-- is at most a content of whole ticks, or that is at or above the most.
abbrev pub IsFrom : ℕ → Walls → Tank → Rational → Rational → Type 0
IsFrom S walls tank y exact = Leads 1 S y exact ⊎ IsLow walls tank y

abbrev pub IsTo : ℕ → Walls → Tank → Rational → Rational → Type 0
IsTo S walls tank y exact = Leads S 1 exact y ⊎ IsHigh walls tank y

-- The exact content of a tank, in S-th parts, has come to a level that was reached from below or above, and where it
-- had not a second before, it is one second of inflow beyond it at most.
pub data HasCome (S : ℕ) (walls : Walls) (tank : Tank) (inflow : Interval) (exact : Rational) : Arrival → Type 0 where
  from_below : (target : ℤ) (not_before : Bool)
      → IsFrom S walls tank (least_content walls (goal_stocks walls tank true target)) exact
      → (not_before ≡ true
      → Leads S 1 exact (exact_greatest walls (goal_stocks walls tank true target) inflow 1))
      → HasCome S walls tank inflow exact (record { target = target; rising = true; not_before = not_before })
  from_above : (target : ℤ) (not_before : Bool)
      → IsTo S walls tank (greatest_content walls (goal_stocks walls tank false target)) exact
      → (not_before ≡ true
      → Leads 1 S (exact_least walls (goal_stocks walls tank false target) inflow 1) exact)
      → HasCome S walls tank inflow exact (record { target = target; rising = false; not_before = not_before })

-- ---- both ends of an interval

record Holds (Above Below : ℤ → Type 0) (x : Interval) : Type 0 where
  low : Above x.lo
  high : Below x.hi

-- what is above a number is above each lesser one, and what is below one below each greater
record IsOrder (Above Below : ℤ → Type 0) : Type 0 where
  lesser : (a b : ℤ) → a ≤ℤ b → Above b → Above a
  greater : (a b : ℤ) → a ≤ℤ b → Below a → Below b

hull-holds : (Above Below : ℤ → Type 0) → IsOrder Above Below → (x y : Interval) → Above x.lo ⊎ Above y.lo
    → Below x.hi ⊎ Below y.hi
    → Holds Above Below (hull x y)
hull-holds Above Below order x y low high = record {
  low = elim low [
    | inl a ↦ order.lesser (int_min x.lo y.lo) x.lo (min_left x.lo y.lo) a
    | inr b ↦ order.lesser (int_min x.lo y.lo) y.lo (min_right x.lo y.lo) b
  ];
  high = elim high [
    | inl a ↦ order.greater x.hi (int_max x.hi y.hi) (max_left x.hi y.hi) a
    | inr b ↦ order.greater y.hi (int_max x.hi y.hi) (max_right x.hi y.hi) b
  ];
}

-- an exact content between ends that go with contents
record GoesWith (S : ℕ) (walls : Walls) (tank : Tank) (ends : Ends) (exact : Rational) (Above Below : ℤ → Type 0) :
    Type 0 where
  vessel : IsVessel walls tank
  low : (y : Rational) → 0 < y.den → IsFrom S walls tank y exact → Above (ends.lower y)
  high : (y : Rational) → 0 < y.den → IsTo S walls tank y exact → Below (ends.upper y)

-- where a level has been reached, the cut holds what the interval held
cut-holds : (S : ℕ) (walls : Walls) (tank : Tank) (inflow : Interval) (ends : Ends) (exact : Rational)
    (Above Below : ℤ → Type 0) → GoesWith S walls tank ends exact Above Below → (arrival : Arrival)
    → HasCome S walls tank inflow exact arrival → (levels : Interval) → Holds Above Below levels
    → Holds Above Below (cut_by ends walls tank inflow arrival levels)
cut-holds S walls tank inflow ends exact Above Below goes _ (from_below target not_before now passed) levels holds =
    let goal = goal_stocks walls tank true target in
    record {
      low = max_is Above levels.lo (ends.lower (least_content walls goal))
          (λ e. holds.low) (λ e. goes.low (least_content walls goal)
          (exact-some walls (least_stock goal) (pos 0) 0 goes.vessel.holds_water) now);
      high = cond_both not_before (int_min levels.hi (ends.upper (exact_greatest walls goal inflow 1))) levels.hi Below
          (λ e. min_is Below levels.hi (ends.upper (exact_greatest walls goal inflow 1))
          (λ f. holds.high) (λ f. goes.high (exact_greatest walls goal inflow 1)
          (exact-some walls (greatest_stock goal) inflow.hi 1 goes.vessel.holds_water) (inl (passed e))))
          (λ e. holds.high);
    }
cut-holds S walls tank inflow ends exact Above Below goes _ (from_above target not_before now passed) levels holds =
    let goal = goal_stocks walls tank false target in
    record {
      low = cond_both not_before (int_max levels.lo (ends.lower (exact_least walls goal inflow 1))) levels.lo Above
          (λ e. max_is Above levels.lo (ends.lower (exact_least walls goal inflow 1))
          (λ f. holds.low) (λ f. goes.low (exact_least walls goal inflow 1)
          (exact-some walls (least_stock goal) inflow.lo 1 goes.vessel.holds_water) (inl (passed e))))
          (λ e. holds.low);
      high = min_is Below levels.hi (ends.upper (greatest_content walls goal))
          (λ e. holds.high) (λ e. goes.high (greatest_content walls goal)
          (exact-some walls (greatest_stock goal) (pos 0) 0 goes.vessel.holds_water) now);
    }

where-holds : (S : ℕ) (walls : Walls) (tank : Tank) (inflow : Interval) (ends : Ends) (exact : Rational)
    (Above Below : ℤ → Type 0) → GoesWith S walls tank ends exact Above Below → (arrival : Option Arrival)
    → ((one : Arrival) → arrival ≡ Some one → HasCome S walls tank inflow exact one) → (levels : Interval)
    → Holds Above Below levels → Holds Above Below (cut_where_reached ends walls tank inflow arrival levels)
where-holds S walls tank inflow ends exact Above Below goes None came levels holds = holds
where-holds S walls tank inflow ends exact Above Below goes (Some one) came levels holds =
    cut-holds S walls tank inflow ends exact Above Below goes one (came one refl) levels holds

-- ---- what goes with one content

pub content-fits : (walls : Walls) (tank : Tank) (x : Rational) → IsVessel walls tank → 0 < x.den
    → Fits (content_bounds walls tank) (content_bounds walls tank) x x
content-fits walls tank x vessel some = record {
  some = some;
  value_some = some;
  order = vessel.contents_ordered;
  below_most = λ h. omega (arith, ints, h);
  above_least = λ h. omega (arith, ints, h);
}

self-fits-at : (S : ℕ) (bounds : Bounds) (x : Rational) → 0 < x.den → FitsAt S bounds bounds x x
self-fits-at S bounds x some = record {
  some = some;
  value_some = some;
  below_most = λ h. omega (arith, ints, h);
  above_least = λ h. omega (arith, ints, h);
}

-- a value at scale S, of whole ticks from below and above
abbrev Over : ℕ → Rational → ℤ → Type 0
Over S c z = (pos c.den *ℤ (pos S *ℤ z)) ≤ℤ c.num

abbrev Under : ℕ → Rational → ℤ → Type 0
Under S c z = c.num ≤ℤ (pos c.den *ℤ (pos S *ℤ z))

value-order : (S : ℕ) (c : Rational) → IsOrder (Over S c) (Under S c)
value-order S c = record {
  lesser = λ a b le h. let p = times_rises c.den (pos S *ℤ a) (pos S *ℤ b) (times_rises S a b le) in
      omega (arith, ints, p, h);
  greater = λ a b le h. let p = times_rises c.den (pos S *ℤ a) (pos S *ℤ b) (times_rises S a b le) in
      omega (arith, ints, p, h);
}

abbrev At : ℕ → ℤ → ℤ → Type 0
At S next z = (pos S *ℤ z) ≤ℤ next

abbrev To : ℕ → ℤ → ℤ → Type 0
To S next z = next ≤ℤ (pos S *ℤ z)

number-order : (S : ℕ) (next : ℤ) → IsOrder (At S next) (To S next)
number-order S next = record {
  lesser = λ a b le h. let p = times_rises S a b le in omega (arith, ints, p, h);
  greater = λ a b le h. let p = times_rises S a b le in omega (arith, ints, p, h);
}

-- a content at or below the least isn't at or above the most
not-both : {contents : Bounds} (y : Rational) → 0 < y.den → contents.least <ℤ contents.most
    → y.num ≤ℤ (pos y.den *ℤ contents.least) → (pos y.den *ℤ contents.most) ≤ℤ y.num → ⊥
not-both {contents} y some apart low high =
    let a = times_rises y.den (contents.least +ℤ pos 1) contents.most (omega (arith, ints, apart)) in
    omega (arith, ints, low, high, a, some, times_plus y.den contents.least (pos 1), times_one y.den)

-- what is placed in a range lies in it
placed-within : (S : ℕ) (contents range : Bounds) (x inside : Rational) (next : ℤ) → range.least ≤ℤ range.most
    → IsPlaced S contents range x inside next
    → LiesIn S (record { lo = range.least; hi = range.most }) next
placed-within S contents range x inside next order is = elim (cases_Bool (is_at_maximum S contents x)) [
  | inl full ↦
      let e = MatchBool-at_true _ _ full is in
      let l = times_rises S range.least range.most order in
      record { low = omega (arith, ints, e, l); high = omega (arith, ints, e) }
  | inr less ↦
      let rest = MatchBool-at_false _ _ less is in
      elim (cases_Bool (is_at_minimum S contents x)) [
        | inl empty ↦
            let e = MatchBool-at_true _ _ empty rest in
            let l = times_rises S range.least range.most order in
            record { low = omega (arith, ints, e); high = omega (arith, ints, e, l) }
        | inr more ↦
            let near = MatchBool-at_false _ _ more rest in
            record { low = near.above_least; high = near.below_most }
      ]
]

module _ (S : ℕ) (walls : Walls) (tank : Tank) (stock : Stock) (q : ℤ) (length : ℕ) (some : 0 < S)
    (vessel : IsVessel walls tank) where
  abbrev exact : Rational
  exact = exact_content walls stock q length

  there : 0 < exact.den
  there = exact-some walls stock q length vessel.holds_water

  -- the carried level from the end of a lesser content on, and up to that of a greater one
  carried-from : (y : Rational) → 0 < y.den → Leads 1 S y exact
      → Over S (carried_level S walls tank stock q length) (lower_level walls tank y (pos 0))
  carried-from y y-some leads =
      placed-low S (content_bounds walls tank) (level_bounds tank) y exact (level_at 1 walls tank y)
      (level_at S walls tank exact) some (level-fits walls tank y vessel y-some)
      (level-fits-at S walls tank exact vessel there) leads
      (level-leads 1 S walls tank y exact vessel (omega arith) some y-some there leads)

  carried-to : (y : Rational) → 0 < y.den → Leads S 1 exact y
      → Under S (carried_level S walls tank stock q length) (upper_level walls tank y (pos 0))
  carried-to y y-some leads =
      placed-high S (content_bounds walls tank) (level_bounds tank) y exact (level_at 1 walls tank y)
      (level_at S walls tank exact) some (level-fits walls tank y vessel y-some)
      (level-fits-at S walls tank exact vessel there) leads
      (level-leads S 1 walls tank exact y vessel some (omega arith) there y-some leads)

  -- also where the lesser is at or below the least of the tank, or the greater at or above the most
  carried-over : (y : Rational) → 0 < y.den → IsFrom S walls tank y exact
      → Over S (carried_level S walls tank stock q length) (lower_level walls tank y (pos 0))
  carried-over y y-some (inl leads) = carried-from y y-some leads
  carried-over y y-some (inr low) =
      let c = carried_level S walls tank stock q length in
      lower-is (Over S c) (content_bounds walls tank) (level_bounds tank) y (level_at 1 walls tank y) (pos 0)
      (λ h. absurd (not-both y y-some low.apart low.low h))
      (λ h l. placed-least S (content_bounds walls tank) (level_bounds tank) exact (level_at S walls tank exact)
      vessel.ordered (level-fits-at S walls tank exact vessel there))
      (λ h l. absurd (let below = low.low in omega (arith, ints, below, l)))

  carried-under : (y : Rational) → 0 < y.den → IsTo S walls tank y exact
      → Under S (carried_level S walls tank stock q length) (upper_level walls tank y (pos 0))
  carried-under y y-some (inl leads) = carried-to y y-some leads
  carried-under y y-some (inr high) =
      let c = carried_level S walls tank stock q length in
      upper-is (Under S c) (content_bounds walls tank) (level_bounds tank) y (level_at 1 walls tank y) (pos 0)
      (λ h. placed-most S (content_bounds walls tank) (level_bounds tank) exact (level_at S walls tank exact)
      vessel.ordered (level-fits-at S walls tank exact vessel there))
      (λ h l. absurd (let over = high.high in omega (arith, ints, over, h)))
      (λ h l. absurd (let over = high.high in omega (arith, ints, over, h)))

  carried-there : 0 < (carried_level S walls tank stock q length).den
  carried-there = placed-some S (content_bounds walls tank) (level_bounds tank) exact (level_at S walls tank exact)
      (level-fits-at S walls tank exact vessel there).value_some

  -- the next content
  module _ (next : ℤ) (is : IsNextContent S walls tank stock q length next) where
    next-from : (y : Rational) → 0 < y.den → Leads 1 S y exact
        → At S next (lower_end (content_bounds walls tank) (content_bounds walls tank) y y (pos missed_stock_ticks))
    next-from y y-some leads =
        next-low S (content_bounds walls tank) (content_bounds walls tank) y exact y exact some
        (content-fits walls tank y vessel y-some) (self-fits-at S (content_bounds walls tank) exact there)
        leads leads next is

    next-to : (y : Rational) → 0 < y.den → Leads S 1 exact y
        → To S next (upper_end (content_bounds walls tank) (content_bounds walls tank) y y (pos missed_stock_ticks))
    next-to y y-some leads =
        next-high S (content_bounds walls tank) (content_bounds walls tank) y exact y exact some
        (content-fits walls tank y vessel y-some) (self-fits-at S (content_bounds walls tank) exact there)
        leads leads next is

    next-over : (y : Rational) → 0 < y.den → IsFrom S walls tank y exact
        → At S next (lower_end (content_bounds walls tank) (content_bounds walls tank) y y (pos missed_stock_ticks))
    next-over y y-some (inl leads) = next-from y y-some leads
    next-over y y-some (inr low) =
        let bounds = content_bounds walls tank in
        lower-is (At S next) bounds bounds y y (pos missed_stock_ticks)
        (λ h. absurd (not-both y y-some low.apart low.low h))
        (λ h l. (placed-within S bounds bounds exact exact next vessel.contents_ordered is).low)
        (λ h l. absurd (let below = low.low in omega (arith, ints, below, l)))

    next-under : (y : Rational) → 0 < y.den → IsTo S walls tank y exact
        → To S next (upper_end (content_bounds walls tank) (content_bounds walls tank) y y (pos missed_stock_ticks))
    next-under y y-some (inl leads) = next-to y y-some leads
    next-under y y-some (inr high) =
        let bounds = content_bounds walls tank in
        upper-is (To S next) bounds bounds y y (pos missed_stock_ticks)
        (λ h. (placed-within S bounds bounds exact exact next vessel.contents_ordered is).high)
        (λ h l. absurd (let over = high.high in omega (arith, ints, over, h)))
        (λ h l. absurd (let over = high.high in omega (arith, ints, over, h)))

-- ---- over lengths

module _ (S : ℕ) (walls : Walls) (tank : Tank) (stocks : Stocks) (inflow : Interval) (shortest length longest : ℕ)
    (stock : Stock) (q : ℤ) (some : 0 < S) (vessel : IsVessel walls tank) (lies : StockLies S stocks stock)
    (flow : LiesIn S inflow q) (from : shortest ≤ length) (to : length ≤ longest) where
  least-there : (seconds : ℕ) → 0 < (exact_least walls stocks inflow seconds).den
  least-there seconds = exact-some walls (least_stock stocks) inflow.lo seconds vessel.holds_water

  greatest-there : (seconds : ℕ) → 0 < (exact_greatest walls stocks inflow seconds).den
  greatest-there seconds = exact-some walls (greatest_stock stocks) inflow.hi seconds vessel.holds_water

  abbrev carried : Rational
  carried = carried_level S walls tank stock q length

  carried-holds : Holds (Over S carried) (Under S carried)
      (carried_levels_over walls tank stocks inflow shortest longest)
  carried-holds =
      hull-holds (Over S carried) (Under S carried) (value-order S carried)
      (carried_levels walls tank stocks inflow shortest) (carried_levels walls tank stocks inflow longest)
      (elim (below S walls stocks inflow stock q shortest length longest lies flow from to) [
        | inl a ↦ inl (carried-from S walls tank stock q length some vessel
            (exact_least walls stocks inflow shortest) (least-there shortest) a)
        | inr b ↦ inr (carried-from S walls tank stock q length some vessel
            (exact_least walls stocks inflow longest) (least-there longest) b)
      ])
      (elim (above S walls stocks inflow stock q shortest length longest lies flow from to) [
        | inl a ↦ inl (carried-to S walls tank stock q length some vessel
            (exact_greatest walls stocks inflow shortest) (greatest-there shortest) a)
        | inr b ↦ inr (carried-to S walls tank stock q length some vessel
            (exact_greatest walls stocks inflow longest) (greatest-there longest) b)
      ])

  around : (x : Interval) → Holds (Over S carried) (Under S carried) x → LiesAround S x carried
  around x holds = record {
    some = carried-there S walls tank stock q length some vessel;
    low = holds.low;
    high = holds.high;
  }

  -- the carried level lies in the interval of carried levels over the lengths
  pub carried_over_lies : LiesAround S (carried_levels_over walls tank stocks inflow shortest longest) carried
  carried_over_lies = around (carried_levels_over walls tank stocks inflow shortest longest) carried-holds

  contents-hold : (next : ℤ) → IsNextContent S walls tank stock q length next
      → Holds (At S next) (To S next)
      (contents_over (pos missed_stock_ticks) walls tank stocks inflow shortest longest)
  contents-hold next is =
      hull-holds (At S next) (To S next) (number-order S next)
      (contents_after (pos missed_stock_ticks) walls tank stocks inflow shortest)
      (contents_after (pos missed_stock_ticks) walls tank stocks inflow longest)
      (elim (below S walls stocks inflow stock q shortest length longest lies flow from to) [
        | inl a ↦ inl (next-from S walls tank stock q length some vessel next is
            (exact_least walls stocks inflow shortest) (least-there shortest) a)
        | inr b ↦ inr (next-from S walls tank stock q length some vessel next is
            (exact_least walls stocks inflow longest) (least-there longest) b)
      ])
      (elim (above S walls stocks inflow stock q shortest length longest lies flow from to) [
        | inl a ↦ inl (next-to S walls tank stock q length some vessel next is
            (exact_greatest walls stocks inflow shortest) (greatest-there shortest) a)
        | inr b ↦ inr (next-to S walls tank stock q length some vessel next is
            (exact_greatest walls stocks inflow longest) (greatest-there longest) b)
      ])

-- ---- at the end

-- What has just been reached of a tank has come in a history.
abbrev pub AllHaveCome : ℕ → Walls → Tank → Interval → Stock → ℤ → ℕ → Option Arrival → Type 0
AllHaveCome S walls tank inflow stock q length arrival =
    (one : Arrival) → arrival ≡ Some one → HasCome S walls tank inflow (exact_content walls stock q length) one

-- the carried level lies in the interval at the end
pub carried_end_lies : (S : ℕ) (walls : Walls) (tank : Tank) (stocks : Stocks) (inflow : Interval)
    (shortest length longest : ℕ) (arrival : Option Arrival) (stock : Stock) (q : ℤ) → 0 < S → IsVessel walls tank
    → StockLies S stocks stock → LiesIn S inflow q → shortest ≤ length → length ≤ longest
    → AllHaveCome S walls tank inflow stock q length arrival
    → LiesAround S (carried_at_end walls tank stocks inflow shortest longest arrival)
    (carried_level S walls tank stock q length)
carried_end_lies S walls tank stocks inflow shortest length longest arrival stock q some vessel lies flow from to came =
    let c = carried_level S walls tank stock q length in
    around S walls tank stocks inflow shortest length longest stock q some vessel lies flow from to
    (carried_at_end walls tank stocks inflow shortest longest arrival)
    (where-holds S walls tank inflow (level_ends (pos 0) walls tank) (exact_content walls stock q length) (Over S c)
    (Under S c)
    (record {
      vessel = vessel;
      low = carried-over S walls tank stock q length some vessel;
      high = carried-under S walls tank stock q length some vessel;
    })
    arrival came (carried_levels_over walls tank stocks inflow shortest longest)
    (carried-holds S walls tank stocks inflow shortest length longest stock q some vessel lies flow from to))

lies-so : (S : ℕ) (x : Interval) (z : ℤ) → Holds (At S z) (To S z) x → LiesIn S x z
lies-so S x z holds = record { low = holds.low; high = holds.high }

-- the next content lies in the contents at the end
next_content_lies : (S : ℕ) (walls : Walls) (tank : Tank) (stocks : Stocks) (inflow : Interval)
    (shortest length longest : ℕ) (arrival : Option Arrival) (stock : Stock) (q next : ℤ) → 0 < S
    → IsVessel walls tank → StockLies S stocks stock → LiesIn S inflow q → shortest ≤ length → length ≤ longest
    → AllHaveCome S walls tank inflow stock q length arrival → IsNextContent S walls tank stock q length next
    → LiesIn S (contents_at_end walls tank stocks inflow shortest longest arrival) next
next_content_lies S walls tank stocks inflow shortest length longest arrival stock q next some vessel lies flow from to
    came content =
    lies-so S (contents_at_end walls tank stocks inflow shortest longest arrival) next
    (where-holds S walls tank inflow (content_ends (pos missed_stock_ticks) walls tank)
    (exact_content walls stock q length) (At S next) (To S next)
    (record {
      vessel = vessel;
      low = next-over S walls tank stock q length some vessel next content;
      high = next-under S walls tank stock q length some vessel next content;
    })
    arrival came (contents_over (pos missed_stock_ticks) walls tank stocks inflow shortest longest)
    (contents-hold S walls tank stocks inflow shortest length longest stock q some vessel lies flow from to next
    content))

-- the level that goes with a volume in an interval lies in the levels that go with the interval
levels-lie : (S : ℕ) (points : List VolumePoint) (tank : Tank) (volumes : Interval) (volume level : ℤ) → 0 < S
    → IsVessel (Curve points) tank → LiesIn S volumes volume
    → IsLevelAt S points tank volume level → LiesIn S (levels_at points tank volumes) level
levels-lie S points tank volumes volume level some vessel lies is =
    let least = whole volumes.lo in let greatest = whole volumes.hi in let exact = whole volume in
    let fits = level-fits-at S (Curve points) tank exact vessel (omega arith) in
    let under : Leads 1 S least exact = record {
      crossed = let a = lies.low in
          omega (arith, ints, a, one_times (pos S *ℤ volumes.lo), one_times volume, one_times (pos 1 *ℤ volume));
    } in
    let over : Leads S 1 exact greatest = record {
      crossed = let a = lies.high in
          omega (arith, ints, a, one_times (pos S *ℤ volumes.hi), one_times volume, one_times (pos 1 *ℤ volume));
    } in
    record {
      low = next-low S (content_bounds (Curve points) tank) (level_bounds tank) least exact
          (level_at 1 (Curve points) tank least) (level_at S (Curve points) tank exact) some
          (level-fits (Curve points) tank least vessel (omega arith)) fits under
          (level-leads 1 S (Curve points) tank least exact vessel (omega arith) some (omega arith) (omega arith)
          under) level is;
      high = next-high S (content_bounds (Curve points) tank) (level_bounds tank) greatest exact
          (level_at 1 (Curve points) tank greatest) (level_at S (Curve points) tank exact) some
          (level-fits (Curve points) tank greatest vessel (omega arith)) fits over
          (level-leads S 1 (Curve points) tank exact greatest vessel some (omega arith) (omega arith) (omega arith)
          over) level is;
    }

-- the next stock lies in the stocks at the end
pub next_end_lies : (S : ℕ) (walls : Walls) (tank : Tank) (stocks : Stocks) (inflow : Interval)
    (shortest length longest : ℕ) (arrival : Option Arrival) (stock : Stock) (q : ℤ) (next : Stock) → 0 < S
    → IsVessel walls tank
    → StockLies S stocks stock → LiesIn S inflow q → shortest ≤ length → length ≤ longest
    → AllHaveCome S walls tank inflow stock q length arrival → IsNextStock S walls tank stock q length next
    → StockLies S (stocks_at_end walls tank stocks inflow shortest longest arrival) next
next_end_lies S (Cylinder area) tank stocks inflow shortest length longest arrival stock q next some vessel lies flow
    from to came so = record {
      level = next_content_lies S (Cylinder area) tank stocks inflow shortest length longest arrival stock q next.level
          some vessel lies flow from to came so.0;
      volume = let none = so.1 in record {
        low = omega (arith, ints, none, nothing S);
        high = omega (arith, ints, none, nothing S);
      };
    }
  where
    nothing : (n : ℕ) → pos n *ℤ pos 0 ≡ pos 0
    nothing n = omega (arith, ints)
next_end_lies S (Curve points) tank stocks inflow shortest length longest arrival stock q next some vessel lies flow
    from to came so =
    let volumes = contents_at_end (Curve points) tank stocks inflow shortest longest arrival in
    let lie = next_content_lies S (Curve points) tank stocks inflow shortest length longest arrival stock q next.volume
    some vessel lies flow from to came so.0 in
    record {
      level = levels-lie S points tank volumes next.volume next.level some vessel lie so.1;
      volume = lie;
    }

-- ---- what is kept

first-holds : (a b : Bool) → is_yes (at_both_ends a b) ≡ true → a ≡ true
first-holds true b e = refl
first-holds false true e = absurd (cc)
first-holds false false e = absurd (cc)

second-holds : (a b : Bool) → is_yes (at_both_ends a b) ≡ true → b ≡ true
second-holds true true e = refl
second-holds true false e = absurd (cc)
second-holds false true e = absurd (cc)
second-holds false false e = absurd (cc)

meets-above : (S : ℕ) (level : Interval) (x : Rational) (ticks : ℤ) → LiesAround S level x
    → is_yes (control_truth level true ticks) ≡ true → reaches S true ticks x ≡ true
meets-above S level x ticks lies met =
    let low = first-holds (reaches 1 true ticks (whole level.lo)) (reaches 1 true ticks (whole level.hi)) met in
    let le : ticks ≤ℤ level.lo = (let a = above-yes 1 ticks (whole level.lo) low in
    omega (arith, ints, a, one_times (pos 1 *ℤ ticks), one_times ticks)) in
    above-from S ticks x (let a = times_rises x.den (pos S *ℤ ticks) (pos S *ℤ level.lo)
    (times_rises S ticks level.lo le) in let b = lies.low in omega (arith, ints, a, b))

meets-below : (S : ℕ) (level : Interval) (x : Rational) (ticks : ℤ) → LiesAround S level x
    → is_yes (control_truth level false ticks) ≡ true → reaches S false ticks x ≡ true
meets-below S level x ticks lies met =
    let high = second-holds (reaches 1 false ticks (whole level.lo)) (reaches 1 false ticks (whole level.hi)) met in
    let le : level.hi ≤ℤ ticks = (let a = below-yes 1 ticks (whole level.hi) high in
    omega (arith, ints, a, one_times (pos 1 *ℤ ticks), one_times ticks)) in
    below-from S ticks x (let a = times_rises x.den (pos S *ℤ level.hi) (pos S *ℤ ticks)
    (times_rises S level.hi ticks le) in let b = lies.high in omega (arith, ints, a, b))

-- where the whole carried interval has met a level, the carried level has
pub carried_meets : (S : ℕ) (level : Interval) (x : Rational) (up : Bool) (ticks : ℤ) → LiesAround S level x
    → is_yes (control_truth level up ticks) ≡ true → reaches S up ticks x ≡ true
carried_meets S level x true ticks lies met = meets-above S level x ticks lies met
carried_meets S level x false ticks lies met = meets-below S level x ticks lies met

side-holds : (S : ℕ) (up : Bool) (ticks : ℤ) (levels : Interval) (z : ℤ) → LiesIn S levels z
    → reaches S up ticks (whole z) ≡ true → LiesIn S (on_side up ticks levels) z
side-holds S true ticks levels z lies met = record {
  low = max_is (λ m. (pos S *ℤ m) ≤ℤ z) ticks levels.lo
      (λ e. let a = above-yes S ticks (whole z) met in omega (arith, ints, a, one_times (pos S *ℤ ticks)))
      (λ e. lies.low);
  high = lies.high;
}
side-holds S false ticks levels z lies met = record {
  low = lies.low;
  high = min_is (λ m. z ≤ℤ (pos S *ℤ m)) ticks levels.hi
      (λ e. let a = below-yes S ticks (whole z) met in omega (arith, ints, a, one_times (pos S *ℤ ticks)))
      (λ e. lies.high);
}

-- a level that meets each level that its carried interval has met lies in what is kept
pub kept_lies : (S k : ℕ) (carried : Interval) (z : ℤ) (controls : List Control) (levels : Interval)
    → LiesIn S levels z
    → ((control : Control) (up : Bool) (ticks : ℤ) → Contains controls control → control.when ≡ AtLevel k up ticks
    → is_yes (control_truth carried up ticks) ≡ true → reaches S up ticks (whole z) ≡ true)
    → LiesIn S (kept controls k carried levels) z
kept_lies S k carried z [] levels lies met = lies
kept_lies S k carried z (control ∷ controls) levels lies met =
    kept_lies S k carried z controls (kept_when k carried control.when levels) (here control.when refl)
    (λ each up ticks contained is yes. met each up ticks (contains-later Control each control controls contained) is
    yes)
  where
    here : (w : When) → control.when ≡ w → LiesIn S (kept_when k carried w levels) z
    here (AtLevel tank up ticks) is =
        cond_both ((tank == k) && is_yes (control_truth carried up ticks)) (on_side up ticks levels) levels
        (λ x. LiesIn S x z)
        (λ e. side-holds S up ticks levels z lies (met control up ticks (contains-here Control control controls)
        (is ∙ ap (λ n. AtLevel n up ticks) (eqb-true tank k (both-first _ _ e))) (both-second _ _ e)))
        (λ e. lies)
    here (AtTime at) is = lies
    here (AtClock at) is = lies
