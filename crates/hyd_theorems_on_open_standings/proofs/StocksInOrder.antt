-- What the end of a period leaves of each tank's stocks lies within its bounds, and there is some stock in it, also
-- where it is cut by a level that has just been reached and where it keeps what has been reached.
use Rattle.std.proofs.Common.{◌≡◌, ℕ, ◌<◌, ◌≤◌, ℤ, pos, ◌+ℤ◌, ◌-ℤ◌, ◌*ℤ◌, ◌≤ℤ◌, ◌<ℤ◌, refl, arith, Bool, true}
use Rattle.std.proofs.Common.{false, ◌⊎◌, inl, inr}
use Rattle.std.specs.Prelude.{Option, Some, None, if◌then◌else◌}
use Rattle.std.specs.Int.{int_max, int_min}
use Rattle.std.proofs.lemmas.Int.{ints, clamps}
use Rattle.std.proofs.lemmas.Bool.{cond_both}
use Rattle.hyd_num.proofs.Integers.{times_plus, times_rises, times_one}
use Rattle.hyd_num.specs.Rational.{Rational, floor, ceiling}
use Rattle.hyd_spec.specs.ProgramTypes.{Tank}
use Rattle.hyd_spec.specs.Tank.{Walls, Stock, Bounds, level_bounds, content_bounds, exact_content, level_at}
use Rattle.hyd_spec.specs.Tank.{is_at_maximum, is_at_minimum}
use Rattle.hyd_spec_certificates.specs.Interval.{Interval}
use Rattle.hyd_spec_certificates.specs.Stocks.{Stocks, least_stock, greatest_stock, exact_least, exact_greatest}
use Rattle.hyd_spec_certificates.specs.Stocks.{lower_end, upper_end}
use Rattle.hyd_spec_open_ends.specs.StocksOverLengths.{Arrival, Ends, level_ends, content_ends, hull, goal_stocks}
use Rattle.hyd_spec_open_ends.specs.StocksOverLengths.{least_content, greatest_content, cut_by, cut_where_reached}
use Rattle.hyd_theorems_on_definitions.specs.LyingInIntervals.{LiesIn, StockLies, IsInside, IsWithin, HasStock}
use Rattle.hyd_theorems_on_definitions.specs.SoundTanks.{IsVessel}
use Rattle.hyd_theorems_on_definitions.proofs.ValuesAtTwoScales.{Leads}
use Rattle.hyd_theorems_on_definitions.proofs.ValuesByContent.{Fits, lower-least, lower-most, upper-least, upper-most}
use Rattle.hyd_theorems_on_definitions.proofs.ValuesByContent.{ends-ordered, lower-is, upper-is}
use Rattle.hyd_theorems_on_definitions.proofs.StocksInIntervals.{exact-some, level-fits, content-leads, content-up}
use Rattle.hyd_theorems_on_nesting.specs.Nesting.{IsOrdered}
use Rattle.hyd_theorems_on_nesting.proofs.InnerRecordsDecide.{lies-one}
use Rattle.hyd_theorems_on_open_ends.proofs.ContentsAtGoals.{IsLow, IsHigh}
use Rattle.hyd_theorems_on_open_ends.proofs.ContentsOverLengths.{above, below}
use Rattle.hyd_theorems_on_open_ends.proofs.NarrowerStocks.{AreRising, level_ends_rise, content_ends_rise}
use Rattle.hyd_theorems_on_open_ends.proofs.StocksOverLengths.{content-fits}

-- ---- two intervals

pub hull_within : (b : Bounds) (x y : Interval) → IsWithin b x → IsWithin b y → IsWithin b (hull x y)
hull_within b x y p q = record {
  lo_above = let l = p.lo_above in let m = q.lo_above in omega (arith, ints, clamps, l, m);
  lo_below = let l = p.lo_below in omega (arith, ints, clamps, l);
  hi_above = let l = p.hi_above in omega (arith, ints, clamps, l);
  hi_below = let l = p.hi_below in let m = q.hi_below in omega (arith, ints, clamps, l, m);
}

pub hull_inside : (a b x y : Interval) → IsInside a x → IsInside b y → IsInside (hull a b) (hull x y)
hull_inside a b x y p q = record {
  low = let l = p.low in let m = q.low in omega (arith, ints, clamps, l, m);
  high = let l = p.high in let m = q.high in omega (arith, ints, clamps, l, m);
}

pub hull_ordered : (x y : Interval) → IsOrdered x → IsOrdered (hull x y)
hull_ordered x y p = omega (arith, ints, clamps, p)

-- ---- ends that go with contents

-- Ends within a range: they rise with contents, the lower end of one is at most its upper end, and the ends of a
-- content at or beyond a bound of the tank are the range's.
pub record AreEnds (walls : Walls) (tank : Tank) (range : Bounds) (ends : Ends) : Type 0 where
  pub low_from : (x : Rational) → range.least ≤ℤ ends.lower x
  pub low_to : (x : Rational) → 0 < x.den → ends.lower x ≤ℤ range.most
  pub high_from : (x : Rational) → 0 < x.den → range.least ≤ℤ ends.upper x
  pub high_to : (x : Rational) → ends.upper x ≤ℤ range.most
  pub rising : AreRising ends
  pub meeting : (x : Rational) → 0 < x.den → ends.lower x ≤ℤ ends.upper x
  pub low_least : (x : Rational) → 0 < x.den → IsLow walls tank x → ends.lower x ≤ℤ range.least
  pub high_most : (x : Rational) → 0 < x.den → IsHigh walls tank x → range.most ≤ℤ ends.upper x

-- a content at or below the least isn't at or above the most
not-both : (contents : Bounds) (x : Rational) → 0 < x.den → contents.least <ℤ contents.most
    → x.num ≤ℤ (pos x.den *ℤ contents.least) → (pos x.den *ℤ contents.most) ≤ℤ x.num → ⊥
not-both contents x some apart low high =
    let a = times_rises x.den (contents.least +ℤ pos 1) contents.most (omega (arith, ints, apart)) in
    omega (arith, ints, low, high, a, some, times_plus x.den contents.least (pos 1), times_one x.den)

lower-at-least : (walls : Walls) (tank : Tank) (range : Bounds) (x value : Rational) (room : ℤ) → 0 < x.den
    → IsLow walls tank x → lower_end (content_bounds walls tank) range x value room ≤ℤ range.least
lower-at-least walls tank range x value room some is =
    lower-is (λ z. z ≤ℤ range.least) (content_bounds walls tank) range x value room
    (λ h. absurd (not-both (content_bounds walls tank) x some is.apart is.low h))
    (λ h l. omega (arith, ints))
    (λ h l. absurd (let a = is.low in omega (arith, ints, a, l)))

upper-at-most : (walls : Walls) (tank : Tank) (range : Bounds) (x value : Rational) (room : ℤ) → IsHigh walls tank x
    → range.most ≤ℤ upper_end (content_bounds walls tank) range x value room
upper-at-most walls tank range x value room is =
    upper-is (λ z. range.most ≤ℤ z) (content_bounds walls tank) range x value room
    (λ h. omega (arith, ints))
    (λ h l. absurd (let a = is.high in omega (arith, ints, a, h)))
    (λ h l. absurd (let a = is.high in omega (arith, ints, a, h)))

module _ (room : ℤ) (positive : pos 0 ≤ℤ room) (walls : Walls) (tank : Tank) (vessel : IsVessel walls tank) where
  pub level_ends_are : AreEnds walls tank (level_bounds tank) (level_ends room walls tank)
  level_ends_are = record {
    low_from = λ x. lower-least contents range x (level_at 1 walls tank x) room vessel.ordered;
    low_to = λ x some. lower-most contents range x (level_at 1 walls tank x) room positive (fits x some);
    high_from = λ x some. upper-least contents range x (level_at 1 walls tank x) room positive (fits x some);
    high_to = λ x. upper-most contents range x (level_at 1 walls tank x) room vessel.ordered;
    rising = level_ends_rise room positive walls tank vessel;
    meeting = λ x some. ends-ordered contents range x (level_at 1 walls tank x) room positive (fits x some);
    low_least = λ x some is. lower-at-least walls tank range x (level_at 1 walls tank x) room some is;
    high_most = λ x some is. upper-at-most walls tank range x (level_at 1 walls tank x) room is;
  }
    where
      contents : Bounds
      contents = content_bounds walls tank

      range : Bounds
      range = level_bounds tank

      fits : (x : Rational) → 0 < x.den → Fits contents range x (level_at 1 walls tank x)
      fits x some = level-fits walls tank x vessel some

  pub content_ends_are : AreEnds walls tank (content_bounds walls tank) (content_ends room walls tank)
  content_ends_are = record {
    low_from = λ x. lower-least contents contents x x room vessel.contents_ordered;
    low_to = λ x some. lower-most contents contents x x room positive (fits x some);
    high_from = λ x some. upper-least contents contents x x room positive (fits x some);
    high_to = λ x. upper-most contents contents x x room vessel.contents_ordered;
    rising = content_ends_rise room positive walls tank vessel;
    meeting = λ x some. ends-ordered contents contents x x room positive (fits x some);
    low_least = λ x some is. lower-at-least walls tank contents x x room some is;
    high_most = λ x some is. upper-at-most walls tank contents x x room is;
  }
    where
      contents : Bounds
      contents = content_bounds walls tank

      fits : (x : Rational) → 0 < x.den → Fits contents contents x x
      fits x some = content-fits walls tank x vessel some

-- Ends farther out: the lower ones no higher, the upper ones no lower.
pub record AreWider (ends wider : Ends) : Type 0 where
  pub low : (x : Rational) → wider.lower x ≤ℤ ends.lower x
  pub high : (x : Rational) → ends.upper x ≤ℤ wider.upper x

end-rises : (p q : Bool) (most least a b : ℤ) → a ≤ℤ b
    → (if p then most else if q then least else a) ≤ℤ (if p then most else if q then least else b)
end-rises true q most least a b le = omega (arith, ints)
end-rises false true most least a b le = omega (arith, ints)
end-rises false false most least a b le = le

-- a lower end moves down by a room, and an upper one up
pub less-low : (contents range : Bounds) (x value : Rational) (room : ℤ) → pos 0 ≤ℤ room
    → lower_end contents range x value room ≤ℤ lower_end contents range x value (pos 0)
less-low contents range x value room positive =
    end-rises (is_at_maximum 1 contents x) (is_at_minimum 1 contents x) range.most range.least
    (int_max range.least (floor value -ℤ room)) (int_max range.least (floor value -ℤ pos 0))
    (omega (arith, ints, clamps, positive))

pub more-high : (contents range : Bounds) (x value : Rational) (room : ℤ) → pos 0 ≤ℤ room
    → upper_end contents range x value (pos 0) ≤ℤ upper_end contents range x value room
more-high contents range x value room positive =
    end-rises (is_at_maximum 1 contents x) (is_at_minimum 1 contents x) range.most range.least
    (int_min range.most (ceiling value +ℤ pos 0)) (int_min range.most (ceiling value +ℤ room))
    (omega (arith, ints, clamps, positive))

pub level_ends_wider : (room : ℤ) → pos 0 ≤ℤ room → (walls : Walls) (tank : Tank)
    → AreWider (level_ends (pos 0) walls tank) (level_ends room walls tank)
level_ends_wider room positive walls tank = record {
  low = λ x. less-low (content_bounds walls tank) (level_bounds tank) x (level_at 1 walls tank x) room positive;
  high = λ x. more-high (content_bounds walls tank) (level_bounds tank) x (level_at 1 walls tank x) room positive;
}

-- ---- intervals between ends

-- between the ends that go with two contents
abbrev pub spanned : Ends → Rational → Rational → Interval
spanned ends x y = record { lo = ends.lower x; hi = ends.upper y }

pub spanned_inside : (ends wider : Ends) → AreWider ends wider → (x y : Rational)
    → IsInside (spanned ends x y) (spanned wider x y)
spanned_inside ends wider are x y = record { low = are.low x; high = are.high y }

module _ (walls : Walls) (tank : Tank) (vessel : IsVessel walls tank) (range : Bounds) (ends : Ends)
    (are : AreEnds walls tank range ends) where
  pub spanned_within : (x y : Rational) → 0 < x.den → 0 < y.den → IsWithin range (spanned ends x y)
  spanned_within x y some other = record {
    lo_above = are.low_from x;
    lo_below = are.low_to x some;
    hi_above = are.high_from y other;
    hi_below = are.high_to y;
  }

  pub spanned_ordered : (x y : Rational) → 0 < x.den → 0 < y.den → Leads 1 1 x y → IsOrdered (spanned ends x y)
  spanned_ordered x y some other leads =
      let a = are.rising.low x y some other leads in let b = are.meeting y other in omega (arith, ints, a, b)

  some-content : (stock : Stock) (q : ℤ) (s : ℕ) → 0 < (exact_content walls stock q s).den
  some-content stock q s = exact-some walls stock q s vessel.holds_water

  -- ---- over lengths

  module _ (stocks : Stocks) (inflow : Interval) where
    some-least : (s : ℕ) → 0 < (exact_least walls stocks inflow s).den
    some-least s = some-content (least_stock stocks) inflow.lo s

    some-greatest : (s : ℕ) → 0 < (exact_greatest walls stocks inflow s).den
    some-greatest s = some-content (greatest_stock stocks) inflow.hi s

    -- between the ends of the contents after a length, and over lengths
    abbrev spanned_after : ℕ → Interval
    spanned_after s = spanned ends (exact_least walls stocks inflow s) (exact_greatest walls stocks inflow s)

    abbrev spanned_over : ℕ → ℕ → Interval
    spanned_over shortest longest = hull (spanned_after shortest) (spanned_after longest)

    pub over_within : (shortest longest : ℕ) → IsWithin range (spanned_over shortest longest)
    over_within shortest longest =
        hull_within range (spanned_after shortest) (spanned_after longest)
        (spanned_within (exact_least walls stocks inflow shortest) (exact_greatest walls stocks inflow shortest)
        (some-least shortest) (some-greatest shortest))
        (spanned_within (exact_least walls stocks inflow longest) (exact_greatest walls stocks inflow longest)
        (some-least longest) (some-greatest longest))

    module _ (has : HasStock stocks) (flow : IsOrdered inflow) where
      least-below : (s : ℕ) → Leads 1 1 (exact_least walls stocks inflow s) (exact_greatest walls stocks inflow s)
      least-below s = content-leads 1 1 walls (least_stock stocks) (greatest_stock stocks) inflow.lo inflow.hi s
          (content-up walls (least_stock stocks) (greatest_stock stocks) has.level has.volume)
          (omega (arith, ints, flow))

      pub over_ordered : (shortest longest : ℕ) → IsOrdered (spanned_over shortest longest)
      over_ordered shortest longest =
          hull_ordered (spanned_after shortest) (spanned_after longest)
          (spanned_ordered _ _ (some-least shortest) (some-greatest shortest) (least-below shortest))

      -- ends that a length in between has
      greatest-lies : StockLies 1 stocks (greatest_stock stocks)
      greatest-lies = record {
        level = lies-one stocks.level stocks.level.hi has.level (omega (arith, ints));
        volume = lies-one stocks.volume stocks.volume.hi has.volume (omega (arith, ints));
      }

      least-lies : StockLies 1 stocks (least_stock stocks)
      least-lies = record {
        level = lies-one stocks.level stocks.level.lo (omega (arith, ints)) has.level;
        volume = lies-one stocks.volume stocks.volume.lo (omega (arith, ints)) has.volume;
      }

      high-flow : LiesIn 1 inflow inflow.hi
      high-flow = lies-one inflow inflow.hi flow (omega (arith, ints))

      low-flow : LiesIn 1 inflow inflow.lo
      low-flow = lies-one inflow inflow.lo (omega (arith, ints)) flow

      module _ (shortest s longest : ℕ) (from : shortest ≤ s) (to : s ≤ longest) where
        up-between : ends.upper (exact_greatest walls stocks inflow s) ≤ℤ (spanned_over shortest longest).hi
        up-between = elim (above 1 walls stocks inflow (greatest_stock stocks) inflow.hi shortest s longest
            greatest-lies high-flow from to) [
              | inl leads ↦
                  let a = are.rising.high _ _ (some-greatest s) (some-greatest shortest) leads in
                  omega (arith, ints, clamps, a)
              | inr leads ↦
                  let a = are.rising.high _ _ (some-greatest s) (some-greatest longest) leads in
                  omega (arith, ints, clamps, a)
            ]

        down-between : (spanned_over shortest longest).lo ≤ℤ ends.lower (exact_least walls stocks inflow s)
        down-between = elim (below 1 walls stocks inflow (least_stock stocks) inflow.lo shortest s longest
            least-lies low-flow from to) [
              | inl leads ↦
                  let a = are.rising.low _ _ (some-least shortest) (some-least s) leads in
                  omega (arith, ints, clamps, a)
              | inr leads ↦
                  let a = are.rising.low _ _ (some-least longest) (some-least s) leads in
                  omega (arith, ints, clamps, a)
            ]

-- ---- the cut

-- A level that has been reached may be come to: from below, the greatest content has come to it within the lengths, or
-- its goal is no more than the least; where it had not a second before the shortest, the content is a second's greatest
-- inflow beyond it at most then, and that inflow isn't away from it. From above so with the least.
pub data MayCome (walls : Walls) (tank : Tank) (stocks : Stocks) (inflow : Interval) (shortest longest : ℕ) : Arrival
    → Type 0 where
  from_below : (target : ℤ) (not_before : Bool) (s : ℕ) → shortest ≤ s → s ≤ longest
      → Leads 1 1 (least_content walls (goal_stocks walls tank true target)) (exact_greatest walls stocks inflow s)
      ⊎ IsLow walls tank (least_content walls (goal_stocks walls tank true target))
      → (not_before ≡ true
      → Leads 1 1 (exact_greatest walls stocks inflow shortest)
      (exact_greatest walls (goal_stocks walls tank true target) inflow 1)
      × Leads 1 1 (least_content walls (goal_stocks walls tank true target))
      (exact_greatest walls (goal_stocks walls tank true target) inflow 1))
      → MayCome walls tank stocks inflow shortest longest
      (record { target = target; rising = true; not_before = not_before })
  from_above : (target : ℤ) (not_before : Bool) (s : ℕ) → shortest ≤ s → s ≤ longest
      → Leads 1 1 (exact_least walls stocks inflow s) (greatest_content walls (goal_stocks walls tank false target))
      ⊎ IsHigh walls tank (greatest_content walls (goal_stocks walls tank false target))
      → (not_before ≡ true
      → Leads 1 1 (exact_least walls (goal_stocks walls tank false target) inflow 1)
      (exact_least walls stocks inflow shortest)
      × Leads 1 1 (exact_least walls (goal_stocks walls tank false target) inflow 1)
      (greatest_content walls (goal_stocks walls tank false target)))
      → MayCome walls tank stocks inflow shortest longest
      (record { target = target; rising = false; not_before = not_before })

module _ (walls : Walls) (tank : Tank) (vessel : IsVessel walls tank) (inflow : Interval) (range : Bounds) (ends : Ends)
    (are : AreEnds walls tank range ends) where
  there : (stock : Stock) (q : ℤ) (s : ℕ) → 0 < (exact_content walls stock q s).den
  there stock q s = exact-some walls stock q s vessel.holds_water

  -- the goal of a level
  abbrev goal : Bool → ℤ → Stocks
  goal rising target = goal_stocks walls tank rising target

  cut-one-within : (arrival : Arrival) (x : Interval) → IsWithin range x
      → IsWithin range (cut_by ends walls tank inflow arrival x)
  cut-one-within arrival x within = by-way arrival.rising arrival.target arrival.not_before
    where
      by-way : (rising : Bool) (target : ℤ) (not_before : Bool) → IsWithin range
          (cut_by ends walls tank inflow (record { target = target; rising = rising; not_before = not_before }) x)
      by-way true target not_before =
          let low = are.low_to (least_content walls (goal true target))
          (there (least_stock (goal true target)) (pos 0) 0) in
          let high = are.high_from (exact_greatest walls (goal true target) inflow 1)
          (there (greatest_stock (goal true target)) inflow.hi 1) in
          record {
            lo_above = let a = within.lo_above in omega (arith, ints, clamps, a);
            lo_below = let a = within.lo_below in omega (arith, ints, clamps, a, low);
            hi_above = cond_both not_before
                (int_min x.hi (ends.upper (exact_greatest walls (goal true target) inflow 1))) x.hi
                (λ z. range.least ≤ℤ z)
                (λ e. let a = within.hi_above in omega (arith, ints, clamps, a, high))
                (λ e. within.hi_above);
            hi_below = cond_both not_before
                (int_min x.hi (ends.upper (exact_greatest walls (goal true target) inflow 1))) x.hi
                (λ z. z ≤ℤ range.most)
                (λ e. let a = within.hi_below in omega (arith, ints, clamps, a))
                (λ e. within.hi_below);
          }
      by-way false target not_before =
          let low = are.low_to (exact_least walls (goal false target) inflow 1)
          (there (least_stock (goal false target)) inflow.lo 1) in
          let high = are.high_from (greatest_content walls (goal false target))
          (there (greatest_stock (goal false target)) (pos 0) 0) in
          record {
            lo_above = cond_both not_before
                (int_max x.lo (ends.lower (exact_least walls (goal false target) inflow 1))) x.lo
                (λ z. range.least ≤ℤ z)
                (λ e. let a = within.lo_above in omega (arith, ints, clamps, a))
                (λ e. within.lo_above);
            lo_below = cond_both not_before
                (int_max x.lo (ends.lower (exact_least walls (goal false target) inflow 1))) x.lo
                (λ z. z ≤ℤ range.most)
                (λ e. let a = within.lo_below in omega (arith, ints, clamps, a, low))
                (λ e. within.lo_below);
            hi_above = let a = within.hi_above in omega (arith, ints, clamps, a, high);
            hi_below = let a = within.hi_below in omega (arith, ints, clamps, a);
          }

  pub cut_within : (arrival : Option Arrival) (x : Interval) → IsWithin range x
      → IsWithin range (cut_where_reached ends walls tank inflow arrival x)
  cut_within None x within = within
  cut_within (Some arrival) x within = cut-one-within arrival x within

  -- where the level may be come to, the cut leaves an interval
  module _ (stocks : Stocks) (has : HasStock stocks) (flow : IsOrdered inflow) (shortest longest : ℕ) where
    abbrev whole-interval : Interval
    whole-interval = spanned_over walls tank vessel range ends are stocks inflow shortest longest

    low-to-high : (x y : Rational) → 0 < x.den → 0 < y.den → Leads 1 1 x y ⊎ IsLow walls tank x
        → ends.lower x ≤ℤ ends.upper y
    low-to-high x y some other (inl leads) = spanned_ordered walls tank vessel range ends are x y some other leads
    low-to-high x y some other (inr low) =
        let a = are.low_least x some low in let b = are.high_from y other in omega (arith, ints, a, b)

    low-to-most : (x y : Rational) → 0 < x.den → 0 < y.den → Leads 1 1 x y ⊎ IsHigh walls tank y
        → ends.lower x ≤ℤ ends.upper y
    low-to-most x y some other (inl leads) = spanned_ordered walls tank vessel range ends are x y some other leads
    low-to-most x y some other (inr high) =
        let a = are.high_most y other high in let b = are.low_to x some in omega (arith, ints, a, b)

    cut-ordered : (arrival : Arrival) → MayCome walls tank stocks inflow shortest longest arrival
        → IsOrdered (cut_by ends walls tank inflow arrival whole-interval)
    cut-ordered _ (from_below target not_before s from to come passed) =
        let reached = least_content walls (goal true target) in
        let later = exact_greatest walls (goal true target) inflow 1 in
        let reached-some = there (least_stock (goal true target)) (pos 0) 0 in
        let later-some = there (greatest_stock (goal true target)) inflow.hi 1 in
        let c = ends.lower reached in
        let a = over_ordered walls tank vessel range ends are stocks inflow has flow shortest longest in
        let b = low-to-high reached (exact_greatest walls stocks inflow s) reached-some
        (some-greatest walls tank vessel range ends are stocks inflow s) come in
        let d = up-between walls tank vessel range ends are stocks inflow has flow shortest s longest from to in
        cond_both not_before (int_min whole-interval.hi (ends.upper later)) whole-interval.hi
        (λ z. int_max whole-interval.lo c ≤ℤ z)
        (λ e.
        let p = passed e in
        let f = spanned_ordered walls tank vessel range ends are reached later reached-some later-some p.1 in
        let g = spanned_ordered walls tank vessel range ends are _ _
        (some-least walls tank vessel range ends are stocks inflow shortest)
        (some-greatest walls tank vessel range ends are stocks inflow shortest)
        (least-below walls tank vessel range ends are stocks inflow has flow shortest) in
        let h = are.rising.high _ later (some-greatest walls tank vessel range ends are stocks inflow shortest)
        later-some p.0 in
        omega (arith, ints, clamps, a, b, d, f, g, h))
        (λ e. omega (arith, ints, clamps, a, b, d))
    cut-ordered _ (from_above target not_before s from to come passed) =
        let reached = greatest_content walls (goal false target) in
        let later = exact_least walls (goal false target) inflow 1 in
        let reached-some = there (greatest_stock (goal false target)) (pos 0) 0 in
        let later-some = there (least_stock (goal false target)) inflow.lo 1 in
        let c = ends.upper reached in
        let a = over_ordered walls tank vessel range ends are stocks inflow has flow shortest longest in
        let b = low-to-most (exact_least walls stocks inflow s) reached
        (some-least walls tank vessel range ends are stocks inflow s) reached-some come in
        let d = down-between walls tank vessel range ends are stocks inflow has flow shortest s longest from to in
        cond_both not_before (int_max whole-interval.lo (ends.lower later)) whole-interval.lo
        (λ z. z ≤ℤ int_min whole-interval.hi c)
        (λ e.
        let p = passed e in
        let f = spanned_ordered walls tank vessel range ends are later reached later-some reached-some p.1 in
        let g = spanned_ordered walls tank vessel range ends are _ _
        (some-least walls tank vessel range ends are stocks inflow shortest)
        (some-greatest walls tank vessel range ends are stocks inflow shortest)
        (least-below walls tank vessel range ends are stocks inflow has flow shortest) in
        let h = are.rising.low later _ later-some (some-least walls tank vessel range ends are stocks inflow shortest)
        p.0 in
        omega (arith, ints, clamps, a, b, d, f, g, h))
        (λ e. omega (arith, ints, clamps, a, b, d))

    pub cut_ordered : (arrival : Option Arrival)
        → ((one : Arrival) → arrival ≡ Some one → MayCome walls tank stocks inflow shortest longest one)
        → IsOrdered (cut_where_reached ends walls tank inflow arrival whole-interval)
    cut_ordered None come = over_ordered walls tank vessel range ends are stocks inflow has flow shortest longest
    cut_ordered (Some one) come = cut-ordered one (come one refl)

-- ---- cuts inside others

module _ (walls : Walls) (tank : Tank) (inflow : Interval) (ends : Ends) where
  -- the cut leaves what lies inside
  pub cut_inside : (arrival : Arrival) (x : Interval) → IsInside (cut_by ends walls tank inflow arrival x) x
  cut_inside arrival x = by-way arrival.rising arrival.target arrival.not_before
    where
      by-way : (rising : Bool) (target : ℤ) (not_before : Bool) → IsInside
          (cut_by ends walls tank inflow (record { target = target; rising = rising; not_before = not_before }) x) x
      by-way true target not_before = record {
        low = omega (arith, ints, clamps);
        high = cond_both not_before
            (int_min x.hi (ends.upper (exact_greatest walls (goal_stocks walls tank true target) inflow 1))) x.hi
            (λ z. z ≤ℤ x.hi) (λ e. omega (arith, ints, clamps)) (λ e. omega (arith, ints));
      }
      by-way false target not_before = record {
        low = cond_both not_before
            (int_max x.lo (ends.lower (exact_least walls (goal_stocks walls tank false target) inflow 1))) x.lo
            (λ z. x.lo ≤ℤ z) (λ e. omega (arith, ints, clamps)) (λ e. omega (arith, ints));
        high = omega (arith, ints, clamps);
      }

  -- the cut of an interval lies inside that of a wider one with wider ends
  pub cut_wider : (wider : Ends) → AreWider ends wider → (arrival : Arrival) (x y : Interval) → IsInside x y
      → IsInside (cut_by ends walls tank inflow arrival x) (cut_by wider walls tank inflow arrival y)
  cut_wider wider are arrival x y inside = by-way arrival.rising arrival.target arrival.not_before
    where
      by-way : (rising : Bool) (target : ℤ) (not_before : Bool) → IsInside
          (cut_by ends walls tank inflow (record { target = target; rising = rising; not_before = not_before }) x)
          (cut_by wider walls tank inflow (record { target = target; rising = rising; not_before = not_before }) y)
      by-way true target not_before =
          let goal = goal_stocks walls tank true target in
          record {
            low = let a = inside.low in let b = are.low (least_content walls goal) in
                omega (arith, ints, clamps, a, b);
            high = by-test not_before;
          }
        where
          by-test : (b : Bool)
              → (if b then int_min x.hi
              (ends.upper (exact_greatest walls (goal_stocks walls tank true target) inflow 1)) else x.hi)
              ≤ℤ (if b then int_min y.hi
              (wider.upper (exact_greatest walls (goal_stocks walls tank true target) inflow 1)) else y.hi)
          by-test true =
              let a = inside.high in
              let b = are.high (exact_greatest walls (goal_stocks walls tank true target) inflow 1) in
              omega (arith, ints, clamps, a, b)
          by-test false = inside.high
      by-way false target not_before =
          let goal = goal_stocks walls tank false target in
          record {
            low = by-test not_before;
            high = let a = inside.high in let b = are.high (greatest_content walls goal) in
                omega (arith, ints, clamps, a, b);
          }
        where
          by-test : (b : Bool)
              → (if b then int_max y.lo
              (wider.lower (exact_least walls (goal_stocks walls tank false target) inflow 1)) else y.lo)
              ≤ℤ (if b then int_max x.lo
              (ends.lower (exact_least walls (goal_stocks walls tank false target) inflow 1)) else x.lo)
          by-test true =
              let a = inside.low in
              let b = are.low (exact_least walls (goal_stocks walls tank false target) inflow 1) in
              omega (arith, ints, clamps, a, b)
          by-test false = inside.low
