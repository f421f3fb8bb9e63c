-- The levels with which the next period begins lie within the bounds of each tank and hold its carried levels, which
-- are there wherever the level that was just reached may have been come to.
use Rattle.std.proofs.Common.{◌≡◌, ℕ, suc, ◌+◌, ◌-◌, ◌*◌, ◌^◌, ◌<◌, ◌≤◌, ℤ, pos, ◌+ℤ◌, ◌-ℤ◌, ◌*ℤ◌, ◌≤ℤ◌, ◌<ℤ◌}
use Rattle.std.proofs.Common.{sym, ap, subst, ◌∙◌, arith, Bool, true, false, List, [], ◌∷◌, ◌&&◌}
use Rattle.std.proofs.Common.{◌==◌, refl}
use Rattle.std.specs.Prelude.{Option, Some, None, if◌then◌else◌}
use Rattle.std.specs.Int.{int_max, int_min}
use Rattle.std.proofs.lemmas.Int.{ints, clamps, by_lt_z}
use Rattle.std.proofs.lemmas.Bool.{cond_both}
use Rattle.hyd_num.proofs.Integers.{one_times, times_rises, times_sum, times_times}
use Rattle.hyd_num.specs.Rational.{Rational, whole, floor, ceiling}
use Rattle.hyd_net.specs.Curves.{volume_at}
use Rattle.hyd_spec.specs.ProgramTypes.{Tank, VolumePoint, Control, When, AtLevel, AtTime, AtClock}
use Rattle.hyd_spec.specs.Scale.{missed_stock_ticks}
use Rattle.hyd_spec.specs.Tank.{Walls, Cylinder, Curve, Stock, Bounds, level_bounds, content_bounds, level_at}
use Rattle.hyd_spec.specs.Tank.{exact_content, placed, is_bound, has_reached, reaches}
use Rattle.hyd_spec_certificates.specs.Interval.{Interval, exactly}
use Rattle.hyd_spec_certificates.specs.Stocks.{Stocks, least_stock, greatest_stock, exact_least, exact_greatest}
use Rattle.hyd_spec_certificates.specs.Stocks.{lower_end, upper_end, lower_level, upper_level, may_reach}
use Rattle.hyd_spec_certificates.specs.ThreeValuedLogic.{is_yes, at_both_ends}
use Rattle.hyd_spec_certificates.specs.Decided.{control_truth}
use Rattle.hyd_spec_open_ends.specs.StocksOverLengths.{Arrival, level_ends, content_ends, goal_stocks}
use Rattle.hyd_spec_open_ends.specs.StocksOverLengths.{least_content, greatest_content, contents_over}
use Rattle.hyd_spec_open_ends.specs.StocksOverLengths.{carried_levels_over, carried_at_end, contents_at_end}
use Rattle.hyd_spec_open_ends.specs.StocksOverLengths.{stocks_at_end, on_side, kept_when, kept}
use Rattle.hyd_theorems_on_definitions.specs.LyingInIntervals.{IsInside, AreInside, IsWithin, HasStock}
use Rattle.hyd_theorems_on_definitions.specs.SoundTanks.{IsVessel}
use Rattle.hyd_lemmas.proofs.Integers.{floor_low, ceiling_high, max_is, min_is, exchanged}
use Rattle.hyd_lemmas.proofs.BooleanTests.{both-second}
use Rattle.hyd_theorems_on_definitions.proofs.ValuesAtTwoScales.{Leads}
use Rattle.hyd_theorems_on_definitions.proofs.ValuesByContent.{lower-is, upper-is, above-yes, below-yes}
use Rattle.hyd_theorems_on_definitions.proofs.StocksInIntervals.{exact-some, lower-levels, upper-levels}
use Rattle.hyd_theorems_on_definitions.proofs.DecidedByEnds.{may_nests}
use Rattle.hyd_theorems_on_nesting.specs.Nesting.{IsOrdered}
use Rattle.hyd_theorems_on_nesting.proofs.InnerRecordsDecide.{lies-one}
use Rattle.hyd_theorems_on_open_ends.proofs.ContentsAtGoals.{IsMeasured, goal_ordered, within_reach, come_up, not_up}
use Rattle.hyd_theorems_on_open_ends.proofs.ContentsAtGoals.{come_down, not_down}
use Rattle.hyd_theorems_on_open_ends.proofs.ContentsOverLengths.{content-leads-across, cut-above, cut-below}
use Rattle.hyd_theorems_on_open_standings.proofs.StocksInOrder.{hull_inside, less-low, more-high, AreWider}
use Rattle.hyd_theorems_on_open_standings.proofs.StocksInOrder.{level_ends_are, content_ends_are, level_ends_wider}
use Rattle.hyd_theorems_on_open_standings.proofs.StocksInOrder.{spanned, spanned_within, spanned_inside, over_within}
use Rattle.hyd_theorems_on_open_standings.proofs.StocksInOrder.{MayCome, from_below, from_above, cut_within, cut_wider}
use Rattle.hyd_theorems_on_open_standings.proofs.StocksInOrder.{cut_ordered}

-- the content at the minimum is less than that at the maximum
abbrev pub AreApart : Walls → Tank → Type 0
AreApart walls tank = (content_bounds walls tank).least <ℤ (content_bounds walls tank).most

-- ---- levels of rounded volumes

module _ (points : List VolumePoint) (tank : Tank) (vessel : IsVessel (Curve points) tank)
    (apart : AreApart (Curve points) tank) (room : ℤ) (positive : pos 0 ≤ℤ room) where
  abbrev contents : Bounds
  contents = content_bounds (Curve points) tank

  abbrev low-of : Rational → ℤ → ℤ
  low-of x r = lower_level (Curve points) tank x r

  abbrev high-of : Rational → ℤ → ℤ
  high-of x r = upper_level (Curve points) tank x r

  within-levels : (x y : Rational) (r : ℤ) → pos 0 ≤ℤ r → 0 < x.den → 0 < y.den
      → IsWithin (level_bounds tank) (spanned (level_ends r (Curve points) tank) x y)
  within-levels x y r is some other =
      spanned_within (Curve points) tank vessel (level_bounds tank) (level_ends r (Curve points) tank)
      (level_ends_are r is (Curve points) tank vessel) x y some other

  wholes : (m n : ℤ) → m ≤ℤ n → Leads 1 1 (whole m) (whole n)
  wholes m n le = record {
    crossed = omega (
      arith,
      ints,
      le,
      one_times m,
      one_times n,
      one_times (pos 1 *ℤ m),
      one_times (pos 1 *ℤ n),
    );
  }

  -- the level at the least volume is the minimum from below, that at the most the maximum from above
  low-at-least : low-of (whole contents.least) room ≤ℤ tank.minimum
  low-at-least = lower-is (λ z. z ≤ℤ tank.minimum) contents (level_bounds tank) (whole contents.least)
      (level_at 1 (Curve points) tank (whole contents.least)) room
      (λ h. absurd (omega (arith, ints, h, apart, one_times contents.most)))
      (λ h e. omega (arith, ints))
      (λ h e. absurd (omega (arith, ints, e, one_times contents.least)))

  high-at-most : tank.maximum ≤ℤ high-of (whole contents.most) room
  high-at-most = upper-is (λ z. tank.maximum ≤ℤ z) contents (level_bounds tank) (whole contents.most)
      (level_at 1 (Curve points) tank (whole contents.most)) room
      (λ h. omega (arith, ints))
      (λ h e. absurd (omega (arith, ints, h, one_times contents.most)))
      (λ h e. absurd (omega (arith, ints, h, one_times contents.most)))

  full-low : (x : Rational) → (pos x.den *ℤ contents.most) ≤ℤ x.num → tank.maximum ≤ℤ low-of x (pos 0)
  full-low x full = lower-is (λ z. tank.maximum ≤ℤ z) contents (level_bounds tank) x (level_at 1 (Curve points) tank x)
      (pos 0) (λ h. omega (arith, ints)) (λ h e. absurd (omega (arith, ints, h, full)))
      (λ h e. absurd (omega (arith, ints, h, full)))

  empty-high : (x : Rational) → x.num <ℤ (pos x.den *ℤ contents.most) → x.num ≤ℤ (pos x.den *ℤ contents.least)
      → high-of x (pos 0) ≤ℤ tank.minimum
  empty-high x less empty = upper-is (λ z. z ≤ℤ tank.minimum) contents (level_bounds tank) x
      (level_at 1 (Curve points) tank x) (pos 0) (λ h. absurd (omega (arith, ints, h, less)))
      (λ h e. omega (arith, ints)) (λ h e. absurd (omega (arith, ints, e, empty)))

  -- the level at a volume that is rounded down and moved down is no higher
  rounded-low : (x : Rational) → 0 < x.den
      → low-of (whole (lower_end contents contents x x room)) room ≤ℤ low-of x (pos 0)
  rounded-low x some =
      lower-is (λ z. low-of (whole z) room ≤ℤ low-of x (pos 0)) contents contents x x room
      (λ full. let a = (within-levels (whole contents.most) x room positive (omega arith) some).lo_below in
      let b = full-low x full in omega (arith, ints, a, b))
      (λ less empty. let a = low-at-least in
      let b = (within-levels x x (pos 0) (omega (arith, ints)) some some).lo_above in omega (arith, ints, a, b))
      (λ less more. max_is (λ z. low-of (whole z) room ≤ℤ low-of x (pos 0)) contents.least (floor x -ℤ room)
      (λ e. let a = low-at-least in
      let b = (within-levels x x (pos 0) (omega (arith, ints)) some some).lo_above in omega (arith, ints, a, b))
      (λ e.
      let down : Leads 1 1 (whole (floor x -ℤ room)) x = record {
        crossed =
            let f = floor_low x some in
            let r = times_rises x.den (floor x -ℤ room) (floor x) (omega (arith, ints, positive)) in
            let one : pos x.den *ℤ (pos 1 *ℤ (floor x -ℤ room)) ≡ pos x.den *ℤ (floor x -ℤ room) =
            ap (λ z. pos x.den *ℤ z) (one_times (floor x -ℤ room)) in
            omega (arith, ints, f, r, one, one_times (pos 1 *ℤ x.num), one_times x.num);
      } in
      let a = lower-levels (Curve points) tank vessel (whole (floor x -ℤ room)) x room positive (omega arith) some down
      in
      let b = less-low contents (level_bounds tank) x (level_at 1 (Curve points) tank x) room positive in
      omega (arith, ints, a, b)))

  rounded-high : (x : Rational) → 0 < x.den
      → high-of x (pos 0) ≤ℤ high-of (whole (upper_end contents contents x x room)) room
  rounded-high x some =
      upper-is (λ z. high-of x (pos 0) ≤ℤ high-of (whole z) room) contents contents x x room
      (λ full. let a = high-at-most in
      let b = (within-levels x x (pos 0) (omega (arith, ints)) some some).hi_below in omega (arith, ints, a, b))
      (λ less empty. let a = (within-levels x (whole contents.least) room positive some (omega arith)).hi_above in
      let b = empty-high x less empty in omega (arith, ints, a, b))
      (λ less more. min_is (λ z. high-of x (pos 0) ≤ℤ high-of (whole z) room) contents.most (ceiling x +ℤ room)
      (λ e. let a = high-at-most in
      let b = (within-levels x x (pos 0) (omega (arith, ints)) some some).hi_below in omega (arith, ints, a, b))
      (λ e.
      let up : Leads 1 1 x (whole (ceiling x +ℤ room)) = record {
        crossed =
            let f = ceiling_high x some in
            let r = times_rises x.den (ceiling x) (ceiling x +ℤ room) (omega (arith, ints, positive)) in
            let one : pos x.den *ℤ (pos 1 *ℤ (ceiling x +ℤ room)) ≡ pos x.den *ℤ (ceiling x +ℤ room) =
            ap (λ z. pos x.den *ℤ z) (one_times (ceiling x +ℤ room)) in
            omega (arith, ints, f, r, one, one_times (pos 1 *ℤ x.num), one_times x.num);
      } in
      let a = upper-levels (Curve points) tank vessel x (whole (ceiling x +ℤ room)) room positive some (omega arith) up
      in
      let b = more-high contents (level_bounds tank) x (level_at 1 (Curve points) tank x) room positive in
      omega (arith, ints, a, b)))

  pub from-low : (x : Rational) (z : ℤ) → 0 < x.den → z ≤ℤ lower_end contents contents x x room
      → low-of (whole z) room ≤ℤ low-of x (pos 0)
  from-low x z some le =
      let a = lower-levels (Curve points) tank vessel (whole z) (whole (lower_end contents contents x x room)) room
      positive (omega arith) (omega arith) (wholes z (lower_end contents contents x x room) le) in
      let b = rounded-low x some in omega (arith, ints, a, b)

  pub to-high : (x : Rational) (z : ℤ) → 0 < x.den → upper_end contents contents x x room ≤ℤ z
      → high-of x (pos 0) ≤ℤ high-of (whole z) room
  to-high x z some le =
      let a = upper-levels (Curve points) tank vessel (whole (upper_end contents contents x x room)) (whole z) room
      positive (omega arith) (omega arith) (wholes (upper_end contents contents x x room) z le) in
      let b = rounded-high x some in omega (arith, ints, a, b)

-- ---- at the end

module _ (stocks : Stocks) (inflow : Interval) (shortest longest : ℕ) (arrival : Option Arrival) where
  pub carried_end_within : (walls : Walls) (tank : Tank) → IsVessel walls tank
      → IsWithin (level_bounds tank) (carried_at_end walls tank stocks inflow shortest longest arrival)
  carried_end_within walls tank vessel =
      let ends = level_ends (pos 0) walls tank in
      let are = level_ends_are (pos 0) (omega (arith, ints)) walls tank vessel in
      cut_within walls tank vessel inflow (level_bounds tank) ends are arrival _
      (over_within walls tank vessel (level_bounds tank) ends are stocks inflow shortest longest)

  contents-end-within : (walls : Walls) (tank : Tank) → IsVessel walls tank
      → IsWithin (content_bounds walls tank) (contents_at_end walls tank stocks inflow shortest longest arrival)
  contents-end-within walls tank vessel =
      let ends = content_ends (pos missed_stock_ticks) walls tank in
      let are = content_ends_are (pos missed_stock_ticks) (omega (arith, ints)) walls tank vessel in
      cut_within walls tank vessel inflow (content_bounds walls tank) ends are arrival _
      (over_within walls tank vessel (content_bounds walls tank) ends are stocks inflow shortest longest)

  pub level_end_within : (walls : Walls) (tank : Tank) → IsVessel walls tank
      → IsWithin (level_bounds tank) (stocks_at_end walls tank stocks inflow shortest longest arrival).level
  level_end_within (Cylinder area) tank vessel = contents-end-within (Cylinder area) tank vessel
  level_end_within (Curve points) tank vessel =
      let volume = contents_at_end (Curve points) tank stocks inflow shortest longest arrival in
      spanned_within (Curve points) tank vessel (level_bounds tank)
      (level_ends (pos missed_stock_ticks) (Curve points) tank)
      (level_ends_are (pos missed_stock_ticks) (omega (arith, ints)) (Curve points) tank vessel) (whole volume.lo)
      (whole volume.hi) (omega arith) (omega arith)

-- ---- the next levels hold the carried ones

-- Numbers of volumes, each the end of a content, whose levels from below are at most a level.
module _ (points : List VolumePoint) (tank : Tank) (vessel : IsVessel (Curve points) tank)
    (apart : AreApart (Curve points) tank) (stocks : Stocks) (inflow : Interval) (shortest longest : ℕ) where
  abbrev end-room : ℤ
  end-room = pos missed_stock_ticks

  abbrev volume-bounds : Bounds
  volume-bounds = content_bounds (Curve points) tank

  abbrev low-volume : Rational → ℤ
  low-volume x = lower_end volume-bounds volume-bounds x x end-room

  abbrev high-volume : Rational → ℤ
  high-volume x = upper_end volume-bounds volume-bounds x x end-room

  abbrev low-level : Rational → ℤ → ℤ
  low-level x room = lower_level (Curve points) tank x room

  abbrev high-level : Rational → ℤ → ℤ
  high-level x room = upper_level (Curve points) tank x room

  there : (stock : Stock) (q : ℤ) (s : ℕ) → 0 < (exact_content (Curve points) stock q s).den
  there stock q s = exact-some (Curve points) stock q s vessel.holds_water

  low-one : (x : Rational) (z : ℤ) → 0 < x.den → z ≤ℤ low-volume x
      → low-level (whole z) end-room ≤ℤ low-level x (pos 0)
  low-one x z some le = from-low points tank vessel apart end-room (omega (arith, ints)) x z some le

  high-one : (x : Rational) (z : ℤ) → 0 < x.den → high-volume x ≤ℤ z
      → high-level x (pos 0) ≤ℤ high-level (whole z) end-room
  high-one x z some le = to-high points tank vessel apart end-room (omega (arith, ints)) x z some le

  -- over lengths
  abbrev carried-over : Interval
  carried-over = carried_levels_over (Curve points) tank stocks inflow shortest longest

  abbrev volumes-over : Interval
  volumes-over = contents_over end-room (Curve points) tank stocks inflow shortest longest

  low-over : low-level (whole volumes-over.lo) end-room ≤ℤ carried-over.lo
  low-over =
      let a = low-one (exact_least (Curve points) stocks inflow shortest) volumes-over.lo
      (there (least_stock stocks) inflow.lo shortest) (omega (arith, ints, clamps)) in
      let b = low-one (exact_least (Curve points) stocks inflow longest) volumes-over.lo
      (there (least_stock stocks) inflow.lo longest) (omega (arith, ints, clamps)) in
      omega (arith, ints, clamps, a, b)

  high-over : carried-over.hi ≤ℤ high-level (whole volumes-over.hi) end-room
  high-over =
      let a = high-one (exact_greatest (Curve points) stocks inflow shortest) volumes-over.hi
      (there (greatest_stock stocks) inflow.hi shortest) (omega (arith, ints, clamps)) in
      let b = high-one (exact_greatest (Curve points) stocks inflow longest) volumes-over.hi
      (there (greatest_stock stocks) inflow.hi longest) (omega (arith, ints, clamps)) in
      omega (arith, ints, clamps, a, b)

  -- of two ends, the greater or the lesser
  low-greater : (m l : ℤ) (x : Rational) → 0 < x.den → low-level (whole m) end-room ≤ℤ l
      → low-level (whole (int_max m (low-volume x))) end-room ≤ℤ int_max l (low-level x (pos 0))
  low-greater m l x some le =
      max_is (λ z. low-level (whole z) end-room ≤ℤ int_max l (low-level x (pos 0))) m (low-volume x)
      (λ e. omega (arith, ints, clamps, le))
      (λ e. let a = low-one x (low-volume x) some (omega (arith, ints)) in omega (arith, ints, clamps, a))

  high-lesser : (m l : ℤ) (x : Rational) → 0 < x.den → l ≤ℤ high-level (whole m) end-room
      → int_min l (high-level x (pos 0)) ≤ℤ high-level (whole (int_min m (high-volume x))) end-room
  high-lesser m l x some le =
      min_is (λ z. int_min l (high-level x (pos 0)) ≤ℤ high-level (whole z) end-room) m (high-volume x)
      (λ e. omega (arith, ints, clamps, le))
      (λ e. let a = high-one x (high-volume x) some (omega (arith, ints)) in omega (arith, ints, clamps, a))

  -- with the cut, if there is one
  low-test : (b : Bool) (m l : ℤ) (x : Rational) → 0 < x.den → low-level (whole m) end-room ≤ℤ l
      → low-level (whole (if b then int_max m (low-volume x) else m)) end-room
      ≤ℤ (if b then int_max l (low-level x (pos 0)) else l)
  low-test true m l x some le = low-greater m l x some le
  low-test false m l x some le = le

  high-test : (b : Bool) (m l : ℤ) (x : Rational) → 0 < x.den → l ≤ℤ high-level (whole m) end-room
      → (if b then int_min l (high-level x (pos 0)) else l)
      ≤ℤ high-level (whole (if b then int_min m (high-volume x) else m)) end-room
  high-test true m l x some le = high-lesser m l x some le
  high-test false m l x some le = le

  curve-inside : (arrival : Option Arrival)
      → IsInside (carried_at_end (Curve points) tank stocks inflow shortest longest arrival)
      (stocks_at_end (Curve points) tank stocks inflow shortest longest arrival).level
  curve-inside None = record { low = low-over; high = high-over }
  curve-inside (Some arrival) = by-way arrival.rising arrival.target arrival.not_before
    where
      by-way : (rising : Bool) (target : ℤ) (not_before : Bool)
          → IsInside (carried_at_end (Curve points) tank stocks inflow shortest longest
          (Some (record { target = target; rising = rising; not_before = not_before })))
          (stocks_at_end (Curve points) tank stocks inflow shortest longest
          (Some (record { target = target; rising = rising; not_before = not_before }))).level
      by-way true target not_before =
          let goal = goal_stocks (Curve points) tank true target in
          record {
            low = low-greater volumes-over.lo carried-over.lo (least_content (Curve points) goal)
                (there (least_stock goal) (pos 0) 0) low-over;
            high = high-test not_before volumes-over.hi carried-over.hi (exact_greatest (Curve points) goal inflow 1)
                (there (greatest_stock goal) inflow.hi 1) high-over;
          }
      by-way false target not_before =
          let goal = goal_stocks (Curve points) tank false target in
          record {
            low = low-test not_before volumes-over.lo carried-over.lo (exact_least (Curve points) goal inflow 1)
                (there (least_stock goal) inflow.lo 1) low-over;
            high = high-lesser volumes-over.hi carried-over.hi (greatest_content (Curve points) goal)
                (there (greatest_stock goal) (pos 0) 0) high-over;
          }

pub carried_inside_level : (stocks : Stocks) (inflow : Interval) (shortest longest : ℕ) (arrival : Option Arrival)
    (walls : Walls) (tank : Tank) → IsVessel walls tank → AreApart walls tank
    → IsInside (carried_at_end walls tank stocks inflow shortest longest arrival)
    (stocks_at_end walls tank stocks inflow shortest longest arrival).level
carried_inside_level stocks inflow shortest longest arrival (Cylinder area) tank vessel apart = by-arrival arrival
  where
    wider : AreWider (level_ends (pos 0) (Cylinder area) tank)
        (level_ends (pos missed_stock_ticks) (Cylinder area) tank)
    wider = level_ends_wider (pos missed_stock_ticks) (omega (arith, ints)) (Cylinder area) tank

    over : IsInside (carried_levels_over (Cylinder area) tank stocks inflow shortest longest)
        (contents_over (pos missed_stock_ticks) (Cylinder area) tank stocks inflow shortest longest)
    over = hull_inside _ _ _ _
        (spanned_inside (level_ends (pos 0) (Cylinder area) tank)
        (level_ends (pos missed_stock_ticks) (Cylinder area) tank) wider
        (exact_least (Cylinder area) stocks inflow shortest) (exact_greatest (Cylinder area) stocks inflow shortest))
        (spanned_inside (level_ends (pos 0) (Cylinder area) tank)
        (level_ends (pos missed_stock_ticks) (Cylinder area) tank) wider
        (exact_least (Cylinder area) stocks inflow longest) (exact_greatest (Cylinder area) stocks inflow longest))

    by-arrival : (o : Option Arrival)
        → IsInside (carried_at_end (Cylinder area) tank stocks inflow shortest longest o)
        (stocks_at_end (Cylinder area) tank stocks inflow shortest longest o).level
    by-arrival None = over
    by-arrival (Some one) =
        cut_wider (Cylinder area) tank inflow (level_ends (pos 0) (Cylinder area) tank)
        (level_ends (pos missed_stock_ticks) (Cylinder area) tank) wider one _ _ over
carried_inside_level stocks inflow shortest longest arrival (Curve points) tank vessel apart =
    curve-inside points tank vessel apart stocks inflow shortest longest arrival

-- ---- there is some stock

-- The level that has just been reached may be come to.
abbrev pub AllMayCome : Walls → Tank → Stocks → Interval → ℕ → ℕ → Option Arrival → Type 0
AllMayCome walls tank stocks inflow shortest longest arrival =
    (one : Arrival) → arrival ≡ Some one → MayCome walls tank stocks inflow shortest longest one

pub carried_end_ordered : (walls : Walls) (tank : Tank) (stocks : Stocks) (inflow : Interval) (shortest longest : ℕ)
    (arrival : Option Arrival) → IsVessel walls tank → HasStock stocks → IsOrdered inflow
    → AllMayCome walls tank stocks inflow shortest longest arrival
    → IsOrdered (carried_at_end walls tank stocks inflow shortest longest arrival)
carried_end_ordered walls tank stocks inflow shortest longest arrival vessel has flow come =
    cut_ordered walls tank vessel inflow (level_bounds tank) (level_ends (pos 0) walls tank)
    (level_ends_are (pos 0) (omega (arith, ints)) walls tank vessel) stocks has flow shortest longest arrival come

pub volume_end_ordered : (walls : Walls) (tank : Tank) (stocks : Stocks) (inflow : Interval) (shortest longest : ℕ)
    (arrival : Option Arrival) → IsVessel walls tank → HasStock stocks → IsOrdered inflow
    → AllMayCome walls tank stocks inflow shortest longest arrival
    → IsOrdered (stocks_at_end walls tank stocks inflow shortest longest arrival).volume
volume_end_ordered (Cylinder area) tank stocks inflow shortest longest arrival vessel has flow come =
    omega (arith, ints)
volume_end_ordered (Curve points) tank stocks inflow shortest longest arrival vessel has flow come =
    cut_ordered (Curve points) tank vessel inflow (content_bounds (Curve points) tank)
    (content_ends (pos missed_stock_ticks) (Curve points) tank)
    (content_ends_are (pos missed_stock_ticks) (omega (arith, ints)) (Curve points) tank vessel) stocks has flow
    shortest longest arrival come

-- ---- what is kept

-- Levels within bounds that hold the carried ones.
pub record HoldsCarried (bounds : Bounds) (carried x : Interval) : Type 0 where
  pub inside : IsInside carried x
  pub within : IsWithin bounds x

yes-first : (a b : Bool) → is_yes (at_both_ends a b) ≡ true → a ≡ true
yes-first true b e = refl
yes-first false true e = absurd (cc)
yes-first false false e = absurd (cc)

yes-second : (a b : Bool) → is_yes (at_both_ends a b) ≡ true → b ≡ true
yes-second true true e = refl
yes-second true false e = absurd (cc)
yes-second false true e = absurd (cc)
yes-second false false e = absurd (cc)

side-holds : (bounds : Bounds) (carried x : Interval) (above : Bool) (ticks : ℤ) → IsWithin bounds carried
    → HoldsCarried bounds carried x → is_yes (control_truth carried above ticks) ≡ true
    → HoldsCarried bounds carried (on_side above ticks x)
side-holds bounds carried x true ticks within holds met =
    let le : ticks ≤ℤ carried.lo =
    (let a = above-yes 1 ticks (whole carried.lo)
    (yes-first (reaches 1 true ticks (whole carried.lo)) (reaches 1 true ticks (whole carried.hi)) met) in
    omega (arith, ints, a, one_times (pos 1 *ℤ ticks), one_times ticks)) in
    record {
      inside = record {
        low = let a = holds.inside.low in omega (arith, ints, clamps, a, le);
        high = holds.inside.high;
      };
      within = record {
        lo_above = let a = holds.within.lo_above in omega (arith, ints, clamps, a);
        lo_below = let a = holds.within.lo_below in let b = within.lo_below in omega (arith, ints, clamps, a, b, le);
        hi_above = holds.within.hi_above;
        hi_below = holds.within.hi_below;
      };
    }
side-holds bounds carried x false ticks within holds met =
    let le : carried.hi ≤ℤ ticks =
    (let a = below-yes 1 ticks (whole carried.hi)
    (yes-second (reaches 1 false ticks (whole carried.lo)) (reaches 1 false ticks (whole carried.hi)) met) in
    omega (arith, ints, a, one_times (pos 1 *ℤ ticks), one_times ticks)) in
    record {
      inside = record {
        low = holds.inside.low;
        high = let a = holds.inside.high in omega (arith, ints, clamps, a, le);
      };
      within = record {
        lo_above = holds.within.lo_above;
        lo_below = holds.within.lo_below;
        hi_above = let a = holds.within.hi_above in let b = within.hi_above in omega (arith, ints, clamps, a, b, le);
        hi_below = let a = holds.within.hi_below in omega (arith, ints, clamps, a);
      };
    }

pub kept_holds : (bounds : Bounds) (k : ℕ) (carried : Interval) (controls : List Control) (x : Interval)
    → IsWithin bounds carried → HoldsCarried bounds carried x
    → HoldsCarried bounds carried (kept controls k carried x)
kept_holds bounds k carried [] x within holds = holds
kept_holds bounds k carried (control ∷ controls) x within holds =
    kept_holds bounds k carried controls (kept_when k carried control.when x) within (here control.when)
  where
    here : (w : When) → HoldsCarried bounds carried (kept_when k carried w x)
    here (AtLevel tank above ticks) =
        cond_both ((tank == k) && is_yes (control_truth carried above ticks)) (on_side above ticks x) x
        (HoldsCarried bounds carried)
        (λ e. side-holds bounds carried x above ticks within holds (both-second _ _ e)) (λ e. holds)
    here (AtTime at) = holds
    here (AtClock at) = holds

-- ---- what may be come to

less-seconds : (s t : ℕ) (q : ℤ) → s ≤ t → q ≤ℤ pos 0 → (pos t *ℤ q) ≤ℤ (pos s *ℤ q)
less-seconds s t q le some =
    let rest = times_rises (t - s) q (pos 0) some in
    let none : pos (t - s) *ℤ pos 0 ≡ pos 0 = nothing (t - s) in
    let sum = times_sum s (t - s) q in
    let e : pos (s + (t - s)) *ℤ q ≡ pos t *ℤ q = ap (λ (n : ℕ). pos n *ℤ q) (omega (arith, le)) in
    omega (arith, ints, rest, none, sum, e)
  where
    nothing : (n : ℕ) → pos n *ℤ pos 0 ≡ pos 0
    nothing n = omega (arith, ints)

more-seconds : (s t : ℕ) (q : ℤ) → s ≤ t → pos 0 ≤ℤ q → (pos s *ℤ q) ≤ℤ (pos t *ℤ q)
more-seconds s t q le some =
    let rest = times_rises (t - s) (pos 0) q some in
    let none : pos (t - s) *ℤ pos 0 ≡ pos 0 = nothing (t - s) in
    let sum = times_sum s (t - s) q in
    let e : pos (s + (t - s)) *ℤ q ≡ pos t *ℤ q = ap (λ (n : ℕ). pos n *ℤ q) (omega (arith, le)) in
    omega (arith, ints, rest, none, sum, e)
  where
    nothing : (n : ℕ) → pos n *ℤ pos 0 ≡ pos 0
    nothing n = omega (arith, ints)

-- whether a content has met a level
abbrev met-by : ℕ → Walls → Tank → Bool → ℤ → Rational → Bool
met-by S (Cylinder area) tank above target x = reaches S above target x
met-by S (Curve points) tank above target x =
    if is_bound tank above target then reaches S above (volume_at points target) x
    else reaches S above target (placed S (content_bounds (Curve points) tank) (level_bounds tank) x
    (level_at S (Curve points) tank x))

-- some seconds of an inflow are one second of as much
in-one-second : (walls : Walls) (stock : Stock) (q : ℤ) (s : ℕ)
    → exact_content walls stock q s ≡ exact_content walls stock (pos s *ℤ q) 1
in-one-second (Cylinder area) stock q s =
    let B = 86400 * area in
    ap (λ (z : ℤ). record { num = (pos B *ℤ stock.level) +ℤ z; den = B })
    (sym (times_times s (10 ^ 15) q) ∙ exchanged (10 ^ 15) s q
    ∙ ap (λ (n : ℕ). pos n *ℤ (pos s *ℤ q)) (omega (arith)))
in-one-second (Curve points) stock q s =
    ap (λ (z : ℤ). record { num = (pos 864 *ℤ stock.volume) +ℤ z; den = 864 }) (sym (one_times (pos s *ℤ q)))

met-in-one-second : (walls : Walls) (tank : Tank) (stock : Stock) (q target : ℤ) (rising : Bool) (s : ℕ)
    → has_reached 1 walls tank stock q rising target s
    ≡ has_reached 1 walls tank stock (pos s *ℤ q) rising target 1
met-in-one-second (Cylinder area) tank stock q target rising s =
    ap (met-by 1 (Cylinder area) tank rising target) (in-one-second (Cylinder area) stock q s)
met-in-one-second (Curve points) tank stock q target rising s =
    ap (met-by 1 (Curve points) tank rising target) (in-one-second (Curve points) stock q s)

-- the way on, up or down
abbrev IsOnward : Bool → ℤ → ℤ → Type 0
IsOnward true a b = a ≤ℤ b
IsOnward false a b = b ≤ℤ a

in-itself : (x : Stocks) → AreInside x x
in-itself x = record {
  level = record { low = omega (arith, ints); high = omega (arith, ints) };
  volume = record { low = omega (arith, ints); high = omega (arith, ints) };
}

never : (b : Bool) → b ≡ true → b ≡ false → ⊥
never true e f = absurd (cc)
never false e f = absurd (cc)

-- a level that has been reached stays so as the content moves on
reached-on : (walls : Walls) (tank : Tank) → IsVessel walls tank → (stock : Stock) (q target : ℤ) (rising : Bool)
    (s t : ℕ) → IsOnward rising (pos s *ℤ q) (pos t *ℤ q)
    → has_reached 1 walls tank stock q rising target s ≡ true
    → has_reached 1 walls tank stock q rising target t ≡ true
reached-on walls tank vessel stock q target true s t on reached =
    let x : Stocks = record { level = exactly stock.level; volume = exactly stock.volume } in
    met-in-one-second walls tank stock q target true t
    ∙ may_nests walls tank x x (exactly (pos s *ℤ q)) (record { lo = pos s *ℤ q; hi = pos t *ℤ q }) target true 1 vessel
    (in-itself x) (record { low = omega (arith, ints); high = on })
    (sym (met-in-one-second walls tank stock q target true s) ∙ reached)
reached-on walls tank vessel stock q target false s t on reached =
    let x : Stocks = record { level = exactly stock.level; volume = exactly stock.volume } in
    met-in-one-second walls tank stock q target false t
    ∙ may_nests walls tank x x (exactly (pos s *ℤ q)) (record { lo = pos t *ℤ q; hi = pos s *ℤ q }) target false 1
    vessel (in-itself x) (record { low = on; high = omega (arith, ints) })
    (sym (met-in-one-second walls tank stock q target false s) ∙ reached)

-- a level that the tank may have reached within the lengths, and where a second before the shortest is looked at not
-- then
module _ (walls : Walls) (tank : Tank) (is : IsMeasured walls tank) (stocks : Stocks) (inflow : Interval)
    (has : HasStock stocks) (flow : IsOrdered inflow) (shortest longest s : ℕ) (from : shortest ≤ s) (to : s ≤ longest)
    (target : ℤ) (not_before : Bool) where
  abbrev IsNotReached : Bool → Type 0
  IsNotReached rising = not_before ≡ true
      → (2 ≤ shortest) × (may_reach walls tank stocks inflow target rising (shortest - 1) ≡ false)

  pub may-come-by : (rising : Bool) → may_reach walls tank stocks inflow target rising s ≡ true → IsNotReached rising
      → AllMayCome walls tank stocks inflow shortest longest
      (Some (record { target = target; rising = rising; not_before = not_before }))
  may-come-by true reached before = λ one e. subst (MayCome walls tank stocks inflow shortest longest)
      (the-one e) (from_below target not_before s from to
      (come_up 1 (omega arith) tank (greatest_stock stocks) inflow.hi s walls is target reached) passed)
    where
      the-one : {one : Arrival} → Some (record { target = target; rising = true; not_before = not_before }) ≡ Some one
          → record { target = target; rising = true; not_before = not_before } ≡ one
      the-one e = cc

      goal : Stocks
      goal = goal_stocks walls tank true target

      passed : not_before ≡ true
          → Leads 1 1 (exact_greatest walls stocks inflow shortest) (exact_greatest walls goal inflow 1)
          × Leads 1 1 (least_content walls goal) (exact_greatest walls goal inflow 1)
      passed e =
          let b = before e in
          let two = b.0 in
          let n : suc (shortest - 1) ≡ shortest = omega (arith, two) in
          let within =
          within_reach 1 (omega arith) tank (greatest_stock stocks) inflow.hi s walls is true target reached in
          let rises : pos 0 ≤ℤ inflow.hi = by_lt_z inflow.hi (pos 0)
          (λ lt. absurd (never _
          (reached-on walls tank is.vessel (greatest_stock stocks) inflow.hi target true s (shortest - 1)
          (less-seconds (shortest - 1) s inflow.hi (omega (arith, from)) (omega (arith, ints, lt))) reached) b.1))
          (λ ge. ge) in (
            subst (λ m. Leads 1 1 (exact_greatest walls stocks inflow m) (exact_greatest walls goal inflow 1)) n
                (cut-above 1 walls (greatest_stock goal) inflow (greatest_stock stocks)
                inflow.hi (shortest - 1) (lies-one inflow inflow.hi flow (omega (arith, ints)))
                (not_up 1 (omega arith) tank (greatest_stock stocks) inflow.hi (shortest - 1) walls is target within
                b.1)),
            content-leads-across 1 1 walls (least_stock goal) (greatest_stock goal) (pos 0) inflow.hi 0 1
                (goal_ordered walls tank true target)
                (omega (arith, ints, rises, one_times inflow.hi)),
          )
  may-come-by false reached before = λ one e. subst (MayCome walls tank stocks inflow shortest longest)
      (the-one e) (from_above target not_before s from to
      (come_down 1 (omega arith) tank (least_stock stocks) inflow.lo s walls is target reached) passed)
    where
      the-one : {one : Arrival} → Some (record { target = target; rising = false; not_before = not_before }) ≡ Some one
          → record { target = target; rising = false; not_before = not_before } ≡ one
      the-one e = cc

      goal : Stocks
      goal = goal_stocks walls tank false target

      passed : not_before ≡ true
          → Leads 1 1 (exact_least walls goal inflow 1) (exact_least walls stocks inflow shortest)
          × Leads 1 1 (exact_least walls goal inflow 1) (greatest_content walls goal)
      passed e =
          let b = before e in
          let two = b.0 in
          let n : suc (shortest - 1) ≡ shortest = omega (arith, two) in
          let within = within_reach 1 (omega arith) tank (least_stock stocks) inflow.lo s walls is false target reached
          in
          let falls : inflow.lo ≤ℤ pos 0 = by_lt_z (pos 0) inflow.lo
          (λ lt. absurd (never _
          (reached-on walls tank is.vessel (least_stock stocks) inflow.lo target false s (shortest - 1)
          (more-seconds (shortest - 1) s inflow.lo (omega (arith, from)) (omega (arith, ints, lt))) reached) b.1))
          (λ ge. ge) in (
            subst (λ m. Leads 1 1 (exact_least walls goal inflow 1) (exact_least walls stocks inflow m)) n
                (cut-below 1 walls (least_stock goal) inflow (least_stock stocks)
                inflow.lo (shortest - 1) (lies-one inflow inflow.lo (omega (arith, ints)) flow)
                (not_down 1 (omega arith) tank (least_stock stocks) inflow.lo (shortest - 1) walls is target within
                b.1)),
            content-leads-across 1 1 walls (least_stock goal) (greatest_stock goal) inflow.lo (pos 0) 1 0
                (goal_ordered walls tank false target)
                (omega (arith, ints, falls, one_times inflow.lo)),
          )
