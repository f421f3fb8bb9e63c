-- Narrower stocks, inflows and lengths lead to narrower stocks, with the cut by what has just been reached and with
-- what is kept.
use Rattle.std.proofs.Common.{◌≡◌, ℕ, ◌<◌, ◌≤◌, ℤ, pos, ◌*ℤ◌, ◌≤ℤ◌, refl, arith, Bool, true, false}
use Rattle.std.proofs.Common.{List, [], ◌∷◌, ◌⊎◌, inl, inr, ◌&&◌, ◌==◌}
use Rattle.std.specs.Prelude.{if◌then◌else◌}
use Rattle.std.specs.Int.{int_max, int_min}
use Rattle.std.proofs.lemmas.Int.{ints}
use Rattle.std.proofs.lemmas.Bool.{cond_both}
use Rattle.hyd_num.proofs.Integers.{one_times}
use Rattle.hyd_num.specs.Rational.{Rational, whole}
use Rattle.hyd_spec.specs.ProgramTypes.{Tank, Control, When, AtLevel, AtTime, AtClock}
use Rattle.hyd_spec.specs.Tank.{Walls, Stock, content_bounds, exact_content}
use Rattle.hyd_spec_certificates.specs.Interval.{Interval}
use Rattle.hyd_spec_certificates.specs.Stocks.{Stocks, least_stock, greatest_stock, exact_least, exact_greatest}
use Rattle.hyd_spec_certificates.specs.Stocks.{lower_end, upper_end, contents_after}
use Rattle.hyd_spec_certificates.specs.Stocks.{carried_levels}
use Rattle.hyd_spec_certificates.specs.ThreeValuedLogic.{is_yes, at_both_ends}
use Rattle.hyd_spec_certificates.specs.Decided.{control_truth}
use Rattle.hyd_spec_open_ends.specs.StocksOverLengths.{hull, contents_over, carried_levels_over, cut_by}
use Rattle.hyd_spec_open_ends.specs.StocksOverLengths.{Ends, level_ends, content_ends, goal_stocks, least_content}
use Rattle.hyd_spec_open_ends.specs.StocksOverLengths.{greatest_content}
use Rattle.hyd_spec_open_ends.specs.StocksOverLengths.{on_side, kept_when, kept}
use Rattle.hyd_theorems_on_definitions.specs.LyingInIntervals.{LiesIn, LiesAround, StockLies, IsInside, AreInside}
use Rattle.hyd_theorems_on_definitions.specs.LyingInIntervals.{HasStock}
use Rattle.hyd_theorems_on_definitions.specs.SoundTanks.{IsVessel}
use Rattle.hyd_lemmas.proofs.Integers.{max_is, min_is, min_left, min_right, max_left, max_right}
use Rattle.hyd_lemmas.proofs.BooleanTests.{both-first, both-second, and-true}
use Rattle.hyd_theorems_on_definitions.proofs.ValuesAtTwoScales.{Leads}
use Rattle.hyd_theorems_on_definitions.proofs.ValuesByContent.{lower-rises, upper-rises}
use Rattle.hyd_theorems_on_definitions.proofs.StocksInIntervals.{exact-some, content-leads, lower-levels, upper-levels}
use Rattle.hyd_theorems_on_nesting.specs.Nesting.{IsOrdered}
use Rattle.hyd_theorems_on_nesting.proofs.InnerRecordsDecide.{lies-one}
use Rattle.hyd_theorems_on_open_ends.proofs.ContentsOverLengths.{above, below}
use Rattle.hyd_theorems_on_open_ends.proofs.StocksOverLengths.{content-fits, carried_meets}

never : (b : Bool) → b ≡ true → b ≡ false → ⊥
never true e f = absurd (cc)
never false e f = absurd (cc)

-- a hull of two that lie inside a third lies inside it
hull-within : (a b c : Interval) → IsInside a c → IsInside b c → IsInside (hull a b) c
hull-within a b c p q = record {
  low = min_is (λ z. c.lo ≤ℤ z) a.lo b.lo (λ e. p.low) (λ e. q.low);
  high = max_is (λ z. z ≤ℤ c.hi) a.hi b.hi (λ e. p.high) (λ e. q.high);
}

-- ---- over lengths

module _ (walls : Walls) (tank : Tank) (vessel : IsVessel walls tank) (stocks wider : Stocks) (inflow more : Interval)
    (has : HasStock stocks) (flow : IsOrdered inflow) (at : AreInside stocks wider) (less : IsInside inflow more)
    (first last : ℕ) where
  least-lies : StockLies 1 wider (least_stock stocks)
  least-lies = record {
    level = lies-one wider.level stocks.level.lo at.level.low
        (let a = has.level in let b = at.level.high in omega (arith, ints, a, b));
    volume = lies-one wider.volume stocks.volume.lo at.volume.low
        (let a = has.volume in let b = at.volume.high in omega (arith, ints, a, b));
  }

  greatest-lies : StockLies 1 wider (greatest_stock stocks)
  greatest-lies = record {
    level = lies-one wider.level stocks.level.hi
        (let a = has.level in let b = at.level.low in omega (arith, ints, a, b)) at.level.high;
    volume = lies-one wider.volume stocks.volume.hi
        (let a = has.volume in let b = at.volume.low in omega (arith, ints, a, b)) at.volume.high;
  }

  low-flow : LiesIn 1 more inflow.lo
  low-flow = lies-one more inflow.lo less.low (let b = less.high in omega (arith, ints, flow, b))

  high-flow : LiesIn 1 more inflow.hi
  high-flow = lies-one more inflow.hi (let b = less.low in omega (arith, ints, flow, b)) less.high

  some-least : (x : Stocks) (q : Interval) (s : ℕ) → 0 < (exact_least walls x q s).den
  some-least x q s = exact-some walls (least_stock x) q.lo s vessel.holds_water

  some-greatest : (x : Stocks) (q : Interval) (s : ℕ) → 0 < (exact_greatest walls x q s).den
  some-greatest x q s = exact-some walls (greatest_stock x) q.hi s vessel.holds_water

  module _ (s : ℕ) (from : first ≤ s) (to : s ≤ last) where
    low-at : Leads 1 1 (exact_least walls wider more first) (exact_least walls stocks inflow s)
        ⊎ Leads 1 1 (exact_least walls wider more last) (exact_least walls stocks inflow s)
    low-at = below 1 walls wider more (least_stock stocks) inflow.lo first s last least-lies low-flow from to

    high-at : Leads 1 1 (exact_greatest walls stocks inflow s) (exact_greatest walls wider more first)
        ⊎ Leads 1 1 (exact_greatest walls stocks inflow s) (exact_greatest walls wider more last)
    high-at = above 1 walls wider more (greatest_stock stocks) inflow.hi first s last greatest-lies high-flow from to

    carried-at : IsInside (carried_levels walls tank stocks inflow s)
        (carried_levels_over walls tank wider more first last)
    carried-at = record {
      low = elim low-at [
        | inl leads ↦
            let a = lower-levels walls tank vessel (exact_least walls wider more first)
            (exact_least walls stocks inflow s) (pos 0) (omega (arith, ints)) (some-least wider more first)
            (some-least stocks inflow s) leads in
            let b = min_left (carried_levels walls tank wider more first).lo
            (carried_levels walls tank wider more last).lo in
            omega (arith, ints, a, b)
        | inr leads ↦
            let a = lower-levels walls tank vessel (exact_least walls wider more last)
            (exact_least walls stocks inflow s) (pos 0) (omega (arith, ints)) (some-least wider more last)
            (some-least stocks inflow s) leads in
            let b = min_right (carried_levels walls tank wider more first).lo
            (carried_levels walls tank wider more last).lo in
            omega (arith, ints, a, b)
      ];
      high = elim high-at [
        | inl leads ↦
            let a = upper-levels walls tank vessel (exact_greatest walls stocks inflow s)
            (exact_greatest walls wider more first) (pos 0) (omega (arith, ints)) (some-greatest stocks inflow s)
            (some-greatest wider more first) leads in
            let b = max_left (carried_levels walls tank wider more first).hi
            (carried_levels walls tank wider more last).hi in
            omega (arith, ints, a, b)
        | inr leads ↦
            let a = upper-levels walls tank vessel (exact_greatest walls stocks inflow s)
            (exact_greatest walls wider more last) (pos 0) (omega (arith, ints)) (some-greatest stocks inflow s)
            (some-greatest wider more last) leads in
            let b = max_right (carried_levels walls tank wider more first).hi
            (carried_levels walls tank wider more last).hi in
            omega (arith, ints, a, b)
      ];
    }

    module _ (room : ℤ) (positive : pos 0 ≤ℤ room) where
      abbrev ends : Stocks → Interval → ℕ → Interval
      ends x q n = contents_after room walls tank x q n

      lower-up : (x y : Rational) → 0 < x.den → 0 < y.den → Leads 1 1 x y
          → lower_end (content_bounds walls tank) (content_bounds walls tank) x x room
          ≤ℤ lower_end (content_bounds walls tank) (content_bounds walls tank) y y room
      lower-up x y some other leads =
          lower-rises (content_bounds walls tank) (content_bounds walls tank) x y x y
          (content-fits walls tank x vessel some) (content-fits walls tank y vessel other) leads leads room positive

      upper-up : (x y : Rational) → 0 < x.den → 0 < y.den → Leads 1 1 x y
          → upper_end (content_bounds walls tank) (content_bounds walls tank) x x room
          ≤ℤ upper_end (content_bounds walls tank) (content_bounds walls tank) y y room
      upper-up x y some other leads =
          upper-rises (content_bounds walls tank) (content_bounds walls tank) x y x y
          (content-fits walls tank x vessel some) (content-fits walls tank y vessel other) leads leads room positive

      contents-at : IsInside (ends stocks inflow s) (contents_over room walls tank wider more first last)
      contents-at = record {
        low = elim low-at [
          | inl leads ↦
              let a = lower-up (exact_least walls wider more first) (exact_least walls stocks inflow s)
              (some-least wider more first) (some-least stocks inflow s) leads in
              let b = min_left (ends wider more first).lo (ends wider more last).lo in omega (arith, ints, a, b)
          | inr leads ↦
              let a = lower-up (exact_least walls wider more last) (exact_least walls stocks inflow s)
              (some-least wider more last) (some-least stocks inflow s) leads in
              let b = min_right (ends wider more first).lo (ends wider more last).lo in omega (arith, ints, a, b)
        ];
        high = elim high-at [
          | inl leads ↦
              let a = upper-up (exact_greatest walls stocks inflow s) (exact_greatest walls wider more first)
              (some-greatest stocks inflow s) (some-greatest wider more first) leads in
              let b = max_left (ends wider more first).hi (ends wider more last).hi in omega (arith, ints, a, b)
          | inr leads ↦
              let a = upper-up (exact_greatest walls stocks inflow s) (exact_greatest walls wider more last)
              (some-greatest stocks inflow s) (some-greatest wider more last) leads in
              let b = max_right (ends wider more first).hi (ends wider more last).hi in omega (arith, ints, a, b)
        ];
      }

  -- over lengths between those of the wider ones
  module _ (shortest longest : ℕ) (from : first ≤ shortest) (order : shortest ≤ longest) (to : longest ≤ last) where
    pub carried_narrower : IsInside (carried_levels_over walls tank stocks inflow shortest longest)
        (carried_levels_over walls tank wider more first last)
    carried_narrower =
        hull-within (carried_levels walls tank stocks inflow shortest) (carried_levels walls tank stocks inflow longest)
        (carried_levels_over walls tank wider more first last)
        (carried-at shortest from (omega (arith, order, to))) (carried-at longest (omega (arith, from, order)) to)

    pub contents_narrower : (room : ℤ) → pos 0 ≤ℤ room
        → IsInside (contents_over room walls tank stocks inflow shortest longest)
        (contents_over room walls tank wider more first last)
    contents_narrower room positive =
        hull-within (contents_after room walls tank stocks inflow shortest)
        (contents_after room walls tank stocks inflow longest) (contents_over room walls tank wider more first last)
        (contents-at shortest from (omega (arith, order, to)) room positive)
        (contents-at longest (omega (arith, from, order)) to room positive)

-- ---- the cut

-- ends that rise with contents
pub record AreRising (ends : Ends) : Type 0 where
  pub low : (x y : Rational) → 0 < x.den → 0 < y.den → Leads 1 1 x y → ends.lower x ≤ℤ ends.lower y
  pub high : (x y : Rational) → 0 < x.den → 0 < y.den → Leads 1 1 x y → ends.upper x ≤ℤ ends.upper y

module _ (widening : ℤ) (positive : pos 0 ≤ℤ widening) (walls : Walls) (tank : Tank) (vessel : IsVessel walls tank)
  where
    pub level_ends_rise : AreRising (level_ends widening walls tank)
    level_ends_rise = record {
      low = λ x y some other leads. lower-levels walls tank vessel x y widening positive some other leads;
      high = λ x y some other leads. upper-levels walls tank vessel x y widening positive some other leads;
    }

    pub content_ends_rise : AreRising (content_ends widening walls tank)
    content_ends_rise = record {
      low = λ x y some other leads. lower-rises (content_bounds walls tank) (content_bounds walls tank) x y x y
          (content-fits walls tank x vessel some) (content-fits walls tank y vessel other) leads leads widening
          positive;
      high = λ x y some other leads. upper-rises (content_bounds walls tank) (content_bounds walls tank) x y x y
          (content-fits walls tank x vessel some) (content-fits walls tank y vessel other) leads leads widening
          positive;
    }

module _ (ends : Ends) (rising : AreRising ends) (walls : Walls) (tank : Tank) (vessel : IsVessel walls tank) where
  some-later : (stock : Stock) (q : ℤ) → 0 < (exact_content walls stock q 1).den
  some-later stock q = exact-some walls stock q 1 vessel.holds_water

  -- a second of a greater inflow leads to more
  second-leads : (stock : Stock) (p q : ℤ) → p ≤ℤ q
      → Leads 1 1 (exact_content walls stock p 1) (exact_content walls stock q 1)
  second-leads stock p q le =
      content-leads 1 1 walls stock stock p q 1 (omega (arith, ints)) (omega (arith, ints, le))

  -- The cut by one level, made of narrower intervals and inflows, lies inside, if it is made on the other side wherever
  -- it is of the wider ones.
  pub cut_narrower : (inflow more : Interval) (target : ℤ) (up sooner later : Bool) (levels wider : Interval)
      → IsInside inflow more → IsInside levels wider → (later ≡ true → sooner ≡ true)
      → IsInside (cut_by ends walls tank inflow
      (record { target = target; rising = up; not_before = sooner }) levels)
      (cut_by ends walls tank more (record { target = target; rising = up; not_before = later }) wider)
  cut_narrower inflow more target true sooner later levels wider less inside implied =
      let goal = goal_stocks walls tank true target in
      let c = ends.lower (least_content walls goal) in
      let p = ends.upper (exact_greatest walls goal inflow 1) in
      let q = ends.upper (exact_greatest walls goal more 1) in
      let le : p ≤ℤ q = rising.high (exact_greatest walls goal inflow 1) (exact_greatest walls goal more 1)
      (some-later (greatest_stock goal) inflow.hi) (some-later (greatest_stock goal) more.hi)
      (second-leads (greatest_stock goal) inflow.hi more.hi less.high) in
      record {
        low = max_is (λ z. z ≤ℤ int_max levels.lo c) wider.lo c
            (λ e. let a = max_left levels.lo c in let b = inside.low in omega (arith, ints, a, b))
            (λ e. max_right levels.lo c);
        high = high-cut levels.hi wider.hi p q sooner later inside.high le implied;
      }
    where
      high-cut : (x y p q : ℤ) (sooner later : Bool) → x ≤ℤ y → p ≤ℤ q → (later ≡ true → sooner ≡ true)
          → (if sooner then int_min x p else x) ≤ℤ (if later then int_min y q else y)
      high-cut x y p q true true le lesser implied =
          min_is (λ z. int_min x p ≤ℤ z) y q
          (λ e. let a = min_left x p in omega (arith, ints, a, le))
          (λ e. let a = min_right x p in omega (arith, ints, a, lesser))
      high-cut x y p q true false le lesser implied = let a = min_left x p in omega (arith, ints, a, le)
      high-cut x y p q false true le lesser implied = absurd (let a = implied refl in cc)
      high-cut x y p q false false le lesser implied = le
  cut_narrower inflow more target false sooner later levels wider less inside implied =
      let goal = goal_stocks walls tank false target in
      let c = ends.upper (greatest_content walls goal) in
      let p = ends.lower (exact_least walls goal inflow 1) in
      let q = ends.lower (exact_least walls goal more 1) in
      let le : q ≤ℤ p = rising.low (exact_least walls goal more 1) (exact_least walls goal inflow 1)
      (some-later (least_stock goal) more.lo) (some-later (least_stock goal) inflow.lo)
      (second-leads (least_stock goal) more.lo inflow.lo less.low) in
      record {
        low = low-cut levels.lo wider.lo p q sooner later inside.low le implied;
        high = min_is (λ z. int_min levels.hi c ≤ℤ z) wider.hi c
            (λ e. let a = min_left levels.hi c in let b = inside.high in omega (arith, ints, a, b))
            (λ e. min_right levels.hi c);
      }
    where
      low-cut : (x y p q : ℤ) (sooner later : Bool) → y ≤ℤ x → q ≤ℤ p → (later ≡ true → sooner ≡ true)
          → (if later then int_max y q else y) ≤ℤ (if sooner then int_max x p else x)
      low-cut x y p q true true le lesser implied =
          max_is (λ z. z ≤ℤ int_max x p) y q
          (λ e. let a = max_left x p in omega (arith, ints, a, le))
          (λ e. let a = max_right x p in omega (arith, ints, a, lesser))
      low-cut x y p q true false le lesser implied = let a = max_left x p in omega (arith, ints, a, le)
      low-cut x y p q false true le lesser implied = absurd (let a = implied refl in cc)
      low-cut x y p q false false le lesser implied = le

-- ---- what is kept

-- where an interval has met a level, each inside it that has a number has
met-inside : (up : Bool) (ticks : ℤ) (inner outer : Interval) → IsOrdered inner → IsInside inner outer
    → is_yes (control_truth outer up ticks) ≡ true → is_yes (control_truth inner up ticks) ≡ true
met-inside up ticks inner outer order inside met =
    let low = carried_meets 1 outer (whole inner.lo) up ticks (around inner.lo inside.low
    (let a = inside.high in omega (arith, ints, a, order))) met in
    let high = carried_meets 1 outer (whole inner.hi) up ticks (around inner.hi
    (let a = inside.low in omega (arith, ints, a, order)) inside.high) met in
    λ i. is_yes (at_both_ends (low i) (high i))
  where
    around : (z : ℤ) → outer.lo ≤ℤ z → z ≤ℤ outer.hi → LiesAround 1 outer (whole z)
    around z least most = record {
      some = omega arith;
      low = omega (arith, ints, least, one_times outer.lo, one_times (pos 1 *ℤ outer.lo));
      high = omega (arith, ints, most, one_times outer.hi, one_times (pos 1 *ℤ outer.hi));
    }

side-inside : (up : Bool) (ticks : ℤ) (x y : Interval) → IsInside x y
    → IsInside (on_side up ticks x) (on_side up ticks y)
side-inside true ticks x y inside = record {
  low = max_is (λ z. z ≤ℤ int_max ticks x.lo) ticks y.lo (λ e. max_left ticks x.lo)
      (λ e. let a = max_right ticks x.lo in let b = inside.low in omega (arith, ints, a, b));
  high = inside.high;
}
side-inside false ticks x y inside = record {
  low = inside.low;
  high = min_is (λ z. int_min ticks x.hi ≤ℤ z) ticks y.hi (λ e. min_left ticks x.hi)
      (λ e. let a = min_right ticks x.hi in let b = inside.high in omega (arith, ints, a, b));
}

side-less : (up : Bool) (ticks : ℤ) (x y : Interval) → IsInside x y → IsInside (on_side up ticks x) y
side-less true ticks x y inside = record {
  low = let a = max_right ticks x.lo in let b = inside.low in omega (arith, ints, a, b);
  high = inside.high;
}
side-less false ticks x y inside = record {
  low = inside.low;
  high = let a = min_right ticks x.hi in let b = inside.high in omega (arith, ints, a, b);
}

pub kept_narrower : (k : ℕ) (inner outer : Interval) → IsOrdered inner → IsInside inner outer
    → (controls : List Control) (x y : Interval) → IsInside x y
    → IsInside (kept controls k inner x) (kept controls k outer y)
kept_narrower k inner outer order carried [] x y inside = inside
kept_narrower k inner outer order carried (control ∷ controls) x y inside =
    kept_narrower k inner outer order carried controls (kept_when k inner control.when x)
    (kept_when k outer control.when y) (here control.when)
  where
    here : (w : When) → IsInside (kept_when k inner w x) (kept_when k outer w y)
    here (AtLevel tank up ticks) =
        cond_both ((tank == k) && is_yes (control_truth outer up ticks)) (on_side up ticks y) y
        (λ z. IsInside (if (tank == k) && is_yes (control_truth inner up ticks) then on_side up ticks x else x) z)
        (λ e. cond_both ((tank == k) && is_yes (control_truth inner up ticks)) (on_side up ticks x) x
        (λ z. IsInside z (on_side up ticks y))
        (λ f. side-inside up ticks x y inside)
        (λ f. absurd (never ((tank == k) && is_yes (control_truth inner up ticks))
        (and-true (tank == k) (is_yes (control_truth inner up ticks)) (both-first _ _ e)
        (met-inside up ticks inner outer order carried (both-second _ _ e))) f)))
        (λ e. cond_both ((tank == k) && is_yes (control_truth inner up ticks)) (on_side up ticks x) x
        (λ z. IsInside z y)
        (λ f. side-less up ticks x y inside)
        (λ f. inside))
    here (AtTime at) = inside
    here (AtClock at) = inside
