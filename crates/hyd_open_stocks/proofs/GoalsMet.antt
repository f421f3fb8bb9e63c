-- Ends that go with the contents at which a level is met, at once and a second later, by the held goal.
use Rattle.std.proofs.Common.{◌≡◌, ℕ, ◌*◌, ◌^◌, ◌<◌, ℤ, pos, ◌+ℤ◌, ◌-ℤ◌, ◌*ℤ◌, ◌≤ℤ◌, ◌<ℤ◌, Bool, true, false, refl, sym}
use Rattle.std.proofs.Common.{ap}
use Rattle.std.proofs.Common.{◌∙◌, subst, inl, inr, ◌⊎◌, arith}
use Rattle.std.specs.Prelude.{Option}
use Rattle.std.specs.Int.{int_max, int_min}
use Rattle.std.proofs.lemmas.Int.{ints, clamps}
use Rattle.hyd_num.specs.Rational.{Rational}
use Rattle.hyd_spec.specs.ProgramTypes.{Tank}
use Rattle.hyd_spec.specs.Scale.{missed_stock_ticks}
use Rattle.hyd_spec.specs.Tank.{Walls, Cylinder, Curve, content_bounds}
use Rattle.hyd_spec_certificates.specs.Interval.{Interval, exactly}
use Rattle.hyd_spec_certificates.specs.Stocks.{Stocks, exact_least, exact_greatest, lower_end, upper_end, lower_level}
use Rattle.hyd_spec_certificates.specs.Stocks.{upper_level, contents_after, carried_levels, next_stocks}
use Rattle.hyd_spec_open_ends.specs.StocksOverLengths.{Ends, Arrival, goal_stocks, goal_volume, least_content}
use Rattle.hyd_spec_open_ends.specs.StocksOverLengths.{greatest_content, cut_by, level_ends, content_ends}
use Rattle.hyd_spec_open_ends.specs.StocksOverLengths.{contents_at_end, stocks_at_end}
use Rattle.hyd_theorems_on_definitions.specs.SoundTanks.{IsVessel}
use Rattle.hyd_tank.specs.StockIntervals.{stocks_of}
use Rattle.hyd_open_stocks.specs.declared.goals.Goal.{Goal}
use Rattle.hyd_open_stocks.specs.EndsOfContents.{cut_to, stocks_with}
use Rattle.hyd_open_stocks.specs.Goals.{IsGoal, AreAtOnce, IsLater}
use Rattle.hyd_open_stocks.specs.LevelsInReach.{IsInReach}
use Rattle.hyd_open_stocks.proofs.SameEnds.{HaveSameEnds, one, content, held_same}
use Rattle.hyd_open_stocks.proofs.SameEnds.{lower_same, upper_same, lower_content_same, upper_content_same}

sign : (z : ℤ) → (pos 0 ≤ℤ z) ⊎ (z <ℤ pos 0)
sign z = grind (arith, ints)

-- at once
module _ (tank : Tank) (rising : Bool) (target : ℤ) (goal : Goal) where
  pub least_met : (walls : Walls) → IsVessel walls tank
      → (content_bounds walls tank).least <ℤ (content_bounds walls tank).most → IsGoal walls tank rising target goal
      → HaveSameEnds (content_bounds walls tank) (least_content walls (goal_stocks walls tank rising target))
      (least_content walls (stocks_of goal.stock))
  least_met (Cylinder area) vessel apart is =
      held_same (content_bounds (Cylinder area) tank) (86400 * area) target goal.stock.level.lo (pos 0)
      (let h = vessel.holds_water in omega (arith, h)) apart (ap (λ (x : Interval). x.lo) is.contents)
      (λ h. omega (arith, ints)) (λ h. omega (arith, ints))
  least_met (Curve points) vessel apart is =
      held_same (content_bounds (Curve points) tank) 864 (goal_volume points tank rising target).lo
      goal.stock.volume.lo (pos 0) (omega arith) apart (ap (λ (x : Interval). x.lo) is.contents)
      (λ h. omega (arith, ints)) (λ h. omega (arith, ints))

  pub greatest_met : (walls : Walls) → IsVessel walls tank
      → (content_bounds walls tank).least <ℤ (content_bounds walls tank).most → IsGoal walls tank rising target goal
      → HaveSameEnds (content_bounds walls tank) (greatest_content walls (goal_stocks walls tank rising target))
      (greatest_content walls (stocks_of goal.stock))
  greatest_met (Cylinder area) vessel apart is =
      held_same (content_bounds (Cylinder area) tank) (86400 * area) target goal.stock.level.hi (pos 0)
      (let h = vessel.holds_water in omega (arith, h)) apart (ap (λ (x : Interval). x.hi) is.contents)
      (λ h. omega (arith, ints)) (λ h. omega (arith, ints))
  greatest_met (Curve points) vessel apart is =
      held_same (content_bounds (Curve points) tank) 864 (goal_volume points tank rising target).hi
      goal.stock.volume.hi (pos 0) (omega arith) apart (ap (λ (x : Interval). x.hi) is.contents)
      (λ h. omega (arith, ints)) (λ h. omega (arith, ints))

-- the flow by which the stock of the goal goes on
pub record GoesOn (goal : Goal) (inflow flow : Interval) : Type 0 where
  pub lo : flow.lo ≡ inflow.lo
  pub forth : pos 0 ≤ℤ inflow.hi → flow.hi ≡ inflow.hi
  pub back : inflow.hi <ℤ pos 0 → flow.hi ≡ inflow.hi +ℤ (pos 864 *ℤ goal.beyond)

-- a second later, where the tank rises to the level
pub risen : (walls : Walls) (tank : Tank) (target : ℤ) (goal : Goal) (inflow flow : Interval) → IsVessel walls tank
    → (content_bounds walls tank).least <ℤ (content_bounds walls tank).most → IsGoal walls tank true target goal
    → IsInReach walls tank inflow target true → GoesOn goal inflow flow
    → HaveSameEnds (content_bounds walls tank) (exact_greatest walls (goal_stocks walls tank true target) inflow 1)
    (exact_greatest walls (stocks_of goal.stock) flow 1)
risen (Cylinder area) tank target goal inflow flow vessel apart is reach on =
    let none = is.beyond in
    let not_under = reach.0 in
    let same : flow.hi ≡ inflow.hi = elim (sign inflow.hi) [
      | inl forth ↦ on.forth forth
      | inr back ↦ let e = on.back back in omega (arith, ints, e, none)
    ] in
    subst (λ (q : ℤ). HaveSameEnds (content_bounds (Cylinder area) tank)
    (exact_greatest (Cylinder area) (goal_stocks (Cylinder area) tank true target) inflow 1)
    (content (86400 * area) goal.stock.level.hi (pos (1 * 10 ^ 15) *ℤ q))) (sym same)
    (held_same (content_bounds (Cylinder area) tank) (86400 * area) target goal.stock.level.hi
    (pos (1 * 10 ^ 15) *ℤ inflow.hi)
    (let h = vessel.holds_water in omega (arith, h)) apart (ap (λ (x : Interval). x.hi) is.contents)
    (λ over. let f = reach.1 over in omega (arith, ints, f)) (λ short. absurd (omega (arith, ints, short, not_under))))
risen (Curve points) tank target goal inflow flow vessel apart is reach on =
    let G = goal_volume points tank true target in
    let H = goal.stock.volume.hi in
    let short = is.not_short in
    let e = is.beyond.1 in
    let held : H ≡ int_min (int_max G.hi (content_bounds (Curve points) tank).least)
    (content_bounds (Curve points) tank).most = ap (λ (x : Interval). x.hi) is.contents in
    elim (sign inflow.hi) [
      | inl forth ↦ subst (λ (q : ℤ). HaveSameEnds (content_bounds (Curve points) tank)
          (exact_greatest (Curve points) (goal_stocks (Curve points) tank true target) inflow 1)
          (content 864 H (pos 1 *ℤ q))) (sym (on.forth forth))
          (held_same (content_bounds (Curve points) tank) 864 G.hi H (pos 1 *ℤ inflow.hi) (omega arith) apart held
          (λ over. omega (arith, ints, forth))
          (λ under. absurd (omega (arith, ints, clamps, under, held, apart, e, short))))
      | inr back ↦
          let b = on.back back in
          one (ap (λ (n : ℤ). (let r : Rational = record { num = n; den = 864 } in r))
          (let s : (pos 864 *ℤ H) +ℤ (pos 1 *ℤ flow.hi) ≡ (pos 864 *ℤ G.hi) +ℤ (pos 1 *ℤ inflow.hi) =
          omega (arith, ints, b, e) in s))
    ]

-- and where it falls to it
pub fallen : (walls : Walls) (tank : Tank) (target : ℤ) (goal : Goal) (inflow flow : Interval) → IsVessel walls tank
    → (content_bounds walls tank).least <ℤ (content_bounds walls tank).most → IsGoal walls tank false target goal
    → IsInReach walls tank inflow target false → GoesOn goal inflow flow
    → HaveSameEnds (content_bounds walls tank) (exact_least walls (goal_stocks walls tank false target) inflow 1)
    (exact_least walls (stocks_of goal.stock) flow 1)
fallen (Cylinder area) tank target goal inflow flow vessel apart is reach on =
    let not_over = reach.0 in
    subst (λ (q : ℤ). HaveSameEnds (content_bounds (Cylinder area) tank)
    (exact_least (Cylinder area) (goal_stocks (Cylinder area) tank false target) inflow 1)
    (content (86400 * area) goal.stock.level.lo (pos (1 * 10 ^ 15) *ℤ q))) (sym on.lo)
    (held_same (content_bounds (Cylinder area) tank) (86400 * area) target goal.stock.level.lo
    (pos (1 * 10 ^ 15) *ℤ inflow.lo)
    (let h = vessel.holds_water in omega (arith, h)) apart (ap (λ (x : Interval). x.lo) is.contents)
    (λ over. absurd (omega (arith, ints, over, not_over))) (λ short. let f = reach.1 short in omega (arith, ints, f)))
fallen (Curve points) tank target goal inflow flow vessel apart is reach on =
    one (ap (λ (v : ℤ). content 864 v (pos 1 *ℤ flow.lo)) is.beyond.0
    ∙ ap (λ (q : ℤ). content 864 (goal_volume points tank false target).lo (pos 1 *ℤ q)) on.lo)

-- ---- ends that go with them

no-flow : (flow : Interval) → flow.lo ≡ pos 0 → flow.hi ≡ pos 0 → flow ≡ exactly (pos 0)
no-flow flow a b = λ i. record { lo = a i; hi = b i }

module _ (walls : Walls) (tank : Tank) (vessel : IsVessel walls tank)
    (apart : (content_bounds walls tank).least <ℤ (content_bounds walls tank).most) (goal : Goal) where
  pub carried_met : (rising : Bool) (target : ℤ) (flow x : Interval) → flow.lo ≡ pos 0 → flow.hi ≡ pos 0
      → IsGoal walls tank rising target goal → x ≡ carried_levels walls tank (stocks_of goal.stock) flow 0
      → AreAtOnce (level_ends (pos 0) walls tank) walls tank rising target x
  carried_met rising target flow x a b is e =
      let f = no-flow flow a b in
      record {
        lo = ap (λ (y : Interval). y.lo) e
            ∙ ap (λ (q : Interval). lower_level walls tank (exact_least walls (stocks_of goal.stock) q 0) (pos 0)) f
            ∙ lower_same walls tank (pos 0) (least_content walls (goal_stocks walls tank rising target))
            (least_content walls (stocks_of goal.stock)) (least_met tank rising target goal walls vessel apart is);
        hi = ap (λ (y : Interval). y.hi) e
            ∙ ap (λ (q : Interval). upper_level walls tank (exact_greatest walls (stocks_of goal.stock) q 0) (pos 0)) f
            ∙ upper_same walls tank (pos 0) (greatest_content walls (goal_stocks walls tank rising target))
            (greatest_content walls (stocks_of goal.stock)) (greatest_met tank rising target goal walls vessel apart
            is);
      }

  pub next_met : (room : ℤ) (rising : Bool) (target : ℤ) (flow x : Interval) → flow.lo ≡ pos 0 → flow.hi ≡ pos 0
      → IsGoal walls tank rising target goal → x ≡ contents_after room walls tank (stocks_of goal.stock) flow 0
      → AreAtOnce (content_ends room walls tank) walls tank rising target x
  next_met room rising target flow x a b is e =
      let f = no-flow flow a b in
      let bounds = content_bounds walls tank in
      record {
        lo = ap (λ (y : Interval). y.lo) e
            ∙ ap (λ (q : Interval). lower_end bounds bounds (exact_least walls (stocks_of goal.stock) q 0)
            (exact_least walls (stocks_of goal.stock) q 0) room) f
            ∙ lower_content_same bounds room (least_content walls (goal_stocks walls tank rising target))
            (least_content walls (stocks_of goal.stock)) (least_met tank rising target goal walls vessel apart is);
        hi = ap (λ (y : Interval). y.hi) e
            ∙ ap (λ (q : Interval). upper_end bounds bounds (exact_greatest walls (stocks_of goal.stock) q 0)
            (exact_greatest walls (stocks_of goal.stock) q 0) room) f
            ∙ upper_content_same bounds room (greatest_content walls (goal_stocks walls tank rising target))
            (greatest_content walls (stocks_of goal.stock)) (greatest_met tank rising target goal walls vessel apart
            is);
      }

  pub carried_goes_on : (rising : Bool) (target : ℤ) (inflow flow x : Interval) → GoesOn goal inflow flow
      → IsInReach walls tank inflow target rising → IsGoal walls tank rising target goal
      → x ≡ carried_levels walls tank (stocks_of goal.stock) flow 1
      → IsLater (level_ends (pos 0) walls tank) walls tank inflow rising target x
  carried_goes_on true target inflow flow x on reach is e =
      ap (λ (y : Interval). y.hi) e
      ∙ upper_same walls tank (pos 0) (exact_greatest walls (goal_stocks walls tank true target) inflow 1)
      (exact_greatest walls (stocks_of goal.stock) flow 1) (risen walls tank target goal inflow flow vessel apart is
      reach on)
  carried_goes_on false target inflow flow x on reach is e =
      ap (λ (y : Interval). y.lo) e
      ∙ lower_same walls tank (pos 0) (exact_least walls (goal_stocks walls tank false target) inflow 1)
      (exact_least walls (stocks_of goal.stock) flow 1) (fallen walls tank target goal inflow flow vessel apart is reach
      on)

  pub next_goes_on : (room : ℤ) (rising : Bool) (target : ℤ) (inflow flow x : Interval) → GoesOn goal inflow flow
      → IsInReach walls tank inflow target rising → IsGoal walls tank rising target goal
      → x ≡ contents_after room walls tank (stocks_of goal.stock) flow 1
      → IsLater (content_ends room walls tank) walls tank inflow rising target x
  next_goes_on room true target inflow flow x on reach is e =
      ap (λ (y : Interval). y.hi) e
      ∙ upper_content_same (content_bounds walls tank) room
      (exact_greatest walls (goal_stocks walls tank true target) inflow 1)
      (exact_greatest walls (stocks_of goal.stock) flow 1) (risen walls tank target goal inflow flow vessel apart is
      reach on)
  next_goes_on room false target inflow flow x on reach is e =
      ap (λ (y : Interval). y.lo) e
      ∙ lower_content_same (content_bounds walls tank) room
      (exact_least walls (goal_stocks walls tank false target) inflow 1)
      (exact_least walls (stocks_of goal.stock) flow 1) (fallen walls tank target goal inflow flow vessel apart is reach
      on)

-- ---- what is left

pub cut_is : (ends : Ends) (walls : Walls) (tank : Tank) (inflow : Interval) (target : ℤ) (rising not_before : Bool)
    (once later x : Interval) → AreAtOnce ends walls tank rising target once
    → IsLater ends walls tank inflow rising target later
    → cut_to (record { target = target; rising = rising; not_before = not_before }) once later x
    ≡ cut_by ends walls tank inflow (record { target = target; rising = rising; not_before = not_before }) x
cut_is ends walls tank inflow target true true once later x at_once after =
    λ i. record { lo = int_max x.lo (at_once.lo i); hi = int_min x.hi (after i) }
cut_is ends walls tank inflow target true false once later x at_once after =
    λ i. record { lo = int_max x.lo (at_once.lo i); hi = x.hi }
cut_is ends walls tank inflow target false true once later x at_once after =
    λ i. record { lo = int_max x.lo (after i); hi = int_min x.hi (at_once.hi i) }
cut_is ends walls tank inflow target false false once later x at_once after =
    λ i. record { lo = x.lo; hi = int_min x.hi (at_once.hi i) }

-- the stocks after one length are those of the contents after it
pub next_with : (walls : Walls) (tank : Tank) (stocks : Stocks) (inflow : Interval) (seconds : ℕ)
    → next_stocks walls tank stocks inflow seconds
    ≡ stocks_with walls tank (contents_after (pos missed_stock_ticks) walls tank stocks inflow seconds)
next_with (Cylinder area) tank stocks inflow seconds = refl
next_with (Curve points) tank stocks inflow seconds = refl

-- and so are those at the end
pub left_with : (walls : Walls) (tank : Tank) (stocks : Stocks) (inflow : Interval) (shortest longest : ℕ)
    (arrival : Option Arrival) → stocks_with walls tank
    (contents_at_end walls tank stocks inflow shortest longest arrival)
    ≡ stocks_at_end walls tank stocks inflow shortest longest arrival
left_with (Cylinder area) tank stocks inflow shortest longest arrival = refl
left_with (Curve points) tank stocks inflow shortest longest arrival = refl
