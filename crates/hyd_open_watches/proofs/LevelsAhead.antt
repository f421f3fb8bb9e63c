-- Watched levels lie ahead of their tanks, and those that may have been reached are in their reach.
use Rattle.std.proofs.Common.{◌≡◌, ◌⊎◌, inl, inr, ℕ, ◌*◌, ◌^◌, ◌<◌, ℤ, pos, ◌+ℤ◌, ◌*ℤ◌, ◌≤ℤ◌, ◌<ℤ◌, Bool, true, false}
use Rattle.std.proofs.Common.{List, refl, ap, arith}
use Rattle.std.specs.Prelude.{Option, Some, None, slice_get, int_le, if◌then◌else◌}
use Rattle.std.proofs.lemmas.Int.{ints}
use Rattle.hyd_num.specs.Rational.{Rational, whole}
use Rattle.hyd_num.proofs.Integers.{times_rises, times_reflects, times_plus, times_one, one_times}
use Rattle.hyd_net.specs.Curves.{volume_at}
use Rattle.hyd_net.specs.Sound.{IsSound}
use Rattle.hyd_spec.specs.ProgramTypes.{Project, Tank, VolumePoint}
use Rattle.hyd_spec.specs.WholeNumbers.{is_same_number}
use Rattle.hyd_spec.specs.Tank.{Walls, Cylinder, Curve, Stock, level_bounds, content_bounds, exact_content}
use Rattle.hyd_spec.specs.Tank.{reaches, is_bound, carried_level, level_at, level_on_curve}
use Rattle.hyd_spec_certificates.specs.Interval.{Interval}
use Rattle.hyd_spec_certificates.specs.Stocks.{Stocks, greatest_stock, least_stock, may_reach}
use Rattle.hyd_spec_certificates.specs.Decided.{control_truth}
use Rattle.hyd_spec_certificates.specs.ThreeValuedLogic.{at_both_ends, is_yes}
use Rattle.hyd_theorems_on_definitions.specs.LyingInIntervals.{IsWithin}
use Rattle.hyd_theorems_on_definitions.specs.SoundTanks.{IsVessel, HoldWater}
use Rattle.hyd_theorems_on_definitions.proofs.StocksInIntervals.{curve-some}
use Rattle.hyd_theorems_on_definitions.proofs.ValuesByContent.{above-yes, above-no, below-yes, below-no, placed-is}
use Rattle.hyd_theorems_on_definitions.proofs.ValuesByContent.{placed-some}
use Rattle.hyd_lemmas.proofs.BooleanTests.{le-yes, both-first, both-second}
use Rattle.hyd_tank.specs.StockIntervals.{IsTankOf, IsTankOfRange, AreHeld}
use Rattle.hyd_tank.proofs.TanksOfSoundNetworks.{tank_of, is_cylinder, is_basin}
use Rattle.hyd_open_stocks.specs.LevelsInReach.{IsInReach}
use Rattle.hyd_open_watches.specs.Candidates.{IsAhead}

sign : (z : ℤ) → (pos 0 ≤ℤ z) ⊎ (z <ℤ pos 0)
sign z = grind (arith, ints)

-- ---- ranges

range-by : (project : Project) (tank : Tank) (shape : Option ℕ) → tank.shape ≡ shape → IsTankOf project tank
    → IsTankOfRange tank
range-by project tank None e is = (is_cylinder project tank e is).levels
range-by project tank (Some n) e is = (is_basin project tank n e is).1.levels

pub range_of : (project : Project) → IsSound project → (k : ℕ) (tank : Tank)
    → slice_get project.tanks.list k ≡ Some tank
    → IsTankOfRange tank
range_of project sound k tank at = range-by project tank tank.shape refl (tank_of project sound k tank at)

-- ---- controls

one-short : (a b : Bool) → is_yes (at_both_ends a b) ≡ false → (a ≡ false) ⊎ (b ≡ false)
one-short true true e = absurd (cc)
one-short true false e = inr refl
one-short false b e = inl refl

under : (z t : ℤ) → reaches 1 true t (whole z) ≡ false → z <ℤ t
under z t e = let l = above-no 1 t (whole z) e in
    omega (arith, ints, l, one_times t, one_times (pos 1 *ℤ t))

over : (z t : ℤ) → reaches 1 false t (whole z) ≡ false → t <ℤ z
over z t e = let l = below-no 1 t (whole z) e in
    omega (arith, ints, l, one_times t, one_times (pos 1 *ℤ t))

-- a level control that doesn't hold on all of a tank's levels has its level ahead
pub not_held_ahead : (tank : Tank) (level : Interval) (above : Bool) (ticks : ℤ) → IsWithin (level_bounds tank) level
    → is_yes (control_truth level above ticks) ≡ false → IsAhead tank ticks above
not_held_ahead tank level true ticks within e = elim (one-short (reaches 1 true ticks (whole level.lo))
    (reaches 1 true ticks (whole level.hi)) e) [
      | inl a ↦ let l = under level.lo ticks a in let w = within.lo_above in omega (arith, ints, l, w)
      | inr b ↦ let l = under level.hi ticks b in let w = within.hi_above in omega (arith, ints, l, w)
    ]
not_held_ahead tank level false ticks within e = elim (one-short (reaches 1 false ticks (whole level.lo))
    (reaches 1 false ticks (whole level.hi)) e) [
      | inl a ↦ let l = over level.lo ticks a in let w = within.lo_below in omega (arith, ints, l, w)
      | inr b ↦ let l = over level.hi ticks b in let w = within.hi_below in omega (arith, ints, l, w)
    ]

-- ---- tanks with a volume curve

module _ (points : List VolumePoint) (tank : Tank) (order : tank.minimum ≤ℤ tank.maximum) (stock : Stock) (q : ℤ)
    (seconds : ℕ) where
  abbrev carried : Rational
  carried = carried_level 1 (Curve points) tank stock q seconds

  carried-most : carried.num ≤ℤ (pos carried.den *ℤ (pos 1 *ℤ tank.maximum))
  carried-most =
      let x = exact_content (Curve points) stock q seconds in
      let level = level_on_curve 1 points x in
      placed-is (λ (r : Rational). r.num ≤ℤ (pos r.den *ℤ (pos 1 *ℤ tank.maximum))) 1
      (content_bounds (Curve points) tank) (level_bounds tank) x (level_at 1 (Curve points) tank x)
      (λ h. omega (arith, ints, one_times (pos 1 *ℤ tank.maximum)))
      (λ h l. omega (
        arith,
        ints,
        one_times (pos 1 *ℤ tank.maximum),
        one_times tank.maximum,
        one_times tank.minimum,
        order,
      ))
      (λ h l. placed-is (λ (r : Rational). r.num ≤ℤ (pos r.den *ℤ (pos 1 *ℤ tank.maximum))) 1 (level_bounds tank)
      (level_bounds tank) level level
      (λ m. omega (arith, ints, one_times (pos 1 *ℤ tank.maximum)))
      (λ m n. omega (
        arith,
        ints,
        one_times (pos 1 *ℤ tank.maximum),
        one_times tank.maximum,
        one_times tank.minimum,
        order,
      ))
      (λ m n. omega (arith, ints, m)))

  carried-least : (pos carried.den *ℤ (pos 1 *ℤ tank.minimum)) ≤ℤ carried.num
  carried-least =
      let x = exact_content (Curve points) stock q seconds in
      let level = level_on_curve 1 points x in
      placed-is (λ (r : Rational). (pos r.den *ℤ (pos 1 *ℤ tank.minimum)) ≤ℤ r.num) 1
      (content_bounds (Curve points) tank) (level_bounds tank) x (level_at 1 (Curve points) tank x)
      (λ h. omega (
        arith,
        ints,
        one_times (pos 1 *ℤ tank.minimum),
        one_times tank.maximum,
        one_times tank.minimum,
        order,
      ))
      (λ h l. omega (arith, ints, one_times (pos 1 *ℤ tank.minimum)))
      (λ h l. placed-is (λ (r : Rational). (pos r.den *ℤ (pos 1 *ℤ tank.minimum)) ≤ℤ r.num) 1 (level_bounds tank)
      (level_bounds tank) level level
      (λ m. omega (
        arith,
        ints,
        one_times (pos 1 *ℤ tank.minimum),
        one_times tank.maximum,
        one_times tank.minimum,
        order,
      ))
      (λ m n. omega (arith, ints, one_times (pos 1 *ℤ tank.minimum)))
      (λ m n. omega (arith, ints, n)))

  carried-some : HoldWater (Curve points) → 0 < carried.den
  carried-some holds =
      let x = exact_content (Curve points) stock q seconds in
      let level = level_on_curve 1 points x in
      placed-some 1 (content_bounds (Curve points) tank) (level_bounds tank) x (level_at 1 (Curve points) tank x)
      (placed-some 1 (level_bounds tank) (level_bounds tank) level level (curve-some 1 points x holds (omega arith)))

by-test : (P : Type 0) (b A B : Bool) → (if b then A else B) ≡ true → (b ≡ true → P) → (B ≡ true → P) → P
by-test P true A B e f g = f refl
by-test P false A B e f g = g e

same-as : (a b : ℤ) → is_same_number a b ≡ true → a ≡ b
same-as a b e =
    let l = le-yes a b (both-first (int_le a b) (int_le b a) e) in
    let m = le-yes b a (both-second (int_le a b) (int_le b a) e) in
    omega (arith, ints, l, m)

-- a level that may have been reached, and isn't behind the tank, is in its reach
pub in_reach : (walls : Walls) (tank : Tank) (stocks : Stocks) (inflow : Interval) (target : ℤ) (rising : Bool)
    (seconds : ℕ) → IsVessel walls tank → AreHeld walls tank stocks → IsAhead tank target rising
    → may_reach walls tank stocks inflow target rising seconds ≡ true → IsInReach walls tank inflow target rising
in_reach (Cylinder area) tank stocks inflow target true seconds vessel held ahead reached = (ahead, λ over. forth over)
  where
    forth : tank.maximum <ℤ target → pos 0 ≤ℤ inflow.hi
    forth over = elim (sign inflow.hi) [
      | inl up ↦ up
      | inr down ↦
          let N = seconds * 10 ^ 15 in
          let a = above-yes 1 target (exact_content (Cylinder area)
          (greatest_stock stocks) inflow.hi seconds) reached in
          let most = held.level.hi_below in
          let t = times_rises (86400 * area) (stocks.level.hi +ℤ pos 1) target (omega (arith, ints, most, over)) in
          let n = times_rises N inflow.hi (pos 0) (omega (arith, ints, down)) in
          let z : pos N *ℤ pos 0 ≡ pos 0 = omega (arith, ints) in
          let some = vessel.holds_water in
          let o = times_one (86400 * area) in
          let p = times_plus (86400 * area) stocks.level.hi (pos 1) in
          let e : pos (86400 * area) *ℤ (pos 1 *ℤ target) ≡ pos (86400 * area) *ℤ target =
          ap (λ (y : ℤ). pos (86400 * area) *ℤ y) (one_times target) in
          absurd (omega (arith, ints, a, t, n, z, some, o, p, e))
    ]
in_reach (Cylinder area) tank stocks inflow target false seconds vessel held ahead reached =
    (ahead, λ short. back short)
  where
    back : target <ℤ tank.minimum → inflow.lo ≤ℤ pos 0
    back short = elim (sign inflow.lo) [
      | inr down ↦ omega (arith, ints, down)
      | inl up ↦
          let N = seconds * 10 ^ 15 in
          let a = below-yes 1 target (exact_content (Cylinder area) (least_stock stocks) inflow.lo seconds) reached in
          let least = held.level.lo_above in
          let t = times_rises (86400 * area) (target +ℤ pos 1) stocks.level.lo (omega (arith, ints, least, short)) in
          let n = times_rises N (pos 0) inflow.lo up in
          let z : pos N *ℤ pos 0 ≡ pos 0 = omega (arith, ints) in
          let some = vessel.holds_water in
          let o = times_one (86400 * area) in
          let p = times_plus (86400 * area) target (pos 1) in
          let e : pos (86400 * area) *ℤ (pos 1 *ℤ target) ≡ pos (86400 * area) *ℤ target =
          ap (λ (y : ℤ). pos (86400 * area) *ℤ y) (one_times target) in
          absurd (omega (arith, ints, a, t, n, z, some, o, p, e))
    ]
in_reach (Curve points) tank stocks inflow target true seconds vessel held ahead reached = record {
  at_least = ahead;
  at_most = by-test (target ≤ℤ tank.maximum) (is_bound tank true target)
      (reaches 1 true (volume_at points target)
      (exact_content (Curve points) (greatest_stock stocks) inflow.hi seconds))
      (reaches 1 true target (carried points tank vessel.ordered (greatest_stock stocks) inflow.hi seconds)) reached
      (λ is. let e = same-as tank.maximum target is in omega (arith, ints, e))
      (λ met.
      let r = carried points tank vessel.ordered (greatest_stock stocks) inflow.hi seconds in
      let a = above-yes 1 target r met in
      let m = carried-most points tank vessel.ordered (greatest_stock stocks) inflow.hi seconds in
      let some = carried-some points tank vessel.ordered (greatest_stock stocks) inflow.hi seconds vessel.holds_water in
      let l = times_reflects r.den (pos 1 *ℤ target) (pos 1 *ℤ tank.maximum) some (omega (arith, ints, a, m)) in
      omega (arith, ints, l, one_times target, one_times tank.maximum));
}
in_reach (Curve points) tank stocks inflow target false seconds vessel held ahead reached = record {
  at_most = ahead;
  at_least = by-test (tank.minimum ≤ℤ target) (is_bound tank false target)
      (reaches 1 false (volume_at points target)
      (exact_content (Curve points) (least_stock stocks) inflow.lo seconds))
      (reaches 1 false target (carried points tank vessel.ordered (least_stock stocks) inflow.lo seconds)) reached
      (λ is. let e = same-as tank.minimum target is in omega (arith, ints, e))
      (λ met.
      let r = carried points tank vessel.ordered (least_stock stocks) inflow.lo seconds in
      let a = below-yes 1 target r met in
      let m = carried-least points tank vessel.ordered (least_stock stocks) inflow.lo seconds in
      let some = carried-some points tank vessel.ordered (least_stock stocks) inflow.lo seconds vessel.holds_water in
      let l = times_reflects r.den (pos 1 *ℤ tank.minimum) (pos 1 *ℤ target) some (omega (arith, ints, a, m)) in
      omega (arith, ints, l, one_times target, one_times tank.minimum));
}
