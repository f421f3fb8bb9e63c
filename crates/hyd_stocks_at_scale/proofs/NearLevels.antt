-- Which levels lie near an exact one that is held within bounds.
use Rattle.std.proofs.Common.{◌≡◌, ℕ, ◌*◌, ◌<◌, ℤ, pos, ◌+ℤ◌, ◌-ℤ◌, ◌*ℤ◌, ◌≤ℤ◌, List, ap, ◌∙◌, arith}
use Rattle.std.specs.Int.{int_max, int_min}
use Rattle.std.proofs.lemmas.Int.{ints, clamps}
use Rattle.hyd_num.proofs.Integers.{times_plus, times_minus, times_rises, times_reflects, one_times}
use Rattle.hyd_num.specs.Rational.{Rational, floor, ceiling, whole}
use Rattle.hyd_net.specs.Curves.{value_at}
use Rattle.hyd_spec.specs.ProgramTypes.{VolumePoint}
use Rattle.hyd_spec.specs.Scale.{missed_stock_ticks}
use Rattle.hyd_spec.specs.Tank.{Bounds, IsNear, placed, level_knots, level_on_curve}
use Rattle.hyd_lemmas.proofs.Integers.{floor_low, floor_greatest, ceiling_high, ceiling_least}
use Rattle.hyd_theorems_on_definitions.proofs.ValuesByContent.{placed-is}

module _ (S : ℕ) (range : Bounds) (x : Rational) (next : ℤ) (some : 0 < x.den)
    (low : (pos S *ℤ range.least) ≤ℤ next) (high : next ≤ℤ (pos S *ℤ range.most)) where
  abbrev missed : ℤ
  missed = pos S *ℤ pos missed_stock_ticks

  abbrev least : ℤ
  least = pos S *ℤ range.least

  abbrev most : ℤ
  most = pos S *ℤ range.most

  -- the rounded value, held within the bounds
  abbrev held : ℤ → ℤ
  held z = int_min (int_max z least) most

  order : least ≤ℤ most
  order = omega (arith, ints, low, high)

  nothing : pos 0 ≤ℤ missed
  nothing = omega (arith, ints)

  -- near a whole number
  near-whole : (w : ℤ) → (w -ℤ missed) ≤ℤ next → next ≤ℤ (w +ℤ missed) → IsNear S range (whole w) next
  near-whole w a b = record {
    near_below = omega (arith, ints, a, one_times next, one_times missed);
    near_above = omega (arith, ints, b, one_times next, one_times missed);
    above_least = low;
    below_most = high;
  }

  pub near_is : (held (ceiling x) -ℤ missed) ≤ℤ next → next ≤ℤ (held (floor x) +ℤ missed)
      → IsNear S range (placed S range range x x) next
  near_is a b =
      placed-is (λ r. IsNear S range r next) S range range x x
      (λ h. let f = floor_greatest x most some h in
      let c = times_reflects x.den most (ceiling x) some (let k = ceiling_high x some in omega (arith, ints, h, k)) in
      near-whole most (omega (arith, ints, clamps, a, c, order))
      (omega (arith, ints, clamps, b, f, order, high, nothing)))
      (λ s h. let c = ceiling_least x least some h in
      let f = times_reflects x.den (floor x) least some (let k = floor_low x some in omega (arith, ints, h, k)) in
      near-whole least (omega (arith, ints, low, nothing)) (omega (arith, ints, clamps, b, f, order)))
      (λ s h. let f = floor_greatest x least some (omega (arith, ints, h)) in
      let c = ceiling_least x most some (omega (arith, ints, s)) in
      let g = times_reflects x.den (floor x) most some (let k = floor_low x some in omega (arith, ints, s, k)) in
      let d = times_reflects x.den least (ceiling x) some (let k = ceiling_high x some in omega (arith, ints, h, k)) in
      let above : ceiling x ≤ℤ (next +ℤ missed) = omega (arith, ints, clamps, a, c, d) in
      let below : (next -ℤ missed) ≤ℤ floor x = omega (arith, ints, clamps, b, f, g) in
      let p = times_rises x.den (ceiling x) (next +ℤ missed) above in
      let q = times_rises x.den (next -ℤ missed) (floor x) below in
      record {
        near_below = (let k = ceiling_high x some in omega (arith, ints, p, k, times_plus x.den next missed));
        near_above = (let k = floor_low x some in omega (arith, ints, q, k, times_minus x.den next missed));
        above_least = low;
        below_most = high;
      })

  pub near_back : IsNear S range (placed S range range x x) next
      → ((held (ceiling x) -ℤ missed) ≤ℤ next) × (next ≤ℤ (held (floor x) +ℤ missed))
  near_back near =
      placed-is (λ r. IsNear S range r next → ((held (ceiling x) -ℤ missed) ≤ℤ next)
      × (next ≤ℤ (held (floor x) +ℤ missed))) S range range x x
      (λ h n. let f = floor_greatest x most some h in
      let a = n.near_below in
      let b = n.near_above in (
        omega (arith, ints, clamps, a, order, one_times next, one_times missed),
        omega (arith, ints, clamps, f, order, high, nothing),
      ))
      (λ s h n. let c = ceiling_least x least some h in
      let b = n.near_above in (
        omega (arith, ints, clamps, c, order, low, nothing),
        omega (arith, ints, clamps, b, order, one_times next, one_times missed),
      ))
      (λ s h n. let a = n.near_below in
      let b = n.near_above in
      let above = ceiling_least x (next +ℤ missed) some (omega (arith, ints, a, times_plus x.den next missed)) in
      let below = floor_greatest x (next -ℤ missed) some (omega (arith, ints, b, times_minus x.den next missed)) in (
        omega (arith, ints, clamps, above, low, nothing),
        omega (arith, ints, clamps, below, high, nothing),
      ))
      near

-- the level on a volume curve's lines at a whole volume
pub level_at_whole : (S : ℕ) (points : List VolumePoint) (volume : ℤ) → value_at S (level_knots points) volume
    ≡ level_on_curve S points (whole volume)
level_at_whole S points volume =
    same S (S * 1) volume (omega arith)
    ∙ once (value_at (S * 1) (level_knots points) volume)
  where
    same : (a b : ℕ) (z : ℤ) → a ≡ b → value_at a (level_knots points) z ≡ value_at b (level_knots points) z
    same a b z e = ap (λ (k : ℕ). value_at k (level_knots points) z) e

    once : (r : Rational) → r ≡ record { num = r.num; den = r.den * 1 }
    once r = ap (λ (d : ℕ). (let m : Rational = record { num = r.num; den = d } in m))
        (let e : r.den ≡ r.den * 1 = omega arith in e)
