-- The knots of the curves of pumps and of general purpose valves are in order.
use Rattle.std.proofs.Common.{◌≡◌, ℕ, zero, suc, ◌+◌, ◌-◌, ◌*◌, ◌/◌, ◌^◌, ◌<◌, ◌≤◌, ℤ, pos, negsuc, neg_ℤ, ◌*ℤ◌, ◌≤ℤ◌}
use Rattle.std.proofs.Common.{◌<ℤ◌, List, length, map, get_or, reverse, ap, ◌∙◌, arith}
use Rattle.std.proofs.Math.Nat.{mul-div-le}
use Rattle.std.proofs.lemmas.Nat.{le-div}
use Rattle.std.proofs.lemmas.Int.{ints, by_lt_z}
use Rattle.std.proofs.lemmas.List.{get_or-map, get_or-reverse, get_or_append_left, get_or-append_right, length-reverse}
use Rattle.std.proofs.lemmas.List.{length-map, length-append}
use Rattle.std.specs.Prelude.{unsigned_abs}
use Rattle.hyd_num.proofs.Integers.{times_rises}
use Rattle.hyd_net.specs.Curves.{Knot, AreRising, AreFalling, IsPumpCurve, IsLossCurve}
use Rattle.hyd_spec.specs.ProgramTypes.{HeadPoint}
use Rattle.hyd_spec.specs.WholeNumbers.{cut}
use Rattle.hyd_spec.specs.DemandsHeadsAndPumpLifts.{pump_knots, valve_knots}
use Rattle.hyd_theorems_on_definitions.specs.SoundLawsAndGrids.{AreInOrder}

-- ---- cuts

quotient-rises : (m n d : ℕ) → 0 < d → m ≤ n → m / d ≤ n / d
quotient-rises m n d above le = le-div (m / d) n d above (let l : d * (m / d) ≤ m = mul-div-le m d in
    omega (arith, l, le))

cut-rises : (y z : ℤ) (d : ℕ) → 0 < d → y ≤ℤ z → cut y d ≤ℤ cut z d
cut-rises (pos m) (pos n) d above le = let l = quotient-rises m n d above (omega (arith, ints, le)) in
    omega (arith, ints, l)
cut-rises (pos m) (negsuc n) d above le = absurd (omega (arith, ints, le))
cut-rises (negsuc m) (pos n) d above le = omega (arith, ints)
cut-rises (negsuc m) (negsuc n) d above le = let l = quotient-rises (suc n) (suc m) d above
    (omega (arith, ints, le)) in omega (arith, ints, l)

-- ---- points

-- numbers of the points rise, or fall
points-rise : (f : HeadPoint → ℤ) (points : List HeadPoint) → AreRising (map f points) → (i j : ℕ) (p : HeadPoint)
    → i < j → j < length points
    → f (get_or points i p) <ℤ f (get_or points j p)
points-rise f points rise i j p less within =
    let at_i = get_or-map f points i p (f p) (omega (arith, less, within)) in
    let at_j = get_or-map f points j p (f p) within in
    let l = rise i j (f p) less (rw (length-map points f) within) in
    omega (arith, ints, l, at_i, at_j)

points-fall : (f : HeadPoint → ℤ) (points : List HeadPoint) → AreFalling (map f points) → (i j : ℕ) (p : HeadPoint)
    → i < j → j < length points
    → f (get_or points j p) <ℤ f (get_or points i p)
points-fall f points fall i j p less within =
    let at_i = get_or-map f points i p (f p) (omega (arith, less, within)) in
    let at_j = get_or-map f points j p (f p) within in
    let l = fall i j (f p) less (rw (length-map points f) within) in
    omega (arith, ints, l, at_i, at_j)

-- ---- pumps

-- a point at a speed
abbrev at_speed : ℕ → HeadPoint → Knot
at_speed w p = record { place = cut (neg_ℤ (pos (w * w) *ℤ p.head)) (10 ^ 18); value = cut (pos w *ℤ p.flow) (10 ^ 9) }

a_point : HeadPoint
a_point = record { flow = pos 0; head = pos 0 }

pub pump_knots-in_order : (points : List HeadPoint) (speed : ℤ) → IsPumpCurve points
    → AreInOrder (pump_knots points speed)
pump_knots-in_order points speed curve i j d less within =
    let w = unsigned_abs speed in
    let end : j < length points = (let e = length-map points (at_speed w) in omega (arith, e, within)) in
    let p = get_or points i a_point in
    let q = get_or points j a_point in
    rw (
      get_or-map (at_speed w) points i a_point d (omega (arith, less, end)),
      get_or-map (at_speed w) points j
          a_point d end,
    )
    (in_order w p q (points-fall (λ (h : HeadPoint). h.head) points curve.heads_fall i j a_point less end)
    (points-rise (λ (h : HeadPoint). h.flow) points curve.flows_rise i j a_point less end))
  where
    in_order : (w : ℕ) (p q : HeadPoint) → q.head <ℤ p.head → p.flow <ℤ q.flow
        → ((at_speed w p).place ≤ℤ (at_speed w q).place) × ((at_speed w p).value ≤ℤ (at_speed w q).value)
    in_order w p q falls rises = (
      cut-rises (neg_ℤ (pos (w * w) *ℤ p.head)) (neg_ℤ (pos (w * w) *ℤ q.head)) (10 ^ 18) (omega arith)
          (let l = times_rises (w * w) q.head p.head (omega (arith, ints, falls)) in omega (arith, ints, l)),
      cut-rises (pos w *ℤ p.flow) (pos w *ℤ q.flow) (10 ^ 9) (omega arith)
          (times_rises w p.flow q.flow (omega (arith, ints, rises))),
    )

-- ---- general purpose valves

abbrev ahead : HeadPoint → Knot
ahead p = record { place = p.head; value = p.flow }

abbrev back : HeadPoint → Knot
back p = record { place = neg_ℤ p.head; value = neg_ℤ p.flow }

-- no number of a point is below 0, where the first is 0 and they rise
no_less : (f : HeadPoint → ℤ) (points : List HeadPoint) → AreRising (map f points) → f (get_or points 0 a_point) ≡ pos 0
    → (k : ℕ) → k < length points → pos 0 ≤ℤ f (get_or points k a_point)
no_less f points rise first zero within = omega (arith, ints, first)
no_less f points rise first (suc k) within =
    let l = points-rise f points rise 0 (suc k) a_point (omega arith) within in omega (arith, ints, l, first)

-- the knots of the first half, from the last point back, and of the second
back-at : (points : List HeadPoint) (k : ℕ) (d : Knot) → k < length points → get_or (valve_knots points) k d
    ≡ back (get_or points (length points - 1 - k) a_point)
back-at points k d within =
    get_or_append_left (map back (reverse points)) (map ahead points) d k
    (rw (length-map (reverse points) back, length-reverse points) within)
    ∙ get_or-map back (reverse points) k a_point d (rw (length-reverse points) within)
    ∙ ap back (get_or-reverse points k a_point within)

ahead-at : (points : List HeadPoint) (k : ℕ) (d : Knot) → length points ≤ k → k - length points < length points
    → get_or (valve_knots points) k d ≡ ahead (get_or points (k - length points) a_point)
ahead-at points k d after within =
    get_or-append_right (map back (reverse points)) (map ahead points) (length points) k d
    (length-map (reverse points) back ∙ length-reverse points) after
    ∙ get_or-map ahead points (k - length points) a_point d within

valve_knots-length : (points : List HeadPoint) → length (valve_knots points) ≡ length points + length points
valve_knots-length points =
    let a = length-append (map back (reverse points)) (map ahead points) in
    let b = length-map (reverse points) back in
    let c = length-map points ahead in
    let e = length-reverse points in
    omega (arith, a, b, c, e)

pub valve_knots-in_order : (points : List HeadPoint) → IsLossCurve points → AreInOrder (valve_knots points)
valve_knots-in_order points curve i j d less within =
    let n = length points in
    let end : j < n + n = (let e = valve_knots-length points in omega (arith, e, within)) in
    by_lt_z (pos j) (pos n)
    (λ lt. let before : j < n = omega (arith, ints, lt) in
    rw (back-at points i d (omega (arith, less, before)), back-at points j d before)
    (backward (get_or points (n - 1 - i) a_point) (get_or points (n - 1 - j) a_point)
    (heads (n - 1 - j) (n - 1 - i) (omega (arith, less, before)) (omega (arith, less, before)))
    (flows (n - 1 - j) (n - 1 - i) (omega (arith, less, before)) (omega (arith, less, before)))))
    (λ ge. let after : n ≤ j = omega (arith, ints, ge) in
    let last : j - n < n = omega (arith, end, after) in
    by_lt_z (pos i) (pos n)
    (λ lt. let before : i < n = omega (arith, ints, lt) in
    rw (back-at points i d before, ahead-at points j d after last)
    (across (get_or points (n - 1 - i) a_point) (get_or points (j - n) a_point)
    (least (λ (h : HeadPoint). h.head) curve.losses_rise (curve.first a_point).1 (n - 1 - i) (omega (arith, before)))
    (least (λ (h : HeadPoint). h.head) curve.losses_rise (curve.first a_point).1 (j - n) last)
    (least (λ (h : HeadPoint). h.flow) curve.flows_rise (curve.first a_point).0 (n - 1 - i) (omega (arith, before)))
    (least (λ (h : HeadPoint). h.flow) curve.flows_rise (curve.first a_point).0 (j - n) last)))
    (λ ge. let later : n ≤ i = omega (arith, ints, ge) in
    rw (ahead-at points i d later (omega (arith, less, last, later)), ahead-at points j d after last)
    (forward (get_or points (i - n) a_point) (get_or points (j - n) a_point)
    (heads (i - n) (j - n) (omega (arith, less, later)) last) (flows (i - n) (j - n) (omega (arith, less, later))
    last))))
  where
    heads : (k l : ℕ) → k < l → l < length points → (get_or points k a_point).head <ℤ (get_or points l a_point).head
    heads k l less within = points-rise (λ (h : HeadPoint). h.head) points curve.losses_rise k l a_point less within

    flows : (k l : ℕ) → k < l → l < length points → (get_or points k a_point).flow <ℤ (get_or points l a_point).flow
    flows k l less within = points-rise (λ (h : HeadPoint). h.flow) points curve.flows_rise k l a_point less within

    least : (f : HeadPoint → ℤ) → AreRising (map f points) → f (get_or points 0 a_point) ≡ pos 0 → (k : ℕ)
        → k < length points → pos 0 ≤ℤ f (get_or points k a_point)
    least f rise first k within = no_less f points rise first k within

    backward : (p q : HeadPoint) → q.head <ℤ p.head → q.flow <ℤ p.flow → ((back p).place ≤ℤ (back q).place)
        × ((back p).value ≤ℤ (back q).value)
    backward p q h f = (
      let l : neg_ℤ p.head ≤ℤ neg_ℤ q.head = omega (arith, ints, h) in
          l,
      let l : neg_ℤ p.flow ≤ℤ neg_ℤ q.flow = omega (arith, ints, f) in l,
    )

    across : (p q : HeadPoint) → pos 0 ≤ℤ p.head → pos 0 ≤ℤ q.head → pos 0 ≤ℤ p.flow → pos 0 ≤ℤ q.flow
        → ((back p).place ≤ℤ (ahead q).place) × ((back p).value ≤ℤ (ahead q).value)
    across p q ph qh pf qf = (
      let l : neg_ℤ p.head ≤ℤ q.head = omega (arith, ints, ph, qh) in
          l,
      let l : neg_ℤ p.flow ≤ℤ q.flow = omega (arith, ints, pf, qf) in l,
    )

    forward : (p q : HeadPoint) → p.head <ℤ q.head → p.flow <ℤ q.flow → ((ahead p).place ≤ℤ (ahead q).place)
        × ((ahead p).value ≤ℤ (ahead q).value)
    forward p q h f = (
      let l : p.head ≤ℤ q.head = omega (arith, ints, h) in
          l,
      let l : p.flow ≤ℤ q.flow = omega (arith, ints, f) in l,
    )
