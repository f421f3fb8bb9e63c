-- The knots of curves: their ranges, and that they are curves of a law.
use Rattle.std.proofs.Common.{◌≡◌, ℕ, zero, suc, ◌+◌, ◌*◌, ◌^◌, ◌<◌, ◌≤◌, ℤ, pos, negsuc, ◌+ℤ◌, ◌-ℤ◌, ◌*ℤ◌, ◌≤ℤ◌, ◌<ℤ◌}
use Rattle.std.proofs.Common.{neg_ℤ, true, List, [], ◌∷◌, ◌++◌, ◌-◌, length, map, reverse, drop, drop-cons, add-one}
use Rattle.std.proofs.Common.{append_assoc, slice_index_or, unsigned_abs, refl, sym, ap, subst, ◌∙◌, w64, arith}
use Rattle.std.specs.Prelude.{int_lt, All}
use Rattle.std.specs.Int.{w128}
use Rattle.std.proofs.Common.{FitsSigned}
use Rattle.std.proofs.Math.IntN.{*ℤ_comm}
use Rattle.std.proofs.lemmas.Int.{ints}
use Rattle.std.proofs.lemmas.List.{length-map, get_or-map, length-reverse, get_or-reverse, map-append, length-append}
use Rattle.std.proofs.lemmas.List.{append-nil, drop_all}
use Rattle.std.proofs.lemmas.List.Elements.{All-append}
use Rattle.hyd_num.specs.Rational.{whole, is_at_most}
use Rattle.hyd_num.proofs.Integers.{times_reflects, one_times, both_below, times_one_right}
use Rattle.hyd_net.specs.Curves.{Knot as Place, value_at, head_knots, IsPumpCurve, IsLossCurve}
use Rattle.hyd_net.specs.NumberRanges.{Lies}
use Rattle.hyd_net.specs.LinkStates.{IsSpeed}
use Rattle.hyd_net.specs.declared.curves.HeadPoint.{HeadPoint}
use Rattle.hyd_spec.specs.WholeNumbers.{cut}
use Rattle.hyd_spec.specs.DemandsHeadsAndPumpLifts.{pump_knots, valve_knots}
use Rattle.hyd_theorems_on_definitions.specs.SoundLawsAndGrids.{AreInOrder}
use Rattle.hyd_lemmas.proofs.BooleanTests.{lt-from, le-yes}
use Rattle.hyd_theorems_on_definitions.proofs.CurveKnots.{pump_knots-in_order, valve_knots-in_order}
use Rattle.hyd_law.specs.declared.law_kinds.Knot.{Knot}
use Rattle.hyd_law.specs.KnotsOfStraightLines.{IsKnot, IsCurve, places, place_of}

-- ---- the heads of a pump's points

-- the line of two points by rising flows and falling heads has at flow 0 at least the first head
line_from : (w : ℕ) (a m r : ℤ) → 0 < w → pos 0 ≤ℤ r → (((pos w *ℤ a) +ℤ r) *ℤ pos 1) ≤ℤ (m *ℤ pos w) → a ≤ℤ m
line_from w a m r some above le =
    times_reflects w a m some (omega (arith, ints, le, above, times_one_right ((pos w *ℤ a) +ℤ r), *ℤ_comm m (pos w)))

first_low : (x y z : HeadPoint) (rest : List HeadPoint) → pos 0 ≤ℤ x.flow → x.flow <ℤ y.flow → y.head <ℤ x.head
    → is_at_most (value_at 1 (head_knots (x ∷ (y ∷ (z ∷ rest)))) (pos 0)) (whole (pos (10 ^ 16))) ≡ true
    → x.head ≤ℤ pos (10 ^ 16)
first_low x y z rest forward rise fall most =
    let later : int_lt (pos 0) (pos 1 *ℤ y.flow) ≡ true = lt-from (pos 0) (pos 1 *ℤ y.flow)
    (omega (arith, ints, one_times y.flow, forward, rise)) in
    let apart : int_lt x.flow y.flow ≡ true = lt-from x.flow y.flow rise in
    let w = unsigned_abs (y.flow -ℤ x.flow) in
    let le : (((pos (1 * w) *ℤ x.head) +ℤ ((y.head -ℤ x.head) *ℤ (pos 0 -ℤ (pos 1 *ℤ x.flow)))) *ℤ pos 1)
    ≤ℤ (pos (10 ^ 16) *ℤ pos w) =
    le-yes _ _ (rw (later, apart) at most) in
    line_from w x.head (pos (10 ^ 16)) ((y.head -ℤ x.head) *ℤ (pos 0 -ℤ (pos 1 *ℤ x.flow))) (omega (arith, ints, rise))
    (both_below (y.head -ℤ x.head) (pos 0 -ℤ (pos 1 *ℤ x.flow)) (omega (arith, ints, fall))
    (omega (arith, ints, one_times x.flow, forward)))
    (let e : 1 * w ≡ w = omega arith in rw e at le)

first_head : (points : List HeadPoint) → IsPumpCurve points → (d : HeadPoint) → (slice_index_or points 0 d).head
    ≤ℤ pos (10 ^ 16)
first_head [] curve d = absurd (omega (arith, curve.four))
first_head (x ∷ []) curve d = absurd (omega (arith, curve.four))
first_head (x ∷ (y ∷ [])) curve d = absurd (omega (arith, curve.four))
first_head (x ∷ (y ∷ (z ∷ rest))) curve d =
    first_low x y z rest (curve.forward 0 x (omega arith)) (curve.flows_rise 0 1 (pos 0) (omega arith)
    (omega (arith, length-map rest (λ (p : HeadPoint). p.flow))))
    (curve.heads_fall 0 1 (pos 0) (omega arith) (omega (arith, length-map rest (λ (p : HeadPoint). p.head))))
    curve.shutoff

-- the heads of a pump's points are at least 0 and at most 10^16 head ticks
pub heads_within : (points : List HeadPoint) → IsPumpCurve points
    → All (λ (p : HeadPoint). Lies (pos 0) (pos (10 ^ 16)) p.head) points
heads_within points curve zero d within = record {
  at_least = curve.lifts 0 d within;
  at_most = first_head points curve d;
}
heads_within points curve (suc k) d within = record {
  at_least = curve.lifts (suc k) d within;
  at_most =
      let f : HeadPoint → ℤ = λ p. p.head in
      let l = curve.heads_fall 0 (suc k) d.head (omega arith) (rw (length-map points f) within) in
      let a = get_or-map f points 0 d d.head (omega (arith, within)) in
      let b = get_or-map f points (suc k) d d.head within in
      let c = first_head points curve d in
      omega (arith, ints, l, a, b, c);
}

-- ---- curves of a law

places_length : (knots : List Knot) → length (places knots) ≡ length knots
places_length knots = length-map knots place_of

pub pump_curve : (points : List HeadPoint) (speed : ℤ) (knots : List Knot) → IsPumpCurve points
    → places knots ≡ pump_knots points speed → All IsKnot knots → IsCurve knots
pump_curve points speed knots curve e ranges = record {
  two = let n = ap length e in let m = places_length knots in
      let k = length-map points (at_speed (unsigned_abs speed)) in omega (arith, n, m, k, curve.four);
  ordered = subst AreInOrder (sym e) (pump_knots-in_order points speed curve);
  ranges = ranges;
}
  where
    at_speed : ℕ → HeadPoint → Place
    at_speed w p = record {
      place = cut (neg_ℤ (pos (w * w) *ℤ p.head)) (10 ^ 18);
      value = cut (pos w *ℤ p.flow) (10 ^ 9);
    }

pub valve_curve : (points : List HeadPoint) (knots : List Knot) → IsLossCurve points
    → places knots ≡ valve_knots points → All IsKnot knots → IsCurve knots
valve_curve points knots curve e ranges = record {
  two =
      let back : HeadPoint → Place = λ p. record { place = neg_ℤ p.head; value = neg_ℤ p.flow } in
      let ahead : HeadPoint → Place = λ p. record { place = p.head; value = p.flow } in
      let n = ap length e in
      let m = places_length knots in
      let a = length-append (map back (reverse points)) (map ahead points) in
      let b = length-map points ahead in
      omega (arith, n, m, a, b, curve.two);
  ordered = subst AreInOrder (sym e) (valve_knots-in_order points curve);
  ranges = ranges;
}

-- ---- knots one by one

pub cut_head : (z : ℤ) → unsigned_abs z ≤ 10 ^ 36 → unsigned_abs (cut z (10 ^ 18)) ≤ 10 ^ 18
cut_head (pos n) small = omega (arith, ints, small)
cut_head (negsuc n) small = omega (arith, ints, small)

pub cut_flow : (z : ℤ) → unsigned_abs z ≤ 10 ^ 25 → unsigned_abs (cut z (10 ^ 9)) ≤ 10 ^ 16
cut_flow (pos n) small = omega (arith, ints, small)
cut_flow (negsuc n) small = omega (arith, ints, small)

pub fits_128 : (z : ℤ) → unsigned_abs z ≤ 10 ^ 18 → FitsSigned w128 z
fits_128 (pos n) small = record { sfits = omega (arith, ints, small) }
fits_128 (negsuc n) small = record { sfits = omega (arith, ints, small) }

pub fits_64 : (z : ℤ) → unsigned_abs z ≤ 10 ^ 18 → FitsSigned w64 z
fits_64 (pos n) small = record { sfits = omega (arith, ints, small) }
fits_64 (negsuc n) small = record { sfits = omega (arith, ints, small) }

pub pump_knot_is : (point : HeadPoint) (speed h f : ℤ) (knot : Knot) → IsSpeed speed
    → h ≡ (speed *ℤ speed) *ℤ point.head → f ≡ speed *ℤ point.flow
    → knot.head ≡ cut (neg_ℤ h) (10 ^ 18) → knot.flow ≡ cut f (10 ^ 9)
    → place_of knot ∷ [] ≡ pump_knots (point ∷ []) speed
pump_knot_is point (pos s) h f knot is e g a b = rw (a, b, e, g) refl
pump_knot_is point (negsuc s) h f knot is e g a b = absurd (omega (arith, ints, is.at_least))

pub pump_more : (points : List HeadPoint) (S : ℤ) (i : ℕ) (d : HeadPoint) (knot : Knot) → i < length points
    → place_of knot ∷ [] ≡ pump_knots (slice_index_or points i d ∷ []) S
    → pump_knots (drop i points) S ≡ place_of knot ∷ pump_knots (drop (i + 1) points) S
pump_more points S i d knot within here =
    let first : drop i points ≡ slice_index_or points i d ∷ drop (i + 1) points = drop-cons points i d within
    ∙ (rw add-one refl) in
    let more : pump_knots (slice_index_or points i d ∷ []) S ++ pump_knots (drop (i + 1) points) S
    ≡ (place_of knot ∷ []) ++ pump_knots (drop (i + 1) points) S =
    ap (λ (xs : List Place). xs ++ pump_knots (drop (i + 1) points) S) (sym here) in
    ap (λ (ps : List HeadPoint). pump_knots ps S) first ∙ more

pub pump_all : (points : List HeadPoint) (S : ℤ) (i : ℕ) (left all : List Place) → length points ≤ i
    → left ++ pump_knots (drop i points) S ≡ all → left ≡ all
pump_all points S i left all end h =
    sym (append-nil left) ∙ ap (λ (ps : List HeadPoint). left ++ pump_knots ps S) (sym (drop_all i points end)) ∙ h

pub back_more : (points : List HeadPoint) (i : ℕ) (d : HeadPoint) (knot : Knot) → i < length points
    → place_of knot ≡ record {
      place = neg_ℤ (slice_index_or points (length points - 1 - i) d).head;
      value = neg_ℤ (slice_index_or points (length points - 1 - i) d).flow;
    }
    → map (λ (q : HeadPoint). record { place = neg_ℤ q.head; value = neg_ℤ q.flow }) (drop i (reverse points))
    ≡ place_of knot ∷ map (λ (q : HeadPoint). record {
      place = neg_ℤ q.head;
      value = neg_ℤ q.flow;
    }) (drop (i + 1) (reverse points))
back_more points i d knot within here =
    let back : HeadPoint → Place = λ q. record { place = neg_ℤ q.head; value = neg_ℤ q.flow } in
    let rest = map back (drop (i + 1) (reverse points)) in
    let first : drop i (reverse points) ≡ slice_index_or (reverse points) i d ∷ drop (i + 1) (reverse points) =
    drop-cons (reverse points) i d (rw (length-reverse points) within) ∙ (rw add-one refl) in
    let each : map back (drop i (reverse points)) ≡ back (slice_index_or (reverse points) i d) ∷ rest = ap (map back)
    first in
    let same : back (slice_index_or (reverse points) i d) ∷ rest
    ≡ back (slice_index_or points (length points - 1 - i) d) ∷ rest = ap (λ (q : HeadPoint). back q ∷ rest)
    (get_or-reverse points i d within) in
    let knot_is : back (slice_index_or points (length points - 1 - i) d) ∷ rest ≡ place_of knot
    ∷ rest = ap (λ (q : Place). q ∷ rest) (sym here) in
    each ∙ same ∙ knot_is

-- a knot more
pub more_places : (knots news : List Knot) (knot : Knot) (left more all : List Place) → news ≡ knots ++ knot ∷ []
    → left ≡ place_of knot ∷ more → places knots ++ left ≡ all → places news ++ more ≡ all
more_places knots news knot left more all new e h =
    ap (λ (xs : List Knot). places xs ++ more) new ∙ ap (λ (xs : List Place). xs ++ more)
    (map-append place_of knots (knot ∷ []))
    ∙ (rw append_assoc (ap (λ (xs : List Place). places knots ++ xs) (sym e) ∙ h))

one_knot : (knot : Knot) → IsKnot knot → All IsKnot (knot ∷ [])
one_knot knot is zero d within = is
one_knot knot is (suc k) d within = absurd (omega arith)

pub more_ranges : (knots news : List Knot) (knot : Knot) → news ≡ knots ++ knot ∷ [] → All IsKnot knots → IsKnot knot
    → All IsKnot news
more_ranges knots news knot new all is = subst (All IsKnot) (sym new)
    (All-append IsKnot knots (knot ∷ []) all (one_knot knot is))
