-- At each scale the enclosing functions of that scale enclose the exact law: each sound law is a law of the scales that
-- S divides.
use Rattle.std.proofs.Common.{◌≡◌, ℕ, zero, suc, ◌*◌, ◌^◌, ◌<◌, ◌≤◌, ℤ, pos, negsuc, ◌+ℤ◌, ◌-ℤ◌, ◌*ℤ◌, ◌≤ℤ◌, refl, sym}
use Rattle.std.proofs.Common.{ap, subst, ◌∙◌, arith, mul-pos, ◌⊎◌, List}
use Rattle.std.proofs.Math.Nat.{mul-le-mul_left}
use Rattle.std.proofs.lemmas.Int.{ints}
use Rattle.std.specs.Int.{int_max, int_min}
use Rattle.hyd_num.specs.Rational.{Rational, floor, ceiling}
use Rattle.hyd_net.specs.Curves.{Knot, value_at}
use Rattle.hyd_spec.specs.Scale.{at_scale, tolerance}
use Rattle.hyd_spec.specs.Law.{Relation, Loss, Law, Shut, QuadraticLaw, LinearLaw, Lifted, ForwardOnly, ReverseOnly}
use Rattle.hyd_spec.specs.Law.{Capped, PowerLaw}
use Rattle.hyd_spec.specs.ProgramTypes.{Capacity}
use Rattle.hyd_num.specs.BinaryNumbers.{numerator, denominator}
use Rattle.hyd_spec.specs.Law.{Bent, Held, loss_at_most, loss_at_least, Follows}
use Rattle.hyd_spec.specs.Law.{odd_at_least, odd_at_most, flow_at_least, flow_at_most}
use Rattle.hyd_spec_witnesses.specs.EnclosingFunctionsAtScale.{quadratic_low_at, quadratic_high_at, low_at, high_at}
use Rattle.hyd_theorems_on_definitions.specs.SoundLawsAndGrids.{IsLaw, IsLossLaw, IsSoundCapacity}
use Rattle.hyd_theorems_on_definitions.specs.SoundLawsAndGrids.{IsSoundLaw, AreInOrder}
use Rattle.hyd_num.proofs.EndsInOrder.{denominator_positive, numerator_positive}
use Rattle.hyd_theorems_on_definitions.proofs.LossLaws.{IsLossLaw-origin}
use Rattle.hyd_num.proofs.Integers.{times_plus, times_rises, times_reflects, times_times, one_times}
use Rattle.hyd_lemmas.proofs.Integers.{exchanged, floor_low, ceiling_high, floor_greatest, ceiling_least}
use Rattle.hyd_lemmas.proofs.Integers.{floor_at_most_ceiling}
use Rattle.hyd_theorems_on_power_laws.proofs.PipeLawsAtScale.{IsLaw-power_at}
use Rattle.hyd_theorems_on_definitions.proofs.ValuesAtTwoScales.{Leads}
use Rattle.hyd_theorems_on_definitions.proofs.RisingLines.{value-den, value-rises}
use Rattle.hyd_theorems_on_definitions.proofs.LinkLaws.{IsLaw-shut, IsLaw-forward, IsLaw-reverse, IsLaw-capped}
use Rattle.hyd_theorems_on_definitions.proofs.LinkLaws.{IsLaw-held, finer, odd-consistent, odd-downward, odd-upward}
use Rattle.hyd_theorems_on_definitions.proofs.LinkLaws.{quad-below, quad-above, low-rises, high-rises, roots-ordered}
use Rattle.hyd_theorems_on_definitions.proofs.LinkLaws.{roots_low, roots_high}

-- ---- laws of a loss

-- a loss of the scales that S divides
abbrev from_scale : ℕ → Loss → Loss
from_scale S A k q y = A (S * k) q y

odd-least : (A B : Loss) (S k : ℕ) (x a : ℤ) → odd_at_least (from_scale S A) (from_scale S B) k x a
    → odd_at_least A B (S * k) x a
odd-least A B S k (pos y) (pos a) h = h
odd-least A B S k (negsuc y) (pos a) h = h
odd-least A B S k (pos zero) (negsuc a) h = h
odd-least A B S k (pos (suc y)) (negsuc a) h = h
odd-least A B S k (negsuc y) (negsuc a) h = h

odd-most : (A B : Loss) (S k : ℕ) (x a : ℤ) → odd_at_most (from_scale S A) (from_scale S B) k x a
    → odd_at_most A B (S * k) x a
odd-most A B S k (pos y) (pos a) h = h
odd-most A B S k (negsuc y) (pos a) h = h
odd-most A B S k (pos zero) (negsuc a) h = h
odd-most A B S k (pos (suc y)) (negsuc a) h = h
odd-most A B S k (negsuc y) (negsuc a) h = h

low_is : (S : ℕ) (c : Capacity) (d : ℤ) → quadratic_low_at S c d ≡ roots_low (S * numerator c.lo) (denominator c.lo)
    (S * numerator c.hi) (denominator c.hi) d
low_is S c (pos d) = refl
low_is S c (negsuc d) = refl

high_is : (S : ℕ) (c : Capacity) (d : ℤ) → quadratic_high_at S c d ≡ roots_high (S * numerator c.lo)
    (denominator c.lo) (S * numerator c.hi) (denominator c.hi) d
high_is S c (pos d) = refl
high_is S c (negsuc d) = refl

pub IsLaw-quad : (S : ℕ) → 0 < S → (c : Capacity) → IsSoundCapacity c
    → IsLaw (λ k. flow_at_least (QuadraticLaw c) (S * k)) (λ k. flow_at_most (QuadraticLaw c) (S * k))
    (quadratic_low_at S c) (quadratic_high_at S c)
IsLaw-quad S some c sound = record {
  low_rises = λ x d le. rw (low_is S c x, low_is S c d) (low-rises N D M E lower upper x d le);
  high_rises = λ x d le. rw (high_is S c x, high_is S c d) (high-rises N D M E lower upper x d le);
  ordered = λ d. rw (low_is S c d, high_is S c d) (roots-ordered N D M E lower upper
      (let o : S * (numerator c.lo * E) ≤ S * (numerator c.hi * D) = mul-le-mul_left S c.ordered in omega (arith, o))
      d);
  encloses_below = λ k d x more le. rw (low_is S c d) (odd-least A B S k x (pos k *ℤ roots_low N D M E d)
      (quad-below (from_scale S A) (from_scale S B) N D M E lower (mul-pos some (numerator_positive c.hi)) upper most
      least k d x more le));
  encloses_above = λ k d x more le. rw (high_is S c d) (odd-most A B S k x (pos k *ℤ roots_high N D M E d)
      (quad-above (from_scale S A) (from_scale S B) N D M E lower upper most least k d x more le));
  consistent = λ k x a b more. odd-consistent A B law (S * k) x a b (mul-pos some more);
  downward = λ k x a b more. odd-downward A B law (S * k) x a b (mul-pos some more);
  upward = λ k x a b more. odd-upward A B law (S * k) x a b (mul-pos some more);
}
  where
    A : Loss
    A = loss_at_most c.origin

    B : Loss
    B = loss_at_least c.origin

    law : IsLossLaw A B
    law = IsLossLaw-origin c.origin sound.numbers

    N : ℕ
    N = S * numerator c.lo

    D : ℕ
    D = denominator c.lo

    M : ℕ
    M = S * numerator c.hi

    E : ℕ
    E = denominator c.hi

    lower : 0 < denominator c.lo
    lower = denominator_positive c.lo

    upper : 0 < denominator c.hi
    upper = denominator_positive c.hi

    most : (k q y : ℕ) → (q * q) * D ≤ N * (k * y) → from_scale S A k q y
    most k q y h = sound.enclosure.at_most (S * k) q y (omega (arith, h))

    least : (k q y : ℕ) → M * (k * y) ≤ (q * q) * E → from_scale S B k q y
    least k q y h = sound.enclosure.at_least (S * k) q y (omega (arith, h))

-- ---- the valve without loss coefficient, whose law no scale changes

passed-below : (g k S : ℕ) (d x : ℤ) → 0 < k → (pos S *ℤ d) ≤ℤ x
    → (pos k *ℤ (pos S *ℤ floor (record { num = pos g *ℤ d; den = k }))) ≤ℤ (pos g *ℤ x)
passed-below g k S d x above le =
    let r : Rational = record { num = pos g *ℤ d; den = k } in
    let a = times_rises S (pos k *ℤ floor r) (pos g *ℤ d) (floor_low r above) in
    let b = times_rises g (pos S *ℤ d) x le in
    omega (arith, ints, a, b, exchanged S k (floor r), exchanged S g d)

passed-above : (g k S : ℕ) (d x : ℤ) → 0 < k → x ≤ℤ (pos S *ℤ d)
    → (pos g *ℤ x) ≤ℤ (pos k *ℤ (pos S *ℤ ceiling (record { num = pos g *ℤ d; den = k })))
passed-above g k S d x above le =
    let r : Rational = record { num = pos g *ℤ d; den = k } in
    let a = times_rises S (pos g *ℤ d) (pos k *ℤ ceiling r) (ceiling_high r above) in
    let b = times_rises g x (pos S *ℤ d) le in
    omega (arith, ints, a, b, exchanged S k (ceiling r), exchanged S g d)

IsLaw-passed : (g k : ℕ) → 0 < k → IsLaw (λ S x a. (pos k *ℤ a) ≤ℤ (pos g *ℤ x))
    (λ S x a. (pos g *ℤ x) ≤ℤ (pos k *ℤ a)) (λ d. floor (record { num = pos g *ℤ d; den = k }))
    (λ d. ceiling (record { num = pos g *ℤ d; den = k }))
IsLaw-passed g k above = record {
  low_rises = λ c d le. floor_greatest (P d) (floor (P c)) above
      (let a = floor_low (P c) above in let b = times_rises g c d le in omega (arith, ints, a, b));
  high_rises = λ c d le. ceiling_least (P c) (ceiling (P d)) above
      (let a = ceiling_high (P d) above in let b = times_rises g c d le in omega (arith, ints, a, b));
  ordered = λ d. floor_at_most_ceiling (P d) above;
  encloses_below = λ S d x some le. passed-below g k S d x above le;
  encloses_above = λ S d x some le. passed-above g k S d x above le;
  consistent = λ S x a b some least most. times_reflects k a b above (let l : (pos k *ℤ a) ≤ℤ (pos k *ℤ b) =
      omega (arith, ints, least, most) in l);
  downward = λ S x a b some le least. let l = times_rises k b a le in omega (arith, ints, l, least);
  upward = λ S x a b some le most. let l = times_rises k a b le in omega (arith, ints, l, most);
}
  where
    P : ℤ → Rational
    P d = record { num = pos g *ℤ d; den = k }

-- ---- straight lines between knots

one_number : (a b c d : ℕ) (t : ℤ) → pos a *ℤ (pos b *ℤ (pos c *ℤ (pos d *ℤ t))) ≡ pos (a * (b * (c * d))) *ℤ t
one_number a b c d t =
    ap (λ (z : ℤ). pos a *ℤ (pos b *ℤ z)) (times_times c d t) ∙ ap (λ (z : ℤ). pos a *ℤ z) (times_times b (c * d) t)
    ∙ times_times a (b * (c * d)) t

gathered : (r S s k : ℕ) (t : ℤ) → pos r *ℤ (pos S *ℤ (pos s *ℤ (pos k *ℤ t))) ≡ pos s *ℤ (pos (S * k) *ℤ (pos r *ℤ t))
gathered r S s k t =
    one_number r S s k t ∙ ap (λ (n : ℕ). pos n *ℤ t) (let e : r * (S * (s * k)) ≡ s * (S * (k * r)) = omega arith in e)
    ∙ sym (one_number s S k r t) ∙ ap (λ (z : ℤ). pos s *ℤ z) (times_times S k (pos r *ℤ t))

climbs : (S k : ℕ) (r s : Rational) (t : ℤ) → 0 < S → 0 < r.den → Leads S (S * k) r s → (pos r.den *ℤ t) ≤ℤ r.num
    → (pos s.den *ℤ (pos k *ℤ t)) ≤ℤ s.num
climbs S k r s t some above leads le = times_reflects S (pos s.den *ℤ (pos k *ℤ t)) s.num some
    (times_reflects r.den (pos S *ℤ (pos s.den *ℤ (pos k *ℤ t))) (pos S *ℤ s.num) above
    (let a = times_rises s.den (pos (S * k) *ℤ (pos r.den *ℤ t)) (pos (S * k) *ℤ r.num)
    (times_rises (S * k) (pos r.den *ℤ t) r.num le) in
    let b = leads.crossed in omega (arith, ints, a, b, gathered r.den S s.den k t)))

sinks : (S k : ℕ) (r s : Rational) (t : ℤ) → 0 < S → 0 < r.den → Leads (S * k) S s r → r.num ≤ℤ (pos r.den *ℤ t)
    → s.num ≤ℤ (pos s.den *ℤ (pos k *ℤ t))
sinks S k r s t some above leads le = times_reflects S s.num (pos s.den *ℤ (pos k *ℤ t)) some
    (times_reflects r.den (pos S *ℤ s.num) (pos S *ℤ (pos s.den *ℤ (pos k *ℤ t))) above
    (let a = times_rises s.den (pos (S * k) *ℤ r.num) (pos (S * k) *ℤ (pos r.den *ℤ t))
    (times_rises (S * k) r.num (pos r.den *ℤ t) le) in
    let b = leads.crossed in omega (arith, ints, a, b, gathered r.den S s.den k t)))

IsLaw-bent : (S : ℕ) → 0 < S → (knots : List Knot) → AreInOrder knots
    → IsLaw (λ k. flow_at_least (Bent knots) (S * k)) (λ k. flow_at_most (Bent knots) (S * k)) (low_at S (Bent knots))
    (high_at S (Bent knots))
IsLaw-bent S some knots order = record {
  low_rises = λ c d le. floor_greatest (F d) (floor (F c)) (above d)
      (let a = climbs S 1 (F c) (F d) (floor (F c)) some (above c) (level c d le) (floor_low (F c) (above c)) in
      let e = one_times (floor (F c)) in subst (λ (z : ℤ). (pos (F d).den *ℤ z) ≤ℤ (F d).num) e a);
  high_rises = λ c d le. ceiling_least (F c) (ceiling (F d)) (above c)
      (let a = sinks S 1 (F d) (F c) (ceiling (F d)) some (above d) (back c d le) (ceiling_high (F d) (above d)) in
      let e = one_times (ceiling (F d)) in subst (λ (z : ℤ). (F c).num ≤ℤ (pos (F c).den *ℤ z)) e a);
  ordered = λ d. floor_at_most_ceiling (F d) (above d);
  encloses_below = λ k d x more le. climbs S k (F d) (value_at (S * k) knots x) (floor (F d)) some (above d)
      (value-rises S (S * k) knots d x some order (let l = times_rises S (pos k *ℤ d) x le in
      omega (arith, ints, l, times_times S k d))) (floor_low (F d) (above d));
  encloses_above = λ k d x more le. sinks S k (F d) (value_at (S * k) knots x) (ceiling (F d)) some (above d)
      (value-rises (S * k) S knots x d (mul-pos some more) order (let l = times_rises S x (pos k *ℤ d) le in
      omega (arith, ints, l, times_times S k d))) (ceiling_high (F d) (above d));
  consistent = λ k x a b more least most. times_reflects (value_at (S * k) knots x).den a b
      (value-den (S * k) knots x)
      (let l : (pos (value_at (S * k) knots x).den *ℤ a) ≤ℤ (pos (value_at (S * k) knots x).den *ℤ b) =
      omega (arith, ints, least, most) in l);
  downward = λ k x a b more le least. let l = times_rises (value_at (S * k) knots x).den b a le in
      omega (arith, ints, l, least);
  upward = λ k x a b more le most. let l = times_rises (value_at (S * k) knots x).den a b le in
      omega (arith, ints, l, most);
}
  where
    F : ℤ → Rational
    F d = value_at S knots d

    above : (d : ℤ) → 0 < (value_at S knots d).den
    above d = value-den S knots d

    same : S * 1 ≡ S
    same = omega arith

    level : (c d : ℤ) → c ≤ℤ d → Leads S (S * 1) (value_at S knots c) (value_at S knots d)
    level c d le = subst (λ (n : ℕ). Leads S n (value_at S knots c) (value_at S knots d)) (sym same)
        (value-rises S S knots c d some order (times_rises S c d le))

    back : (c d : ℤ) → c ≤ℤ d → Leads (S * 1) S (value_at S knots c) (value_at S knots d)
    back c d le = subst (λ (n : ℕ). Leads n S (value_at S knots c) (value_at S knots d)) (sym same)
        (value-rises S S knots c d some order (times_rises S c d le))

-- ---- lifted, capped, held

IsLaw-lifted : (S : ℕ) → 0 < S → (lift : Rational) (law : Law) (l h : ℤ → ℤ) → 0 < lift.den
    → IsLaw (λ k. flow_at_least law (S * k)) (λ k. flow_at_most law (S * k)) l h
    → IsLaw (λ k. flow_at_least (Lifted lift law) (S * k)) (λ k. flow_at_most (Lifted lift law) (S * k))
    (λ d. l (d +ℤ at_scale S (floor lift))) (λ d. h (d +ℤ at_scale S (ceiling lift)))
IsLaw-lifted S some lift law l h above inner = record {
  low_rises = λ c d le. inner.low_rises (c +ℤ at_scale S (floor lift)) (d +ℤ at_scale S (floor lift))
      (omega (arith, ints, le));
  high_rises = λ c d le. inner.high_rises (c +ℤ at_scale S (ceiling lift)) (d +ℤ at_scale S (ceiling lift))
      (omega (arith, ints, le));
  ordered = λ d.
      let a = inner.low_rises (d +ℤ at_scale S (floor lift)) (d +ℤ at_scale S (ceiling lift))
      (let e = times_rises S (floor lift) (ceiling lift) (floor_at_most_ceiling lift above) in
      omega (arith, ints, e)) in
      let b = inner.ordered (d +ℤ at_scale S (ceiling lift)) in omega (arith, ints, a, b);
  encloses_below = λ k d x more le. subst (λ (n : ℕ). flow_at_least law n (X k x)
      (pos lift.den *ℤ (pos k *ℤ l (d +ℤ at_scale S (floor lift))))) (scales k)
      (rw (finer k lift.den (l (d +ℤ at_scale S (floor lift))))
      (inner.encloses_below (k * lift.den) (d +ℤ at_scale S (floor lift)) (X k x) (mul-pos more above)
      (below k d x le)));
  encloses_above = λ k d x more le. subst (λ (n : ℕ). flow_at_most law n (X k x)
      (pos lift.den *ℤ (pos k *ℤ h (d +ℤ at_scale S (ceiling lift))))) (scales k)
      (rw (finer k lift.den (h (d +ℤ at_scale S (ceiling lift))))
      (inner.encloses_above (k * lift.den) (d +ℤ at_scale S (ceiling lift)) (X k x) (mul-pos more above)
      (over k d x le)));
  consistent = λ k x a b more least most. times_reflects lift.den a b above
      (inner.consistent (k * lift.den) (X k x) (pos lift.den *ℤ a) (pos lift.den *ℤ b) (mul-pos more above)
      (subst (λ (n : ℕ). flow_at_least law n (X k x) (pos lift.den *ℤ a)) (sym (scales k)) least)
      (subst (λ (n : ℕ). flow_at_most law n (X k x) (pos lift.den *ℤ b)) (sym (scales k)) most));
  downward = λ k x a b more le least. subst (λ (n : ℕ). flow_at_least law n (X k x) (pos lift.den *ℤ b)) (scales k)
      (inner.downward (k * lift.den) (X k x) (pos lift.den *ℤ a) (pos lift.den *ℤ b) (mul-pos more above)
      (times_rises lift.den b a le)
      (subst (λ (n : ℕ). flow_at_least law n (X k x) (pos lift.den *ℤ a)) (sym (scales k)) least));
  upward = λ k x a b more le most. subst (λ (n : ℕ). flow_at_most law n (X k x) (pos lift.den *ℤ b)) (scales k)
      (inner.upward (k * lift.den) (X k x) (pos lift.den *ℤ a) (pos lift.den *ℤ b) (mul-pos more above)
      (times_rises lift.den a b le)
      (subst (λ (n : ℕ). flow_at_most law n (X k x) (pos lift.den *ℤ a)) (sym (scales k)) most));
}
  where
    X : ℕ → ℤ → ℤ
    X k x = (pos lift.den *ℤ x) +ℤ (pos (S * k) *ℤ lift.num)

    scales : (k : ℕ) → S * (k * lift.den) ≡ S * k * lift.den
    scales k = omega arith

    turned : (k : ℕ) (z : ℤ) → pos (k * lift.den) *ℤ (pos S *ℤ z) ≡ pos (S * k) *ℤ (pos lift.den *ℤ z)
    turned k z = times_times (k * lift.den) S z ∙ ap (λ (n : ℕ). pos n *ℤ z)
        (let e : k * lift.den * S ≡ S * k * lift.den = omega arith in e) ∙ sym (times_times (S * k) lift.den z)

    below : (k : ℕ) (d x : ℤ) → (pos k *ℤ d) ≤ℤ x
        → (pos (k * lift.den) *ℤ (d +ℤ at_scale S (floor lift))) ≤ℤ X k x
    below k d x le =
        let a = times_rises lift.den (pos k *ℤ d) x le in
        let b = times_rises (S * k) (pos lift.den *ℤ floor lift) lift.num (floor_low lift above) in
        omega (
          arith,
          ints,
          a,
          b,
          finer k lift.den d,
          turned k (floor lift),
          times_plus (k * lift.den) d (at_scale S (floor lift)),
        )

    over : (k : ℕ) (d x : ℤ) → x ≤ℤ (pos k *ℤ d)
        → X k x ≤ℤ (pos (k * lift.den) *ℤ (d +ℤ at_scale S (ceiling lift)))
    over k d x le =
        let a = times_rises lift.den x (pos k *ℤ d) le in
        let b = times_rises (S * k) lift.num (pos lift.den *ℤ ceiling lift) (ceiling_high lift above) in
        omega (
          arith,
          ints,
          a,
          b,
          finer k lift.den d,
          turned k (ceiling lift),
          times_plus (k * lift.den) d (at_scale S (ceiling lift)),
        )

-- a whole number of ticks at the scales that S divides
parts : (S k : ℕ) (c : ℤ) → at_scale k (at_scale S c) ≡ at_scale (S * k) c
parts S k c = finer S k c

IsLaw-capped-at : (S : ℕ) (c : ℤ) (A B : Relation) (l h : ℤ → ℤ) → IsLaw A B l h
    → IsLaw (λ k x a. (a ≤ℤ at_scale (S * k) c) × A k x a) (λ k x a. (at_scale (S * k) c ≤ℤ a) ⊎ B k x a)
    (λ d. int_min (at_scale S c) (l d)) (λ d. int_min (at_scale S c) (h d))
IsLaw-capped-at S c A B l h law = subst (λ (f : ℕ → ℤ). IsLaw (λ k x a. (a ≤ℤ f k) × A k x a)
    (λ k x a. (f k ≤ℤ a) ⊎ B k x a) (λ d. int_min (at_scale S c) (l d)) (λ d. int_min (at_scale S c) (h d)))
    (λ i k. parts S k c i) (IsLaw-capped (at_scale S c) A B l h law)

IsLaw-held-at : (S : ℕ) (c e : ℤ) (A B : Relation) (l h : ℤ → ℤ) → c ≤ℤ e → IsLaw A B l h
    → IsLaw (λ k x a. (a ≤ℤ at_scale (S * k) c) ⊎ ((a ≤ℤ at_scale (S * k) e) × A k x a))
    (λ k x a. (at_scale (S * k) e ≤ℤ a) ⊎ ((at_scale (S * k) c ≤ℤ a) × B k x a))
    (λ d. int_max (at_scale S c) (int_min (at_scale S e) (l d)))
    (λ d. int_max (at_scale S c) (int_min (at_scale S e) (h d)))
IsLaw-held-at S c e A B l h ends law = subst (λ (f : ℕ → ℤ). IsLaw
    (λ k x a. (a ≤ℤ f k) ⊎ ((a ≤ℤ at_scale (S * k) e) × A k x a))
    (λ k x a. (at_scale (S * k) e ≤ℤ a) ⊎ ((f k ≤ℤ a) × B k x a))
    (λ d. int_max (at_scale S c) (int_min (at_scale S e) (l d)))
    (λ d. int_max (at_scale S c) (int_min (at_scale S e) (h d)))) (λ i k. parts S k c i)
    (subst (λ (f : ℕ → ℤ). IsLaw
    (λ k x a. (a ≤ℤ at_scale k (at_scale S c)) ⊎ ((a ≤ℤ f k) × A k x a))
    (λ k x a. (f k ≤ℤ a) ⊎ ((at_scale k (at_scale S c) ≤ℤ a) × B k x a))
    (λ d. int_max (at_scale S c) (int_min (at_scale S e) (l d)))
    (λ d. int_max (at_scale S c) (int_min (at_scale S e) (h d)))) (λ i k. parts S k e i)
    (IsLaw-held (at_scale S c) (at_scale S e) A B l h (times_rises S c e ends) law))

-- ---- every sound law

pub IsLaw-at : (S : ℕ) → 0 < S → (law : Law) → IsSoundLaw law
    → IsLaw (λ k. flow_at_least law (S * k)) (λ k. flow_at_most law (S * k)) (low_at S law) (high_at S law)
IsLaw-at S some Shut sound = IsLaw-shut
IsLaw-at S some (QuadraticLaw capacity) sound = IsLaw-quad S some capacity sound
IsLaw-at S some (PowerLaw capacity) sound = IsLaw-power_at S some capacity sound
IsLaw-at S some LinearLaw sound = IsLaw-passed 8026822656 (10 ^ 6) (omega arith)
IsLaw-at S some (Lifted lift law) sound = IsLaw-lifted S some lift law (low_at S law) (high_at S law) sound.0
    (IsLaw-at S some law sound.1)
IsLaw-at S some (ForwardOnly law) sound = IsLaw-forward (λ k. flow_at_least law (S * k))
    (λ k. flow_at_most law (S * k)) (low_at S law) (high_at S law) (IsLaw-at S some law sound)
IsLaw-at S some (ReverseOnly law) sound = IsLaw-reverse (λ k. flow_at_least law (S * k))
    (λ k. flow_at_most law (S * k)) (low_at S law) (high_at S law) (IsLaw-at S some law sound)
IsLaw-at S some (Capped setting law) sound = IsLaw-capped-at S setting (λ k. flow_at_least law (S * k))
    (λ k. flow_at_most law (S * k)) (low_at S law) (high_at S law) (IsLaw-at S some law sound)
IsLaw-at S some (Bent knots) sound = IsLaw-bent S some knots sound
IsLaw-at S some (Held least greatest law) sound = IsLaw-held-at S least greatest (λ k. flow_at_least law (S * k))
    (λ k. flow_at_most law (S * k)) (low_at S law) (high_at S law) sound.0 (IsLaw-at S some law sound.1)

pub enclosed-below : (S : ℕ) (law : Law) (x : ℤ) → 0 < S → IsSoundLaw law → flow_at_least law S x (low_at S law x)
enclosed-below S law x some sound =
    let l : (pos 1 *ℤ x) ≤ℤ x = omega (arith, ints, one_times x) in
    let a = (IsLaw-at S some law sound).encloses_below 1 x x (omega arith) l in
    let e : S * 1 ≡ S = omega arith in
    subst (λ (z : ℤ). flow_at_least law S x z) (one_times (low_at S law x))
    (subst (λ (n : ℕ). flow_at_least law n x (pos 1 *ℤ low_at S law x)) e a)

pub enclosed-above : (S : ℕ) (law : Law) (x : ℤ) → 0 < S → IsSoundLaw law → flow_at_most law S x (high_at S law x)
enclosed-above S law x some sound =
    let l : x ≤ℤ (pos 1 *ℤ x) = omega (arith, ints, one_times x) in
    let a = (IsLaw-at S some law sound).encloses_above 1 x x (omega arith) l in
    let e : S * 1 ≡ S = omega arith in
    subst (λ (z : ℤ). flow_at_most law S x z) (one_times (high_at S law x))
    (subst (λ (n : ℕ). flow_at_most law n x (pos 1 *ℤ high_at S law x)) e a)

pub down-at : (S : ℕ) (law : Law) (x a b : ℤ) → 0 < S → IsSoundLaw law → b ≤ℤ a → flow_at_least law S x a
    → flow_at_least law S x b
down-at S law x a b some sound le h =
    let e : S * 1 ≡ S = omega arith in
    subst (λ (n : ℕ). flow_at_least law n x b) e ((IsLaw-at S some law sound).downward 1 x a b (omega arith) le
    (subst (λ (n : ℕ). flow_at_least law n x a) (sym e) h))

pub up-at : (S : ℕ) (law : Law) (x a b : ℤ) → 0 < S → IsSoundLaw law → a ≤ℤ b → flow_at_most law S x a
    → flow_at_most law S x b
up-at S law x a b some sound le h =
    let e : S * 1 ≡ S = omega arith in
    subst (λ (n : ℕ). flow_at_most law n x b) e ((IsLaw-at S some law sound).upward 1 x a b (omega arith) le
    (subst (λ (n : ℕ). flow_at_most law n x a) (sym e) h))

-- a flow that is met at a head difference follows the law
pub met-follows : (S : ℕ) (law : Law) (x q : ℤ) → 0 < S → IsSoundLaw law
    → (high_at S law x -ℤ tolerance S) ≤ℤ q → q ≤ℤ (low_at S law x +ℤ tolerance S) → Follows law S x q
met-follows S law x q some sound more less = record {
  at_least = down-at S law x (low_at S law x) (q -ℤ tolerance S) some sound (omega (arith, ints, less))
      (enclosed-below S law x some sound);
  at_most = up-at S law x (high_at S law x) (q +ℤ tolerance S) some sound (omega (arith, ints, more))
      (enclosed-above S law x some sound);
}
