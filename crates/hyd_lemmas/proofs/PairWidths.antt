-- How wide pairs become. One rounding moves an end by one part in a grain, a factor of (grain + 1) / grain: here widths
-- are counted in such factors. Two of them are counted in advance, for the roundings of the two ends of the next
-- product or quotient.
use Rattle.std.proofs.Common.{◌≡◌, ℕ, zero, suc, ◌+◌, ◌-◌, ◌*◌, ◌^◌, ◌<◌, ◌≤◌, refl, sym, ap, subst, ◌∙◌, arith}
use Rattle.std.proofs.Common.{mul-pos, pow-suc}
use Rattle.std.proofs.Math.Nat.{mul-le-mul_right, mul-le-mul_left, le_of_mul-le-mul_right, one-le-pow, pow-le-pow_left}
use Rattle.std.proofs.Math.Nat.{pow-zero}
use Rattle.std.proofs.lemmas.Nat.{mul-le, pow-add}
use Rattle.hyd_num.specs.declared.pairs.Pair.{Pair}
use Rattle.hyd_num.specs.BinaryNumbers.{numerator, denominator, IsDown, IsUp}
use Rattle.hyd_num.specs.Pairs.{IsRatio, IsProduct, IsQuotient, IsSum, IsPower, once, even, odd}
use Rattle.hyd_num.proofs.EndsInOrder.{denominator_positive, numerator_positive}
use Rattle.hyd_num.proofs.Powers.{pow_one}
use Rattle.hyd_lemmas.proofs.PairOperations.{square_is as twice_power}
use Rattle.hyd_lemmas.proofs.RoundingErrors.{grain, grain_is, grain_above, down-near, up-near}

abbrev pub above : ℕ
above = grain + 1

-- the upper end over the lower one is high / low
abbrev pub high : Pair → ℕ
high x = numerator x.hi * denominator x.lo

abbrev pub low : Pair → ℕ
low x = numerator x.lo * denominator x.hi

-- after two factors more, the ends are within w factors
pub record IsNear (w : ℕ) (x : Pair) : Type 0 where
  pub within : high x * (above * above * grain ^ w) ≤ low x * (grain * grain * above ^ w)

low_above : (x : Pair) → 0 < low x
low_above x = mul-pos (numerator_positive x.lo) (denominator_positive x.hi)

-- what rounding adds to two widths
combined : (h l h1 l1 h2 l2 g u a1 b1 a2 b2 : ℕ) → 0 < l1 * l2 * (g * g) → h * (l1 * l2) * (g * g) ≤ l * (h1 * h2)
    * (u * u)
    → h1 * (u * u * a1) ≤ l1 * (g * g * b1) → h2 * (u * u * a2) ≤ l2 * (g * g * b2)
    → h * (u * u * (a1 * a2)) ≤ l * (g * g * (b1 * b2))
combined h l h1 l1 h2 l2 g u a1 b1 a2 b2 some rounding first second =
    let both : h1 * (u * u * a1) * (h2 * (u * u * a2)) ≤ l1 * (g * g * b1) * (l2 * (g * g * b2)) = mul-le _ _ _ _
    first second in
    let p : h * (l1 * l2) * (g * g) * (u * u * (a1 * a2)) ≤ l * (h1 * h2) * (u * u) * (u * u * (a1 * a2)) =
    mul-le-mul_right (u * u * (a1 * a2)) rounding in
    let q : l * (h1 * (u * u * a1) * (h2 * (u * u * a2))) ≤ l * (l1 * (g * g * b1) * (l2 * (g * g * b2))) =
    mul-le-mul_left l both in
    let all : h * (u * u * (a1 * a2)) * (l1 * l2 * (g * g)) ≤ l * (g * g * (b1 * b2)) * (l1 * l2 * (g * g)) =
    omega (arith, p, q) in
    le_of_mul-le-mul_right all some

added : (x y r : Pair) (v w : ℕ) → high r * (low x * low y) * (grain * grain) ≤ low r * (high x * high y)
    * (above * above)
    → IsNear v x → IsNear w y → IsNear (v + w) r
added x y r v w rounding nx ny =
    record {
      within = rw (pow-add grain v w, pow-add above v w)
          (combined (high r) (low r) (high x) (low x) (high y) (low y) grain above (grain ^ v) (above ^ v) (grain ^ w)
          (above ^ w)
          (mul-pos (mul-pos (low_above x) (low_above y)) (mul-pos grain_above grain_above)) rounding nx.within
          ny.within);
    }

-- the two roundings of a pair at once: the lower end of a / b, the upper end of c / d
rounded : (a b c d : ℕ) (r : Pair) → IsDown a b r.lo → IsUp c d r.hi
    → high r * (a * d) * (grain * grain) ≤ low r * (c * b) * (above * above)
rounded a b c d r down up =
    let both : a * denominator r.lo * grain * (numerator r.hi * d * grain) ≤ numerator r.lo * b * above
    * (c * denominator r.hi * above)
    = mul-le _ _ _ _ (down-near a b r.lo down) (up-near c d r.hi up) in
    omega (arith, both)

pub product-near : (x y r : Pair) (v w : ℕ) → IsProduct x y r → IsNear v x → IsNear w y → IsNear (v + w) r
product-near x y r v w made nx ny =
    added x y r v w (omega (arith, rounded _ _ _ _ r made.low made.high)) nx ny

pub quotient-near : (x y r : Pair) (v w : ℕ) → IsQuotient x y r → IsNear v x → IsNear w y → IsNear (v + w) r
quotient-near x y r v w made nx ny =
    added x y r v w (omega (arith, rounded _ _ _ _ r made.low made.high)) nx ny

powers_above : (w : ℕ) → 0 < grain ^ w
powers_above w = one-le-pow w grain grain_above

-- the width of a fraction: two roundings, and two in advance
fraction_near : (h l pq g u : ℕ) → 0 < pq → h * pq * (g * g) ≤ l * pq * (u * u) → h * (u * u * (g * g * (g * g))) ≤ l
    * (g * g * (u * u * (u * u)))
fraction_near h l pq g u some rounding =
    let one : h * (g * g) ≤ l * (u * u) = le_of_mul-le-mul_right (omega (arith, rounding)) some in
    omega (arith, mul-le-mul_right (u * u * (g * g)) one)

fourth : (x : ℕ) → x ^ 4 ≡ x * x * (x * x)
fourth x = sym (twice_power x 2 4 refl) ∙ ap (λ y. y * y) (sym (twice_power x 1 2 refl) ∙ ap (λ y. y * y) (pow_one x))

pub ratio-near : (p q : ℕ) (r : Pair) → 0 < p → 0 < q → IsRatio p q r → IsNear 4 r
ratio-near p q r some more made =
    record {
      within = rw (fourth grain, fourth above)
          (fraction_near (high r) (low r) (p * q) grain above (mul-pos some more)
          (rounded _ _ _ _ r made.low made.high));
    }

-- more factors than needed
pub wider : (v w : ℕ) (x : Pair) → IsNear v x → IsNear (v + w) x
wider v w x near =
    record {
      within =
          let a : high x * (above * above * grain ^ v) * grain ^ w ≤ low x * (grain * grain * above ^ v) * grain ^ w =
          mul-le-mul_right (grain ^ w) near.within in
          let b : low x * (grain * grain * above ^ v) * grain ^ w ≤ low x * (grain * grain * above ^ v) * above ^ w
          = mul-le-mul_left (low x * (grain * grain * above ^ v)) (pow-le-pow_left (omega arith) w) in
          rw (pow-add grain v w, pow-add above v w) (omega (arith, a, b));
    }

-- the two ends of an exact sum are no wider than those of its parts
sum_width : (h l h1 l1 e1 h2 l2 e2 g u a b : ℕ) → 0 < (l1 * e2 + l2 * e1) * (g * g)
    → h * (l1 * e2 + l2 * e1) * (g * g) ≤ l * (h1 * e2 + h2 * e1) * (u * u)
    → h1 * (u * u * a) ≤ l1 * (g * g * b) → h2 * (u * u * a) ≤ l2 * (g * g * b) → h * a ≤ l * b
sum_width h l h1 l1 e1 h2 l2 e2 g u a b some rounding first second =
    let p : h * (l1 * e2 + l2 * e1) * (g * g) * a ≤ l * (h1 * e2 + h2 * e1) * (u * u) * a = mul-le-mul_right a
    rounding in
    let q : h1 * (u * u * a) * (l * e2) ≤ l1 * (g * g * b) * (l * e2) = mul-le-mul_right (l * e2) first in
    let r : h2 * (u * u * a) * (l * e1) ≤ l2 * (g * g * b) * (l * e1) = mul-le-mul_right (l * e1) second in
    let all : h * a * ((l1 * e2 + l2 * e1) * (g * g)) ≤ l * b * ((l1 * e2 + l2 * e1) * (g * g)) =
    omega (arith, p, q, r) in
    le_of_mul-le-mul_right all some

pub sum-near : (x y r : Pair) (w : ℕ) → IsSum x y r → IsNear w x → IsNear w y → IsNear (w + 2) r
sum-near x y r w made nx ny =
    let ex = denominator x.lo * denominator x.hi in
    let ey = denominator y.lo * denominator y.hi in
    let first : 0 < low x * ey = mul-pos (low_above x)
    (mul-pos (denominator_positive y.lo) (denominator_positive y.hi)) in
    let some : 0 < (low x * ey + low y * ex) * (grain * grain) = mul-pos (omega (arith, first))
    (mul-pos grain_above grain_above) in
    let l : high r * grain ^ w ≤ low r * above ^ w =
    sum_width (high r) (low r) (high x) (low x) ex (high y) (low y) ey grain above (grain ^ w) (above ^ w) some
    (omega (arith, rounded _ _ _ _ r made.low made.high)) nx.within ny.within in
    record {
      within = rw (
        pow-add grain w 2,
        pow-add above w 2,
        ← twice_power grain 1 2 refl,
        ← twice_power above 1 2 refl,
        pow_one grain,
        pow_one above,
      )
          (omega (arith, mul-le-mul_right (above * above * (grain * grain)) l));
    }

pub power-near : (x r : Pair) (n w : ℕ) → IsNear w x → IsPower x n r → IsNear (n * w) r
power-near x r n w near once = subst (λ (v : ℕ). IsNear v x) (omega arith) near
power-near x r k w near (even n k' s r' e made square) =
    let half : IsNear (n * w) s = power-near x s n w near made in
    subst (λ (v : ℕ). IsNear v r) (omega (arith, ap (λ i. i * w) e)) (product-near s s r _ _ square half half)
power-near x r k w near (odd n k' h s r' e made square more) =
    let half : IsNear (n * w) h = power-near x h n w near made in
    subst (λ (v : ℕ). IsNear v r) (omega (arith, ap (λ i. i * w) e))
    (product-near s x r _ _ more (product-near h h s _ _ square half half) near)

-- ---- from factors to a part of the lower end

-- w factors are at most one of u / (u - w), u being one more than g
bernoulli : (w d g u : ℕ) → u ≡ g + 1 → d + w ≡ u → u ^ w * d ≤ g ^ w * u
bernoulli zero d g u one all = omega (arith, all, ap (λ x. x * d) (pow-zero u), ap (λ x. x * u) (pow-zero g))
bernoulli (suc w) d g u one all =
    let before : u ^ w * (d + 1) ≤ g ^ w * u = bernoulli w (d + 1) g u one (omega (arith, all)) in
    let a : u ^ w * (d + 1) * g ≤ g ^ w * u * g = mul-le-mul_right g before in
    let b : u ^ w * (u * d) ≤ u ^ w * ((d + 1) * g) = mul-le-mul_left (u ^ w)
    (by_one d g u one (omega (arith, one, all))) in
    rw (pow-suc u w, pow-suc g w) (omega (arith, a, b))
  where
    by_one : (d g u : ℕ) → u ≡ g + 1 → d ≤ g → u * d ≤ (d + 1) * g
    by_one d g u one most = omega (arith, ap (λ x. x * d) one, most)

-- k parts of the lower end are left where the factors are few
part : (h l g u w d k a b : ℕ) → 0 < g → 0 < a → u ≡ g + 1 → d + w ≡ u → w * (k + 1) ≤ u → b * d ≤ a * u
    → h * (u * u * a) ≤ l * (g * g * b) → h * k ≤ l * (k + 1)
part h l g u w d k a b some more one all few few_factors near =
    let v : 0 < u = omega (arith, one) in
    let bigger : g * g ≤ u * u = mul-le g g u u (omega (arith, one)) (omega (arith, one)) in
    let p : h * a * (g * g) ≤ h * a * (u * u) = mul-le-mul_left (h * a) bigger in
    let q : h * a * (g * g) ≤ l * b * (g * g) = omega (arith, p, near) in
    let r : h * a ≤ l * b = le_of_mul-le-mul_right q (mul-pos some some) in
    let s : h * a * d ≤ l * b * d = mul-le-mul_right d r in
    let t : l * (b * d) ≤ l * (a * u) = mul-le-mul_left l few_factors in
    let x : h * d ≤ l * u = le_of_mul-le-mul_right (omega (arith, s, t)) more in
    let y : u * k ≤ d * (k + 1) = omega (arith, few, ap (λ z. z * (k + 1)) all) in
    let z : h * k * u ≤ l * (k + 1) * u = omega (arith, mul-le-mul_left h y, mul-le-mul_right (k + 1) x) in
    le_of_mul-le-mul_right z v

few_fit : (w : ℕ) → w ≤ 2 ^ 21 → (above - w) + w ≡ above
few_fit w few = omega (arith, few, grain_is)

few_parts : (w : ℕ) → w ≤ 2 ^ 21 → w * (2 ^ 40 + 1) ≤ above
few_parts w few = omega (arith, few, grain_is)

-- at most two to the power 21 factors leave the ends within the 2^40th part of the lower one
pub near-sharp : (w : ℕ) (x : Pair) → w ≤ 2 ^ 21 → IsNear w x → high x * 2 ^ 40 ≤ low x * (2 ^ 40 + 1)
near-sharp w x few near =
    part (high x) (low x) grain above w (above - w) (2 ^ 40) (grain ^ w) (above ^ w) grain_above (powers_above w) refl
    (few_fit w few) (few_parts w few)
    (bernoulli w (above - w) grain above refl (few_fit w few)) near.within
