-- The head that a pump lifts, rounded.
use Rattle.std.proofs.Common.{◌≡◌, ℕ, ◌*◌, ◌^◌, ◌<◌, ◌≤◌, ℤ, pos, negsuc, neg_ℤ, ◌*ℤ◌, ◌≤ℤ◌, ◌<ℤ◌, unsigned_abs, Bool}
use Rattle.std.proofs.Common.{refl, ap, ◌∙◌, arith}
use Rattle.std.specs.Int.{int_div_euclid}
use Rattle.std.proofs.lemmas.Int.{ints}
use Rattle.std.proofs.Math.Nat.{mul-le-mul, mul-le-mul_right}
use Rattle.hyd_num.proofs.Integers.{times_neg, times_reflects}
use Rattle.hyd_num.specs.Rational.{Rational, floor, ceiling}
use Rattle.hyd_lemmas.proofs.Integers.{floor_low, floor_greatest, floor_at_most_ceiling}
use Rattle.hyd_spec.specs.ProgramTypes.{ShutoffHead}
use Rattle.hyd_spec.specs.DemandsHeadsAndPumpLifts.{shutoff_head, lift_of}
use Rattle.hyd_law.specs.KnotsOfStraightLines.{IsValue}

-- the quotients of the code, as a fraction's floor and ceiling
pub ordered_ends : (n d lo hi : ℤ) → pos 0 <ℤ d → lo ≡ int_div_euclid n d → hi ≡ neg_ℤ (int_div_euclid (neg_ℤ n) d)
    → lo ≤ℤ hi
ordered_ends n (pos d) lo hi above l h =
    let x : Rational = record { num = n; den = d } in
    let m = floor_at_most_ceiling x (omega (arith, ints, above)) in
    omega (arith, ints, m, l, h)
ordered_ends n (negsuc d) lo hi above l h = absurd (omega (arith, ints, above))

pub low_end : (n d lo : ℤ) (x : Rational) → IsValue n d x → lo ≡ int_div_euclid n d → lo ≡ floor x
low_end n d lo x is l = l ∙ ap (λ (z : ℤ). int_div_euclid z d) is.num_is ∙ ap (int_div_euclid x.num) is.den_is

pub high_end : (n d hi : ℤ) (x : Rational) → IsValue n d x → hi ≡ neg_ℤ (int_div_euclid (neg_ℤ n) d) → hi ≡ ceiling x
high_end n d hi x is h =
    h ∙ ap (λ (z : ℤ). neg_ℤ (int_div_euclid (neg_ℤ z) d)) is.num_is
    ∙ ap (λ (z : ℤ). neg_ℤ (int_div_euclid (neg_ℤ x.num) z)) is.den_is

pub floor_within : (n d lo : ℤ) (m : ℕ) → pos 0 <ℤ d → lo ≡ int_div_euclid n d → unsigned_abs n ≤ m * unsigned_abs d
    → unsigned_abs lo ≤ m
floor_within n (pos d) lo m above l small =
    let x : Rational = record { num = n; den = d } in
    let some : 0 < d = omega (arith, ints, above) in
    let a = floor_greatest x (neg_ℤ (pos m)) some (let e = times_neg d (pos m) in omega (arith, ints, e, small)) in
    let b : floor x ≤ℤ pos m = times_reflects d (floor x) (pos m) some (let f = floor_low x some in
    omega (arith, ints, f, small)) in
    omega (arith, ints, a, b, l)
floor_within n (negsuc d) lo m above l small = absurd (omega (arith, ints, above))

pub ceiling_within : (n d hi : ℤ) (m : ℕ) → pos 0 <ℤ d → hi ≡ neg_ℤ (int_div_euclid (neg_ℤ n) d)
    → unsigned_abs n ≤ m * unsigned_abs d → unsigned_abs hi ≤ m
ceiling_within n d hi m above h small =
    let a = floor_within (neg_ℤ n) d (int_div_euclid (neg_ℤ n) d) m above refl (omega (arith, ints, small)) in
    omega (arith, ints, a, h)

pub square_times : (s t r x y z : ℤ) → x ≡ t *ℤ t → t ≡ s → y ≡ z → r ≡ x *ℤ y → r ≡ (s *ℤ s) *ℤ z
square_times s t r x y z e f h g = g ∙ (rw (e, f, h) refl)

pub square_small : (r x y s t : ℕ) → t ≡ s → x ≡ t * t → r ≡ x * y → s ≤ 10 ^ 10 → r ≤ 10 ^ 20 * y
square_small r x y s t f e g small =
    let b : t ≤ 10 ^ 10 = omega (arith, f, small) in
    let l : t * t ≤ 10 ^ 10 * 10 ^ 10 = mul-le-mul b b in
    let k : x ≤ 10 ^ 20 = omega (arith, l, e) in
    let m : x * y ≤ 10 ^ 20 * y = mul-le-mul_right y k in
    omega (arith, m, g)

pub product_small : (x y s t : ℕ) → t ≡ s → x ≡ t * t → s ≤ 10 ^ 10 → y ≤ 3 * 10 ^ 16 → x * y ≤ 3 * 10 ^ 36
product_small x y s t f e small le =
    let b : t ≤ 10 ^ 10 = omega (arith, f, small) in
    let l : t * t ≤ 10 ^ 10 * 10 ^ 10 = mul-le-mul b b in
    let k : x ≤ 10 ^ 20 = omega (arith, l, e) in
    let m : x * y ≤ 10 ^ 20 * (3 * 10 ^ 16) = mul-le-mul k le in
    omega (arith, m)

pub euclid_at : (r n d n' d' : ℤ) → r ≡ int_div_euclid n' d' → n' ≡ n → d' ≡ d → r ≡ int_div_euclid n d
euclid_at r n d n' d' e f g = e ∙ (rw (f, g) refl)

-- the lift of the code is that of the definitions
pub lift_value : (us : Bool) (head : ShutoffHead) (speed n m r s k : ℤ) → n ≡ r → r ≡ (s *ℤ s) *ℤ k → s ≡ speed
    → k ≡ (shutoff_head us head).num
    → m ≡ pos (10 ^ 18 * (shutoff_head us head).den) → 0 < (shutoff_head us head).den
    → IsValue n m (lift_of us head speed)
lift_value us head speed n m r s k e f g h i above = record {
  num_is = e ∙ f ∙ (rw (g, h) refl);
  den_is = i;
  above = omega (arith, above);
}
