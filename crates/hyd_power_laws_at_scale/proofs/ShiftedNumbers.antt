-- Binary numbers whose exponents differ, as fractions.
use Rattle.std.proofs.Common.{◌≡◌, ℕ, ◌+◌, ◌-◌, ◌*◌, ◌/◌, ◌^◌, ◌<◌, ◌≤◌, ap, sym, ◌∙◌, arith, mul-pos}
use Rattle.std.proofs.Common.{mul-le-mul_right, le_of_mul-le-mul_right, mul-lt-mul_of_pos_right}
use Rattle.std.proofs.Common.{lt_of_mul-lt-mul_right}
use Rattle.std.proofs.Math.Nat.{div-mul-le_self, le-div_iff_mul-le}
use Rattle.std.proofs.lemmas.Nat.{pow_pos, pow-add}
use Rattle.std.proofs.lemmas.Int.{ints}
use borrow.Author.Differences.{up, down}
use Rattle.hyd_num.specs.declared.binary.Scaled.{Scaled}
use Rattle.hyd_num.specs.declared.pairs.Pair.{Pair}
use Rattle.hyd_num.specs.BinaryNumbers.{numerator, denominator}
use Rattle.hyd_num.proofs.EndsInOrder.{denominator_positive}
use Rattle.hyd_power_laws_at_scale.specs.Parts.{IsTimes}

-- the powers of two of both exponents
pub powers_are : (n : ℕ) (s t : Scaled) → IsTimes n s t
    → 2 ^ up t.exp * 2 ^ down s.exp ≡ 2 ^ n * 2 ^ up s.exp * 2 ^ down t.exp
powers_are n s t is =
    let g : up t.exp + down s.exp ≡ n + up s.exp + down t.exp = (let e = is.exponent in omega (arith, ints, e)) in
    sym (pow-add 2 (up t.exp) (down s.exp)) ∙ ap (λ x. 2 ^ x) g ∙ pow-add 2 (n + up s.exp) (down t.exp)
    ∙ ap (λ x. x * 2 ^ down t.exp) (pow-add 2 n (up s.exp))

-- so t is 2^n times s
pub times_is : (n : ℕ) (s t : Scaled) → IsTimes n s t
    → numerator t * denominator s ≡ 2 ^ n * numerator s * denominator t
times_is n s t is =
    let p = powers_are n s t is in
    rw is.mantissa (omega (arith, ap (λ x. s.mant * x) p))

-- ---- quotients by equal fractions: a / b is c / d

quotient_up_to : (a b c d x : ℕ) → 0 < b → 0 < d → a * d ≡ c * b → x * b ≤ a → x * d ≤ c
quotient_up_to a b c d x some above e h =
    let l : x * b * d ≤ a * d = mul-le-mul_right d h in
    let m : x * d * b ≤ c * b = omega (arith, l, e) in
    le_of_mul-le-mul_right m some

pub same_quotient : (a b c d : ℕ) → 0 < b → 0 < d → a * d ≡ c * b → a / b ≡ c / d
same_quotient a b c d some above e =
    let forth : a / b ≤ c / d = (le-div_iff_mul-le {x = a / b} {y = c} above).1
    (quotient_up_to a b c d (a / b) some above e (div-mul-le_self a b)) in
    let back : c / d ≤ a / b = (le-div_iff_mul-le {x = c / d} {y = a} some).1
    (quotient_up_to c d a b (c / d) above some (sym e) (div-mul-le_self c d)) in
    omega (arith, forth, back)

-- rounded up
over_up_to : (a b c d x : ℕ) → 0 < b → 0 < d → a * d ≡ c * b → x * b ≤ a + (b - 1) → x * d ≤ c + (d - 1)
over_up_to a b c d x some above e h =
    let l : x * b < a + b = omega (arith, h, some) in
    let m : x * b * d < (a + b) * d = mul-lt-mul_of_pos_right l above in
    let n : x * d * b < (c + d) * b = omega (arith, m, e) in
    let r : x * d < c + d = lt_of_mul-lt-mul_right b n in
    omega (arith, r, above)

pub same_ceiling : (a b c d : ℕ) → 0 < b → 0 < d → a * d ≡ c * b → (a + (b - 1)) / b ≡ (c + (d - 1)) / d
same_ceiling a b c d some above e =
    let forth : (a + (b - 1)) / b ≤ (c + (d - 1)) / d =
    (le-div_iff_mul-le {x = (a + (b - 1)) / b} {y = c + (d - 1)} above).1
    (over_up_to a b c d ((a + (b - 1)) / b) some above e (div-mul-le_self (a + (b - 1)) b)) in
    let back : (c + (d - 1)) / d ≤ (a + (b - 1)) / b =
    (le-div_iff_mul-le {x = (c + (d - 1)) / d} {y = a + (b - 1)} some).1
    (over_up_to c d a b ((c + (d - 1)) / d) above some (sym e) (div-mul-le_self (c + (d - 1)) d)) in
    omega (arith, forth, back)

-- ---- the ends of a pair

order_kept : (nl dl nh dh ml el mh eh w : ℕ) → 0 < w → 0 < el → 0 < eh → ml * dl ≡ w * nl * el
    → mh * dh ≡ w * nh * eh → ml * eh ≤ mh * el → nl * dh ≤ nh * dl
order_kept nl dl nh dh ml el mh eh w some a b low high h =
    let l : ml * eh * (dl * dh) ≤ mh * el * (dl * dh) = mul-le-mul_right (dl * dh) h in
    let x : ml * dl * (eh * dh) ≡ w * nl * el * (eh * dh) = ap (λ y. y * (eh * dh)) low in
    let z : mh * dh * (el * dl) ≡ w * nh * eh * (el * dl) = ap (λ y. y * (el * dl)) high in
    let all : nl * dh * (w * (el * eh)) ≤ nh * dl * (w * (el * eh)) = omega (arith, l, x, z) in
    le_of_mul-le-mul_right all (mul-pos some (mul-pos a b))

pub in_order : (p : ℕ) (r : Pair) (lo hi : Scaled) → IsTimes p lo r.lo → IsTimes p hi r.hi
    → numerator lo * denominator hi ≤ numerator hi * denominator lo
in_order p r lo hi low high =
    order_kept (numerator lo) (denominator lo) (numerator hi) (denominator hi) (numerator r.lo) (denominator r.lo)
    (numerator r.hi) (denominator r.hi) (2 ^ p) (pow_pos p) (denominator_positive r.lo) (denominator_positive r.hi)
    (times_is p lo r.lo low) (times_is p hi r.hi high) r.ordered
