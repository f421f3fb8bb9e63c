-- What a flow that passes a test says exactly: that its power 1852 is at most (or at least) the constant times the
-- power 1000 of the head, without roundings.
use Rattle.std.proofs.Common.{◌≡◌, ℕ, zero, suc, ◌+◌, ◌-◌, ◌*◌, ◌^◌, ◌<◌, ◌≤◌, ap, sym, subst, refl, arith}
use Rattle.std.proofs.Common.{le_trans, mul-le-mul_right, le_of_mul-le-mul_right, mul-pos, pow-suc}
use Rattle.std.proofs.Math.Nat.{mul-le-mul_left, pow-zero}
use Rattle.std.proofs.lemmas.Nat.{pow_pos, pow-add}
use borrow.Author.Differences.{up, down}
use Rattle.hyd_num.specs.declared.binary.Scaled.{Scaled}
use Rattle.hyd_num.specs.declared.pairs.Pair.{Pair}
use Rattle.hyd_num.specs.BinaryNumbers.{numerator, denominator}
use Rattle.hyd_num.proofs.EndsInOrder.{denominator_positive}
use Rattle.hyd_spec_power_laws.specs.declared.cut_numbers.CutNumber.{CutNumber}
use Rattle.hyd_spec_power_laws.specs.CutPowers.{value, cut_power, exponent, digits_of_1852, digits_of_1000}
use Rattle.hyd_spec_power_laws.specs.CutPowers.{in_63_digits}
use Rattle.hyd_spec_power_laws.specs.WholeFlows.{flow_side, head_side, driving}
use Rattle.hyd_spec_power_laws.specs.PowerCapacities.{IsLessened, IsRaised}
use Rattle.hyd_spec_power_laws.specs.CutPowers.{roundings}
use Rattle.hyd_power_laws.proofs.CutNumbers.{product-cut, cut-near}
use Rattle.hyd_power_laws.proofs.CutPowers.{power-normal}
use Rattle.hyd_power_laws.proofs.WholeNumbers.{whole-cut}
use Rattle.hyd_power_laws.proofs.FlowTests.{mantissa_normal}
use Rattle.hyd_power_laws.proofs.PowersOfWholeNumbers.{whole-power-at_most, whole-power-near}
use Rattle.hyd_power_laws.proofs.Margins.{margin_below, margin_above}

-- ---- exponents

pub exponent_of_flows : exponent digits_of_1852 ≡ 1852
unfolding exponent
exponent_of_flows = refl

pub exponent_of_heads : exponent digits_of_1000 ≡ 1000
unfolding exponent
exponent_of_heads = refl

roundings_of_flows : roundings digits_of_1852 ≡ 1851
unfolding roundings
roundings_of_flows = refl

roundings_of_heads : roundings digits_of_1000 ≡ 999
unfolding roundings
roundings_of_heads = refl

power_of_power : (a b c : ℕ) → (a ^ b) ^ c ≡ a ^ (b * c)
power_of_power a b zero = rw (pow-zero (a ^ b)) (sym (let e : b * 0 ≡ 0 = omega arith in rw (e, pow-zero a) refl))
power_of_power a b (suc c) =
    let e : b * suc c ≡ b * c + b = omega arith in
    rw (pow-suc (a ^ b) c, power_of_power a b c, e) (sym (pow-add a (b * c) b))

-- 2^62 to the power of flows times 2^7176 is 2^122 to that of heads
powers_balance : (e f w : ℕ) → 62 * e + w ≡ 122 * f → (2 ^ 62) ^ e * 2 ^ w ≡ (2 ^ 62) ^ f * (2 ^ 60) ^ f
powers_balance e f w h =
    let s : 122 * f ≡ 62 * f + 60 * f = omega arith in
    rw (
      power_of_power 2 62 e,
      power_of_power 2 62 f,
      power_of_power 2 60 f,
      ← pow-add 2 (62 * e) w,
      ← pow-add 2 (62 * f) (60 * f),
      ← s,
      h,
    ) refl

sides_balance : (2 ^ 62) ^ exponent digits_of_1852 * 2 ^ 7176 ≡ (2 ^ 62) ^ exponent digits_of_1000
    * (2 ^ 60) ^ exponent digits_of_1000
sides_balance = powers_balance (exponent digits_of_1852) (exponent digits_of_1000) 7176
    (omega (arith, exponent_of_flows, exponent_of_heads))

pub positive_power : (n k : ℕ) → 0 < n → 0 < n ^ k
positive_power n zero some = rw (pow-zero n) (omega arith)
positive_power n (suc k) some = rw (pow-suc n k) (mul-pos (positive_power n k some) some)

-- ---- the lower test

-- Qe, Ne, Nk, Mk, Nf, Tf, Zf stand for powers of the flow, of 2^62, 2^62 + 1, 2^60 and the head; W D and U for both
-- sides' powers of two
low_sides : (Qe Ne Nk Mk P H W D U mant X Zf Nf Tf : ℕ) → Qe * Ne * Nk ≤ P * Mk → P * (W * D) ≤ H * U → H ≤ mant * X
    → X ≤ Zf * Nf → Ne * W ≡ Nf * Tf → 0 < Nf → Qe * Tf * Nk * D ≤ mant * U * Zf * Mk
low_sides Qe Ne Nk Mk P H W D U mant X Zf Nf Tf near test cut power balance above =
    let a : Qe * Ne * Nk * (W * D) ≤ P * Mk * (W * D) = mul-le-mul_right (W * D) near in
    let b : P * (W * D) * Mk ≤ H * U * Mk = mul-le-mul_right Mk test in
    let x : mant * X ≤ mant * (Zf * Nf) = mul-le-mul_left mant power in
    let c : H * (U * Mk) ≤ mant * (Zf * Nf) * (U * Mk) = mul-le-mul_right (U * Mk) (le_trans cut x) in
    let e : Qe * Nk * D * (Ne * W) ≡ Qe * Nk * D * (Nf * Tf) = ap (λ y. Qe * Nk * D * y) balance in
    let l : Qe * Tf * Nk * D * Nf ≤ mant * U * Zf * Mk * Nf = omega (arith, a, b, c, e) in
    le_of_mul-le-mul_right l above

low_margin : (Q n D Z Nk Mk kn kd c less : ℕ) → Q * Nk * D ≤ n * Z * Mk → n * kd * c ≤ kn * less * D
    → less * Mk ≤ c * Nk → 0 < D * c * Nk → Q * kd ≤ kn * Z
low_margin Q n D Z Nk Mk kn kd c less sides lessened room above =
    let a : Q * Nk * D * (kd * c) ≤ n * Z * Mk * (kd * c) = mul-le-mul_right (kd * c) sides in
    let b : n * kd * c * (Z * Mk) ≤ kn * less * D * (Z * Mk) = mul-le-mul_right (Z * Mk) lessened in
    let d : less * Mk * (kn * D * Z) ≤ c * Nk * (kn * D * Z) = mul-le-mul_right (kn * D * Z) room in
    let l : Q * kd * (D * c * Nk) ≤ kn * Z * (D * c * Nk) = omega (arith, a, b, d) in
    le_of_mul-le-mul_right l above

-- the product of a number rounded down and a fraction rounded down
lessened_by : (nk dk kn kd fn fd c less : ℕ) → 0 < fd → nk * (kd * fd) ≤ kn * fn * dk → fn * c ≤ less * fd
    → nk * kd * c ≤ kn * less * dk
lessened_by nk dk kn kd fn fd c less above product factor =
    let a : nk * (kd * fd) * c ≤ kn * fn * dk * c = mul-le-mul_right c product in
    let b : fn * c * (kn * dk) ≤ less * fd * (kn * dk) = mul-le-mul_right (kn * dk) factor in
    let l : nk * kd * c * fd ≤ kn * less * dk * fd = omega (arith, a, b) in
    le_of_mul-le-mul_right l above

lessened_end : (constant : Pair) (k : Scaled) → IsLessened constant k
    → numerator k * denominator constant.lo * 2 ^ 49 ≤ numerator constant.lo * (2 ^ 49 - 1) * denominator k
lessened_end constant k x =
    subst (λ (s : Scaled). numerator s * denominator constant.lo * 2 ^ 49 ≤ numerator constant.lo * (2 ^ 49 - 1)
    * denominator s) x.low_is
    (lessened_by (numerator x.less.lo) (denominator x.less.lo) (numerator constant.lo) (denominator constant.lo)
    (numerator x.factor.lo) (denominator x.factor.lo) (2 ^ 49) (2 ^ 49 - 1) (denominator_positive x.factor.lo)
    x.less_is.low.at_most x.factor_is.low.at_most)

-- the head's side is at most the exact one
driving-at_most : (k : Scaled) (z : ℕ) → 1 ≤ z → z < 2 ^ 128
    → value (driving k z) ≤ k.mant * value (cut_power (in_63_digits z) digits_of_1000)
driving-at_most k z some short =
    let p = power-normal (in_63_digits z) digits_of_1000 (whole-cut z some short).normal in
    let c = (product-cut (record { mant = k.mant; exp = 0 }) (cut_power (in_63_digits z) digits_of_1000)
    (mantissa_normal k) p).at_most in
    let e : 2 ^ 0 ≡ 1 = pow-zero 2 in
    omega (arith, c, ap (λ x. k.mant * x * value (cut_power (in_63_digits z) digits_of_1000)) e)

-- E is a factor that the head's side is taken with
pub low_exactly-times : (E : ℕ) (constant : Pair) (k : Scaled) (q z : ℕ) → IsLessened constant k → 1 ≤ q → q < 2 ^ 128
    → 1 ≤ z → z < 2 ^ 128 → flow_side k q ≤ E * head_side k z
    → q ^ 1852 * (2 ^ 60) ^ 1000 * denominator constant.lo ≤ numerator constant.lo * (E * z ^ 1000)
low_exactly-times E constant k q z lessened some short left head test =
    let e = exponent digits_of_1852 in
    let f = exponent digits_of_1000 in
    let r = e + roundings digits_of_1852 in
    let t : value (cut_power (in_63_digits q) digits_of_1852) * (2 ^ 7176 * 2 ^ down k.exp)
    ≤ E * (value (driving k z) * 2 ^ up k.exp) = (rw (pow-add 2 7176 (down k.exp)) at test) in
    let s = low_sides (q ^ e) ((2 ^ 62) ^ e) ((2 ^ 62) ^ r) ((2 ^ 62 + 1) ^ r)
    (value (cut_power (in_63_digits q) digits_of_1852)) (value (driving k z)) (2 ^ 7176) (2 ^ down k.exp)
    (2 ^ up k.exp * E)
    k.mant (value (cut_power (in_63_digits z) digits_of_1000)) (z ^ f) ((2 ^ 62) ^ f) ((2 ^ 60) ^ f)
    (whole-power-near q digits_of_1852 some short) (omega (arith, t)) (driving-at_most k z left head)
    (whole-power-at_most z digits_of_1000 left head) sides_balance (positive_power (2 ^ 62) f (omega arith)) in
    let m = low_margin (q ^ e * (2 ^ 60) ^ f) (k.mant * 2 ^ up k.exp) (2 ^ down k.exp) (E * z ^ f) ((2 ^ 62) ^ r)
    ((2 ^ 62 + 1) ^ r) (numerator constant.lo) (denominator constant.lo) (2 ^ 49) (2 ^ 49 - 1) (omega (arith, s))
    (lessened_end constant k lessened)
    (margin_below r (omega (arith, exponent_of_flows, roundings_of_flows)))
    (mul-pos (mul-pos (pow_pos (down k.exp)) (pow_pos 49)) (positive_power (2 ^ 62) r (omega arith))) in
    rw (exponent_of_flows, exponent_of_heads) at m

no-less : (x : ℕ) → x ≤ 1 * x
no-less x = omega arith

no-more : (x : ℕ) → 1 * x ≤ x
no-more x = omega arith

once-at_most : (a n d x : ℕ) → a * d ≤ n * (1 * x) → a * d ≤ n * x
once-at_most a n d x h = omega (arith, h)

pub low_exactly : (constant : Pair) (k : Scaled) (q z : ℕ) → IsLessened constant k → 1 ≤ q → q < 2 ^ 128 → 1 ≤ z
    → z < 2 ^ 128 → flow_side k q ≤ head_side k z
    → q ^ 1852 * (2 ^ 60) ^ 1000 * denominator constant.lo ≤ numerator constant.lo * z ^ 1000
low_exactly constant k q z lessened some short left head test =
    once-at_most (q ^ 1852 * (2 ^ 60) ^ 1000) (numerator constant.lo) (denominator constant.lo) (z ^ 1000)
    (low_exactly-times 1 constant k q z lessened some short left head (le_trans test (no-less (head_side k z))))

-- ---- the upper test

-- the cut product is near, and so is its power: Nj and Mj stand for powers of 2^62 and 2^62 + 1 by its roundings
high_sides : (Qe Ne Nj Mj N M P H W D U mant X Zf Nf Tf : ℕ) → H * U ≤ P * (W * D) → mant * X * N ≤ H * M
    → Zf * Nf * Nj ≤ X * Mj → P ≤ Qe * Ne → Ne * W ≡ Nf * Tf → 0 < Nf
    → mant * U * Zf * (Nj * N) ≤ Qe * Tf * D * (Mj * M)
high_sides Qe Ne Nj Mj N M P H W D U mant X Zf Nf Tf test cut near power balance above =
    let a : Zf * Nf * Nj * (mant * U * N) ≤ X * Mj * (mant * U * N) = mul-le-mul_right (mant * U * N) near in
    let b : mant * X * N * (U * Mj) ≤ H * M * (U * Mj) = mul-le-mul_right (U * Mj) cut in
    let c : H * U * (M * Mj) ≤ P * (W * D) * (M * Mj) = mul-le-mul_right (M * Mj) test in
    let d : P * (W * D * M * Mj) ≤ Qe * Ne * (W * D * M * Mj) = mul-le-mul_right (W * D * M * Mj) power in
    let e : Qe * D * M * Mj * (Ne * W) ≡ Qe * D * M * Mj * (Nf * Tf) = ap (λ y. Qe * D * M * Mj * y) balance in
    let l : mant * U * Zf * (Nj * N) * Nf ≤ Qe * Tf * D * (Mj * M) * Nf = omega (arith, a, b, c, d, e) in
    le_of_mul-le-mul_right l above

high_margin : (Q n D Z Nk Mk kn kd c more : ℕ) → n * Z * Nk ≤ Q * D * Mk → kn * more * D ≤ n * kd * c
    → c * Mk ≤ more * Nk → 0 < D * more * Nk → kn * Z ≤ Q * kd
high_margin Q n D Z Nk Mk kn kd c more sides raised room above =
    let a : kn * more * D * (Z * Nk) ≤ n * kd * c * (Z * Nk) = mul-le-mul_right (Z * Nk) raised in
    let b : n * Z * Nk * (kd * c) ≤ Q * D * Mk * (kd * c) = mul-le-mul_right (kd * c) sides in
    let d : c * Mk * (Q * D * kd) ≤ more * Nk * (Q * D * kd) = mul-le-mul_right (Q * D * kd) room in
    let l : kn * Z * (D * more * Nk) ≤ Q * kd * (D * more * Nk) = omega (arith, a, b, d) in
    le_of_mul-le-mul_right l above

raised_by : (nk dk kn kd fn fd c more : ℕ) → 0 < fd → kn * fn * dk ≤ nk * (kd * fd) → more * fd ≤ fn * c
    → kn * more * dk ≤ nk * kd * c
raised_by nk dk kn kd fn fd c more above product factor =
    let a : kn * fn * dk * c ≤ nk * (kd * fd) * c = mul-le-mul_right c product in
    let b : more * fd * (kn * dk) ≤ fn * c * (kn * dk) = mul-le-mul_right (kn * dk) factor in
    let l : kn * more * dk * fd ≤ nk * kd * c * fd = omega (arith, a, b) in
    le_of_mul-le-mul_right l above

raised_end : (constant : Pair) (k : Scaled) → IsRaised constant k
    → numerator constant.hi * (2 ^ 49 + 1) * denominator k ≤ numerator k * denominator constant.hi * 2 ^ 49
raised_end constant k x =
    subst (λ (s : Scaled). numerator constant.hi * (2 ^ 49 + 1) * denominator s ≤ numerator s * denominator constant.hi
    * 2 ^ 49) x.high_is
    (raised_by (numerator x.more.hi) (denominator x.more.hi) (numerator constant.hi) (denominator constant.hi)
    (numerator x.factor.hi) (denominator x.factor.hi) (2 ^ 49) (2 ^ 49 + 1) (denominator_positive x.factor.hi)
    x.more_is.high.at_least x.factor_is.high.at_least)

driving-near : (k : Scaled) (z : ℕ) → 1 ≤ z → z < 2 ^ 128
    → k.mant * value (cut_power (in_63_digits z) digits_of_1000) * 2 ^ 62 ≤ value (driving k z) * (2 ^ 62 + 1)
driving-near k z some short =
    let p = power-normal (in_63_digits z) digits_of_1000 (whole-cut z some short).normal in
    let b : CutNumber = record { mant = k.mant; exp = 0 } in
    let c = cut-near (value b * value (cut_power (in_63_digits z) digits_of_1000)) (driving k z)
    (product-cut b (cut_power (in_63_digits z) digits_of_1000) (mantissa_normal k) p) in
    let e : 2 ^ 0 ≡ 1 = pow-zero 2 in
    omega (arith, c, ap (λ x. k.mant * x * value (cut_power (in_63_digits z) digits_of_1000)) e)

pub high_exactly-times : (E : ℕ) (constant : Pair) (k : Scaled) (q z : ℕ) → IsRaised constant k → 1 ≤ q → q < 2 ^ 128
    → 1 ≤ z → z < 2 ^ 128 → E * head_side k z ≤ flow_side k q
    → numerator constant.hi * (E * z ^ 1000) ≤ q ^ 1852 * (2 ^ 60) ^ 1000 * denominator constant.hi
high_exactly-times E constant k q z raised some short left head test =
    let e = exponent digits_of_1852 in
    let f = exponent digits_of_1000 in
    let r = f + roundings digits_of_1000 in
    let t : E * (value (driving k z) * 2 ^ up k.exp)
    ≤ value (cut_power (in_63_digits q) digits_of_1852) * (2 ^ 7176 * 2 ^ down k.exp) =
    (rw (pow-add 2 7176 (down k.exp)) at test) in
    let s = high_sides (q ^ e) ((2 ^ 62) ^ e) ((2 ^ 62) ^ r) ((2 ^ 62 + 1) ^ r) (2 ^ 62) (2 ^ 62 + 1)
    (value (cut_power (in_63_digits q) digits_of_1852)) (value (driving k z)) (2 ^ 7176) (2 ^ down k.exp)
    (2 ^ up k.exp * E)
    k.mant (value (cut_power (in_63_digits z) digits_of_1000)) (z ^ f) ((2 ^ 62) ^ f) ((2 ^ 60) ^ f)
    (omega (arith, t)) (driving-near k z left head) (whole-power-near z digits_of_1000 left head)
    (whole-power-at_most q digits_of_1852 some short) sides_balance (positive_power (2 ^ 62) f (omega arith)) in
    let n : (2 ^ 62) ^ suc r ≡ (2 ^ 62) ^ r * 2 ^ 62 = pow-suc (2 ^ 62) r in
    let o : (2 ^ 62 + 1) ^ suc r ≡ (2 ^ 62 + 1) ^ r * (2 ^ 62 + 1) = pow-suc (2 ^ 62 + 1) r in
    let g : k.mant * (2 ^ up k.exp * E) * z ^ f * (2 ^ 62) ^ suc r ≤ q ^ e * (2 ^ 60) ^ f * 2 ^ down k.exp
    * (2 ^ 62 + 1) ^ suc r = rw (n, o) s in
    let m = high_margin (q ^ e * (2 ^ 60) ^ f) (k.mant * 2 ^ up k.exp) (2 ^ down k.exp) (E * z ^ f) ((2 ^ 62) ^ suc r)
    ((2 ^ 62 + 1) ^ suc r) (numerator constant.hi) (denominator constant.hi) (2 ^ 49) (2 ^ 49 + 1) (omega (arith, g))
    (raised_end constant k raised)
    (margin_above (suc r) (omega (arith, exponent_of_heads, roundings_of_heads)))
    (mul-pos (mul-pos (pow_pos (down k.exp)) (omega arith)) (positive_power (2 ^ 62) (suc r) (omega arith))) in
    rw (exponent_of_flows, exponent_of_heads) at m

once-at_least : (a n d x : ℕ) → n * (1 * x) ≤ a * d → n * x ≤ a * d
once-at_least a n d x h = omega (arith, h)

pub high_exactly : (constant : Pair) (k : Scaled) (q z : ℕ) → IsRaised constant k → 1 ≤ q → q < 2 ^ 128 → 1 ≤ z
    → z < 2 ^ 128 → head_side k z ≤ flow_side k q
    → numerator constant.hi * z ^ 1000 ≤ q ^ 1852 * (2 ^ 60) ^ 1000 * denominator constant.hi
high_exactly constant k q z raised some short left head test =
    once-at_least (q ^ 1852 * (2 ^ 60) ^ 1000) (numerator constant.hi) (denominator constant.hi) (z ^ 1000)
    (high_exactly-times 1 constant k q z raised some short left head (le_trans (no-more (head_side k z)) test))
