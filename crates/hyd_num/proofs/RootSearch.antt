-- The search for the 100th root of a bound among the numbers of one exponent.
use Rattle.std.proofs.Common.{◌≡◌, ◌≢◌, ℕ, zero, suc, ◌+◌, ◌*◌, ◌^◌, ◌<◌, ◌≤◌, inl, inr, ℤ, pos, ◌+ℤ◌, ap, sym, ◌∙◌}
use Rattle.std.proofs.Common.{arith, lit≤, lit<, mul-le-mul_right, mul-lt-mul_of_pos_right, le_of_mul-le-mul_right}
use Rattle.std.proofs.Common.{pow-suc, suc-mul, zero-mul, le_of_lt, ne_of_gt, mul-pos}
use Rattle.std.proofs.lemmas.Nat.{pow_pos, pow-add, mul-pow}
use Rattle.std.proofs.Math.Nat.{pow-zero, pow-le-pow_left, pow-lt-pow_left, pow-le-pow_right, one-le-pow}
use Rattle.std.proofs.lemmas.Int.{ints}
use Rattle.std.proofs.lemmas.Bool.{cases_lt}
use borrow.Author.Differences.{up, down}
use Rattle.hyd_num.specs.declared.binary.Scaled.{Scaled}
use Rattle.hyd_num.specs.declared.pairs.Pair.{Pair}
use Rattle.hyd_num.specs.BinaryNumbers.{numerator, denominator}
use Rattle.hyd_num.specs.Pairs.{IsPower, RootsBelow, RootsAbove}
use Rattle.hyd_num.specs.CutsOfBinaryNumbers.{RootsOver, RootsUnder}
use Rattle.hyd_num.proofs.RoundingLemmas.{not_between, not_below, crossed}
use Rattle.hyd_num.proofs.EndsInOrder.{numerator_positive, denominator_positive}
use Rattle.hyd_num.proofs.Powers.{Below, high_rises, high_encloses, high_of_two, low_rises, low_encloses, low_of_two}

pow_pow : (b n : ℕ) → (2 ^ b) ^ n ≡ 2 ^ (n * b)
pow_pow b zero = pow-zero (2 ^ b) ∙ sym (rw zero-mul (pow-zero 2))
pow_pow b (suc n) = rw (pow-suc (2 ^ b) n, pow_pow b n, suc-mul n b) (sym (pow-add 2 (n * b) b))

-- of two numbers the lesser one's power isn't above the bound where the greater one's is at most it
pub over_above : (s t bound : Scaled) → RootsOver s bound → Below s t → RootsBelow t bound → ⊥
over_above s t bound o h b =
    let base : Below o.made.base.hi b.made.base.hi = rw (o.made.high, b.made.high) h in
    let r : Below o.result.hi b.result.hi = high_rises o.made.base b.made.base 100 o.result b.result base o.made.made
    b.made.made in
    let x : numerator bound * denominator o.result.hi * denominator b.result.hi < numerator o.result.hi
    * denominator bound * denominator b.result.hi = mul-lt-mul_of_pos_right o.over
    (denominator_positive b.result.hi) in
    let y : numerator o.result.hi * denominator b.result.hi * denominator bound ≤ numerator b.result.hi
    * denominator o.result.hi * denominator bound = mul-le-mul_right (denominator bound) r.crossed in
    let z : numerator b.result.hi * denominator bound * denominator o.result.hi ≤ numerator bound
    * denominator b.result.hi * denominator o.result.hi = mul-le-mul_right (denominator o.result.hi) b.at_most in
    absurd (omega (arith, x, y, z))

pub under_below : (s t bound : Scaled) → RootsUnder s bound → Below t s → RootsAbove t bound → ⊥
under_below s t bound o h b =
    let base : Below b.made.base.lo o.made.base.lo = rw (b.made.low, o.made.low) h in
    let r : Below b.result.lo o.result.lo = low_rises b.made.base o.made.base 100 b.result o.result base b.made.made
    o.made.made in
    let x : numerator o.result.lo * denominator bound * denominator b.result.lo < numerator bound
    * denominator o.result.lo * denominator b.result.lo = mul-lt-mul_of_pos_right o.under
    (denominator_positive b.result.lo) in
    let y : numerator b.result.lo * denominator o.result.lo * denominator bound ≤ numerator o.result.lo
    * denominator b.result.lo * denominator bound = mul-le-mul_right (denominator bound) r.crossed in
    let z : numerator bound * denominator b.result.lo * denominator o.result.lo ≤ numerator b.result.lo
    * denominator bound * denominator o.result.lo = mul-le-mul_right (denominator o.result.lo) b.at_least in
    absurd (omega (arith, x, y, z))

-- a bound is at least a power of two, or below one, by its exponent
pub bound_from : (bound : Scaled) (u d : ℕ) → u + down bound.exp ≤ 62 + up bound.exp + d
    → 2 ^ u * denominator bound ≤ numerator bound * 2 ^ d
bound_from bound u d h =
    let l : 2 ^ (u + down bound.exp) ≤ 2 ^ (62 + up bound.exp + d) = pow-le-pow_right {n = 2} (lit≤ tt) h in
    let a : 2 ^ (u + down bound.exp) ≡ 2 ^ u * 2 ^ down bound.exp = pow-add 2 u (down bound.exp) in
    let b : 2 ^ (62 + up bound.exp + d) ≡ 2 ^ (62 + up bound.exp) * 2 ^ d = pow-add 2 (62 + up bound.exp) d in
    let c : 2 ^ (62 + up bound.exp) ≡ 2 ^ 62 * 2 ^ up bound.exp = pow-add 2 62 (up bound.exp) in
    let m : 2 ^ 62 * (2 ^ up bound.exp * 2 ^ d) ≤ bound.mant * (2 ^ up bound.exp * 2 ^ d) = mul-le-mul_right
    (2 ^ up bound.exp * 2 ^ d) bound.normal in
    omega (arith, l, a, b, ap (λ x. x * 2 ^ d) c, m)

pub bound_to : (bound : Scaled) (u d : ℕ) → 63 + up bound.exp + d ≤ u + down bound.exp
    → numerator bound * 2 ^ d < 2 ^ u * denominator bound
bound_to bound u d h =
    let l : 2 ^ (63 + up bound.exp + d) ≤ 2 ^ (u + down bound.exp) = pow-le-pow_right {n = 2} (lit≤ tt) h in
    let a : 2 ^ (u + down bound.exp) ≡ 2 ^ u * 2 ^ down bound.exp = pow-add 2 u (down bound.exp) in
    let b : 2 ^ (63 + up bound.exp + d) ≡ 2 ^ (63 + up bound.exp) * 2 ^ d = pow-add 2 (63 + up bound.exp) d in
    let c : 2 ^ (63 + up bound.exp) ≡ 2 ^ 63 * 2 ^ up bound.exp = pow-add 2 63 (up bound.exp) in
    let p : 0 < 2 ^ up bound.exp * 2 ^ d = mul-pos (pow_pos (up bound.exp)) (pow_pos d) in
    let m : bound.mant * (2 ^ up bound.exp * 2 ^ d) < 2 ^ 63 * (2 ^ up bound.exp * 2 ^ d) = mul-lt-mul_of_pos_right
    bound.short p in
    omega (arith, l, a, b, ap (λ x. x * 2 ^ d) c, m)

-- a power of two roots below a bound that is at least its power, and above one that is less
pub two_below : (s bound : Scaled) (u d : ℕ) → numerator s * 2 ^ d ≤ 2 ^ u * denominator s
    → 2 ^ (100 * u) * denominator bound ≤ numerator bound * 2 ^ (100 * d) → RootsOver s bound → ⊥
two_below s bound u d h g o =
    let b : numerator o.made.base.hi * 2 ^ d ≤ 2 ^ u * denominator o.made.base.hi = rw o.made.high h in
    let r : numerator o.result.hi * 2 ^ (100 * d) ≤ 2 ^ (100 * u) * denominator o.result.hi = high_of_two o.made.base
    u d 100 o.result b o.made.made in
    let x : numerator o.result.hi * 2 ^ (100 * d) * denominator bound ≤ 2 ^ (100 * u) * denominator o.result.hi
    * denominator bound = mul-le-mul_right (denominator bound) r in
    let y : 2 ^ (100 * u) * denominator bound * denominator o.result.hi ≤ numerator bound * 2 ^ (100 * d)
    * denominator o.result.hi = mul-le-mul_right (denominator o.result.hi) g in
    let z : numerator bound * denominator o.result.hi * 2 ^ (100 * d) < numerator o.result.hi * denominator bound
    * 2 ^ (100 * d) = mul-lt-mul_of_pos_right o.over (pow_pos (100 * d)) in
    absurd (omega (arith, x, y, z))

pub two_above : (s bound : Scaled) (u d : ℕ) → 2 ^ u * denominator s ≤ numerator s * 2 ^ d
    → numerator bound * 2 ^ (100 * d) < 2 ^ (100 * u) * denominator bound → RootsUnder s bound → ⊥
two_above s bound u d h g o =
    let b : 2 ^ u * denominator o.made.base.lo ≤ numerator o.made.base.lo * 2 ^ d = rw o.made.low h in
    let r : 2 ^ (100 * u) * denominator o.result.lo ≤ numerator o.result.lo * 2 ^ (100 * d) = low_of_two o.made.base u
    d 100 o.result b o.made.made in
    let x : 2 ^ (100 * u) * denominator o.result.lo * denominator bound ≤ numerator o.result.lo * 2 ^ (100 * d)
    * denominator bound = mul-le-mul_right (denominator bound) r in
    let y : numerator bound * 2 ^ (100 * d) * denominator o.result.lo < 2 ^ (100 * u) * denominator bound
    * denominator o.result.lo = mul-lt-mul_of_pos_right g (denominator_positive o.result.lo) in
    let z : numerator o.result.lo * denominator bound * 2 ^ (100 * d) ≤ numerator bound * denominator o.result.lo
    * 2 ^ (100 * d) = mul-le-mul_right (2 ^ (100 * d)) (le_of_lt o.under) in
    absurd (omega (arith, x, y, z))

-- a number from a power of two on, whose exact power is above the bound, doesn't root below it
too_high : (n : ℕ) (t bound : Scaled) (base r : Pair) (u d : ℕ) → base.hi ≡ t → IsPower base n r
    → numerator bound * 2 ^ (n * d) < 2 ^ (n * u) * denominator bound
    → 2 ^ u * denominator t ≤ numerator t * 2 ^ d → numerator r.hi * denominator bound ≤ numerator bound
    * denominator r.hi → ⊥
too_high n t bound base r u d is_t made less h at_most =
    let e : numerator t ^ n * denominator r.hi ≤ numerator r.hi * denominator t ^ n = rw (← is_t)
    (high_encloses base n r made) in
    let p : (2 ^ u * denominator t) ^ n ≤ (numerator t * 2 ^ d) ^ n = pow-le-pow_left h n in
    let q : (2 ^ u * denominator t) ^ n ≡ 2 ^ (n * u) * denominator t ^ n = mul-pow (2 ^ u) (denominator t) n
    ∙ ap (λ x. x * denominator t ^ n) (pow_pow u n) in
    let o : (numerator t * 2 ^ d) ^ n ≡ numerator t ^ n * 2 ^ (n * d) = mul-pow (numerator t) (2 ^ d) n
    ∙ ap (λ x. numerator t ^ n * x) (pow_pow d n) in
    let f : 2 ^ (n * u) * denominator t ^ n ≤ numerator t ^ n * 2 ^ (n * d) = omega (arith, p, q, o) in
    let y : 0 < denominator t ^ n = one-le-pow n (denominator t) (denominator_positive t) in
    let a : 2 ^ (n * u) * denominator t ^ n * (denominator bound * denominator r.hi) ≤ numerator t ^ n * 2 ^ (n * d)
    * (denominator bound * denominator r.hi) = mul-le-mul_right (denominator bound * denominator r.hi) f in
    let b : numerator t ^ n * denominator r.hi * (2 ^ (n * d) * denominator bound) ≤ numerator r.hi
    * denominator t ^ n * (2 ^ (n * d) * denominator bound) = mul-le-mul_right (2 ^ (n * d) * denominator bound)
    e in
    let c : numerator r.hi * denominator bound * (denominator t ^ n * 2 ^ (n * d)) ≤ numerator bound
    * denominator r.hi * (denominator t ^ n * 2 ^ (n * d)) = mul-le-mul_right (denominator t ^ n * 2 ^ (n * d))
    at_most in
    let g : numerator bound * 2 ^ (n * d) * (denominator t ^ n * denominator r.hi) < 2 ^ (n * u) * denominator bound
    * (denominator t ^ n * denominator r.hi) =
    mul-lt-mul_of_pos_right less (mul-pos y (denominator_positive r.hi)) in
    absurd (omega (arith, a, b, c, g))

pub none_above : (bound t : Scaled) (u d : ℕ) → numerator bound * 2 ^ (100 * d) < 2 ^ (100 * u) * denominator bound
    → RootsBelow t bound → numerator t * 2 ^ d < 2 ^ u * denominator t
none_above bound t u d less b = elim (cases_lt (numerator t * 2 ^ d) (2 ^ u * denominator t)) [
  | inl l ↦ l
  | inr g ↦ absurd (too_high 100 t bound b.made.base b.result u d b.made.high b.made.made less g b.at_most)
]

-- a number below a power of two, whose exact power is at most the bound, doesn't root above it
too_low : (n : ℕ) (t bound : Scaled) (base r : Pair) (u d : ℕ) → n ≢ 0 → base.lo ≡ t → IsPower base n r
    → 2 ^ (n * u) * denominator bound ≤ numerator bound * 2 ^ (n * d)
    → numerator t * 2 ^ d < 2 ^ u * denominator t → numerator bound * denominator r.lo ≤ numerator r.lo
    * denominator bound → ⊥
too_low n t bound base r u d some is_t made most h at_least =
    let e : numerator r.lo * denominator t ^ n ≤ numerator t ^ n * denominator r.lo = rw (← is_t)
    (low_encloses base n r made) in
    let p : (numerator t * 2 ^ d) ^ n < (2 ^ u * denominator t) ^ n = pow-lt-pow_left h some in
    let q : (2 ^ u * denominator t) ^ n ≡ 2 ^ (n * u) * denominator t ^ n = mul-pow (2 ^ u) (denominator t) n
    ∙ ap (λ x. x * denominator t ^ n) (pow_pow u n) in
    let o : (numerator t * 2 ^ d) ^ n ≡ numerator t ^ n * 2 ^ (n * d) = mul-pow (numerator t) (2 ^ d) n
    ∙ ap (λ x. numerator t ^ n * x) (pow_pow d n) in
    let f : numerator t ^ n * 2 ^ (n * d) < 2 ^ (n * u) * denominator t ^ n = omega (arith, p, q, o) in
    let a : numerator t ^ n * 2 ^ (n * d) * (denominator bound * denominator r.lo) < 2 ^ (n * u) * denominator t ^ n
    * (denominator bound * denominator r.lo) =
    mul-lt-mul_of_pos_right f (mul-pos (denominator_positive bound) (denominator_positive r.lo)) in
    let b : numerator r.lo * denominator t ^ n * (2 ^ (n * d) * denominator bound) ≤ numerator t ^ n
    * denominator r.lo * (2 ^ (n * d) * denominator bound) = mul-le-mul_right (2 ^ (n * d) * denominator bound) e in
    let c : numerator bound * denominator r.lo * (denominator t ^ n * 2 ^ (n * d)) ≤ numerator r.lo
    * denominator bound * (denominator t ^ n * 2 ^ (n * d)) = mul-le-mul_right (denominator t ^ n * 2 ^ (n * d))
    at_least in
    let g : 2 ^ (n * u) * denominator bound * (denominator t ^ n * denominator r.lo) ≤ numerator bound * 2 ^ (n * d)
    * (denominator t ^ n * denominator r.lo) = mul-le-mul_right (denominator t ^ n * denominator r.lo) most in
    absurd (omega (arith, a, b, c, g))

pub none_below : (bound t : Scaled) (u d : ℕ) → 2 ^ (100 * u) * denominator bound ≤ numerator bound * 2 ^ (100 * d)
    → RootsAbove t bound → 2 ^ u * denominator t ≤ numerator t * 2 ^ d
none_below bound t u d most b = elim (cases_lt (numerator t * 2 ^ d) (2 ^ u * denominator t)) [
  | inl l ↦ absurd (too_low 100 t bound b.made.base b.result u d (ne_of_gt (lit< tt)) b.made.low b.made.made most l
      b.at_least)
  | inr g ↦ g
]

-- one step of the search
pub none_from : (bound middle t : Scaled) (exp : ℤ) → middle.exp ≡ exp → RootsOver middle bound → RootsBelow t bound
    → numerator t * 2 ^ down exp < middle.mant * 2 ^ up exp * denominator t
none_from bound middle t exp e o b = elim (cases_lt (numerator t * 2 ^ down exp) (middle.mant * 2 ^ up exp
    * denominator t)) [
      | inl l ↦ l
      | inr g ↦ absurd (over_above middle t bound o (record { crossed = rw e g }) b)
    ]

pub none_up_to : (bound middle t : Scaled) (exp : ℤ) → middle.exp ≡ exp → RootsUnder middle bound → RootsAbove t bound
    → (middle.mant + 1) * 2 ^ up exp * denominator t ≤ numerator t * 2 ^ down exp
none_up_to bound middle t exp e o b = elim (cases_lt (middle.mant * 2 ^ up exp * denominator t)
    (numerator t * 2 ^ down exp)) [
      | inl l ↦ (let m : middle.mant * (2 ^ up middle.exp * 2 ^ down t.exp) < t.mant
          * (2 ^ up t.exp * 2 ^ down middle.exp) = rw e (omega (arith, l)) in
          let n : (middle.mant + 1) * (2 ^ up middle.exp * 2 ^ down t.exp) ≤ t.mant
          * (2 ^ up t.exp * 2 ^ down middle.exp) =
          not_below middle.mant t.mant (2 ^ up t.exp * 2 ^ down middle.exp) (2 ^ up middle.exp * 2 ^ down t.exp)
          middle.normal middle.short t.normal t.short (crossed middle t) m in
          let o : (middle.mant + 1) * (2 ^ up exp * 2 ^ down t.exp) ≤ t.mant * (2 ^ up t.exp * 2 ^ down exp) =
          rw e at n in omega (arith, o))
      | inr g ↦ absurd (under_below middle t bound o (record { crossed = rw e g }) b)
    ]

-- the end of the search
pub greatest_found : (bound low t : Scaled) (exp : ℤ) (high : ℕ) → low.exp ≡ exp → high ≤ low.mant + 1
    → numerator t * 2 ^ down exp < high * 2 ^ up exp * denominator t → numerator t * denominator low ≤ numerator low
    * denominator t
greatest_found bound low t exp high e h l =
    let a : high * (2 ^ up exp * denominator t) ≤ (low.mant + 1) * (2 ^ up exp * denominator t) = mul-le-mul_right
    (2 ^ up exp * denominator t) h in
    let b : t.mant * (2 ^ up t.exp * 2 ^ down exp) < (low.mant + 1) * (2 ^ up exp * 2 ^ down t.exp) =
    omega (arith, a, l) in
    let c : t.mant * (2 ^ up t.exp * 2 ^ down low.exp) < (low.mant + 1) * (2 ^ up low.exp * 2 ^ down t.exp) = rw e b in
    let d : t.mant * (2 ^ up t.exp * 2 ^ down low.exp) ≤ low.mant * (2 ^ up low.exp * 2 ^ down t.exp) =
    not_between low.mant t.mant (2 ^ up t.exp * 2 ^ down low.exp) (2 ^ up low.exp * 2 ^ down t.exp) low.normal
    low.short t.normal t.short (crossed low t) c in
    omega (arith, d)

pub least_found : (high t : Scaled) (exp : ℤ) (low end : ℕ) → end ≤ low → numerator high * 2 ^ down exp ≡ end
    * 2 ^ up exp * denominator high → low * 2 ^ up exp * denominator t ≤ numerator t * 2 ^ down exp
    → numerator high * denominator t ≤ numerator t * denominator high
least_found high t exp low end h e l =
    let a : numerator high * 2 ^ down exp * denominator t ≡ end * 2 ^ up exp * denominator high * denominator t =
    ap (λ x. x * denominator t) e in
    let b : low * 2 ^ up exp * denominator t * denominator high ≤ numerator t * 2 ^ down exp * denominator high =
    mul-le-mul_right (denominator high) l in
    let c : end * (2 ^ up exp * denominator high * denominator t) ≤ low
    * (2 ^ up exp * denominator high * denominator t) = mul-le-mul_right (2 ^ up exp * denominator high
    * denominator t) h in
    let d : numerator high * denominator t * 2 ^ down exp ≤ numerator t * denominator high * 2 ^ down exp =
    omega (arith, a, b, c) in
    le_of_mul-le-mul_right d (pow_pos (down exp))

-- the first number of an exponent, and the one behind its last, are powers of two
pub first_power : (s : Scaled) (exp : ℤ) → s.mant ≡ 2 ^ 62 → s.exp ≡ exp
    → numerator s * 2 ^ down exp ≡ 2 ^ (up exp + 62) * denominator s
first_power s exp m e = let a : 2 ^ (up exp + 62) ≡ 2 ^ up exp * 2 ^ 62 = pow-add 2 (up exp) 62 in
    rw (m, e) (omega (arith, ap (λ x. x * 2 ^ down exp) a))

pub power_behind : (s : Scaled) (exp : ℤ) → s.mant ≡ 2 ^ 62 → s.exp ≡ exp +ℤ pos 1
    → numerator s * 2 ^ down exp ≡ 2 ^ 63 * 2 ^ up exp * denominator s
power_behind s exp m e =
    let b : up s.exp + down exp ≡ 1 + up exp + down s.exp = omega (arith, ints, e) in
    let p : 2 ^ (up s.exp + down exp) ≡ 2 ^ up s.exp * 2 ^ down exp = pow-add 2 (up s.exp) (down exp) in
    let q : 2 ^ (1 + up exp + down s.exp) ≡ 2 ^ (1 + up exp) * 2 ^ down s.exp = pow-add 2 (1 + up exp) (down s.exp) in
    let r : 2 ^ (1 + up exp) ≡ 2 ^ 1 * 2 ^ up exp = pow-add 2 1 (up exp) in
    rw m (omega (arith, p, q, ap (λ x. x * 2 ^ down s.exp) r, ap (λ x. 2 ^ x) b))

pub end_power : (exp : ℤ) → 2 ^ (up exp + 63) ≡ 2 ^ 63 * 2 ^ up exp
end_power exp = let a : 2 ^ (up exp + 63) ≡ 2 ^ up exp * 2 ^ 63 = pow-add 2 (up exp) 63 in omega (arith, a)

pub start_power : (exp : ℤ) → 2 ^ (up exp + 62) ≡ 2 ^ 62 * 2 ^ up exp
start_power exp = let a : 2 ^ (up exp + 62) ≡ 2 ^ up exp * 2 ^ 62 = pow-add 2 (up exp) 62 in omega (arith, a)

-- the two roots are in order where the bounds are
exact_in_order : (n a b c d p q r s u v f g : ℕ) → n ≢ 0 → 0 < q → 0 < s → 0 < v → 0 < g → 0 < p
    → a ^ n * q ≤ p * b ^ n → p * s ≤ r * q → r * v ≤ u * s → u * g ≤ f * v → f * d ^ n ≤ c ^ n * g → a * d ≤ c * b
exact_in_order n a b c d p q r s u v f g some q_above s_above v_above g_above p_above first second third fourth
    fifth = elim (cases_lt (c * b) (a * d)) [
      | inl l ↦ (let x : (c * b) ^ n < (a * d) ^ n = pow-lt-pow_left l some in
          let y : (c * b) ^ n ≡ c ^ n * b ^ n = mul-pow c b n in
          let z : (a * d) ^ n ≡ a ^ n * d ^ n = mul-pow a d n in
          let h1 : a ^ n * q * (d ^ n * (s * (v * g))) ≤ p * b ^ n * (d ^ n * (s * (v * g))) = mul-le-mul_right
          (d ^ n * (s * (v * g))) first in
          let h2 : p * s * (b ^ n * d ^ n * (v * g)) ≤ r * q * (b ^ n * d ^ n * (v * g)) = mul-le-mul_right
          (b ^ n * d ^ n * (v * g)) second in
          let h3 : r * v * (q * b ^ n * d ^ n * g) ≤ u * s * (q * b ^ n * d ^ n * g) = mul-le-mul_right
          (q * b ^ n * d ^ n * g) third in
          let h4 : u * g * (s * q * b ^ n * d ^ n) ≤ f * v * (s * q * b ^ n * d ^ n) = mul-le-mul_right
          (s * q * b ^ n * d ^ n) fourth in
          let h5 : f * d ^ n * (v * s * q * b ^ n) ≤ c ^ n * g * (v * s * q * b ^ n) = mul-le-mul_right
          (v * s * q * b ^ n) fifth in
          let h6 : c ^ n * b ^ n * (q * s * v * g) < a ^ n * d ^ n * (q * s * v * g) = mul-lt-mul_of_pos_right
          (omega (arith, x, y, z)) (mul-pos (mul-pos (mul-pos q_above s_above) v_above) g_above) in
          absurd (omega (arith, h1, h2, h3, h4, h5, h6)))
      | inr g ↦ g
    ]

pub roots_in_order : (s t p q : Scaled) → numerator p * denominator q ≤ numerator q * denominator p → RootsBelow s p
    → RootsAbove t q → numerator s * denominator t ≤ numerator t * denominator s
roots_in_order s t p q le a b =
    let first : numerator s ^ 100 * denominator a.result.hi ≤ numerator a.result.hi * denominator s ^ 100 =
    rw (← a.made.high) (high_encloses a.made.base 100 a.result a.made.made) in
    let last : numerator b.result.lo * denominator t ^ 100 ≤ numerator t ^ 100 * denominator b.result.lo =
    rw (← b.made.low) (low_encloses b.made.base 100 b.result b.made.made) in
    exact_in_order 100 (numerator s) (denominator s) (numerator t) (denominator t) (numerator a.result.hi)
    (denominator a.result.hi) (numerator p) (denominator p) (numerator q) (denominator q) (numerator b.result.lo)
    (denominator b.result.lo)
    (ne_of_gt (lit< tt)) (denominator_positive a.result.hi) (denominator_positive p) (denominator_positive q)
    (denominator_positive b.result.lo) (numerator_positive a.result.hi)
    first a.at_most le b.at_least last
