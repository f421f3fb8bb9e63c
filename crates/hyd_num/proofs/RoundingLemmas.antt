-- From a cut to the greatest number below and the least above.
use Rattle.std.proofs.Common.{◌≡◌, ℕ, suc, ◌/◌, ◌%◌, nat_eq, ℤ, pos, negsuc, max, eqb-true, ne_eqb, le_antisymm}
use Rattle.std.proofs.Common.{pos_of_ne-zero, mul-pos, lit<, ◌-◌, le-div_iff_mul-le, div-lt_iff_lt-mul, mod-lt}
use Rattle.std.proofs.Common.{div-add-mod', lt_of_lt_of_le, ◌+◌, ◌*◌, ◌^◌, ◌<◌, ◌≤◌, ◌⊎◌, inl, inr, Bool, false, ap}
use Rattle.std.proofs.Common.{sym, ◌∙◌, arith, lit≤, mul-le-mul_right, mul-lt-mul_of_pos_right, lt_of_mul-lt-mul_right}
use Rattle.std.proofs.Common.{le_of_mul-le-mul_right, pow-suc}
use Rattle.std.proofs.Math.Nat.{pow-le-pow_right}
use Rattle.std.proofs.lemmas.Nat.{pow_pos, pow-add}
use Rattle.std.proofs.lemmas.Bool.{cases_order, cases_lt, eqb-false}
use borrow.Author.Differences.{up, down}
use Rattle.hyd_num.specs.declared.binary.Scaled.{Scaled}
use Rattle.hyd_num.specs.BinaryNumbers.{numerator, denominator, reach, IsDown, IsUp}
use Rattle.hyd_num.specs.CutsOfBinaryNumbers.{IsCut, IsNext, IsShortened}

-- two powers of two are equal, or one is at least twice the other
pub Apart : ℕ → ℕ → Type 0
Apart x y = (x ≡ y) ⊎ ((2 * x ≤ y) ⊎ (2 * y ≤ x))

pub doubled : (i j : ℕ) → i < j → 2 * 2 ^ i ≤ 2 ^ j
doubled i j h = let l : 2 ^ suc i ≤ 2 ^ j = pow-le-pow_right {n = 2} (lit≤ tt) h in omega (arith, l, pow-suc 2 i)

powers : (i j : ℕ) → Apart (2 ^ i) (2 ^ j)
unfolding Apart
powers i j = elim (cases_order i j) [
  | inl e ↦ inl (ap (λ k. 2 ^ k) e)
  | inr o ↦ elim o [ inl l ↦ inr (inl (doubled i j l)) | inr g ↦ inr (inr (doubled j i g)) ]
]

-- of normal mantissas: what is below the next number is at most this one
pub not_between : (m n x y : ℕ) → 2 ^ 62 ≤ m → m < 2 ^ 63 → 2 ^ 62 ≤ n → n < 2 ^ 63 → Apart x y → n * x < (m + 1) * y
    → n * x ≤ m * y
unfolding Apart
not_between m n x y low short least high (inl e) h =
    let l : n < m + 1 = lt_of_mul-lt-mul_right y (rw e at h) in
    rw e (mul-le-mul_right y (omega arith))
not_between m n x y low short least high (inr (inl l)) h =
    let a : n * x ≤ 2 ^ 63 * x = mul-le-mul_right x (omega arith) in
    let b : 2 ^ 62 * y ≤ m * y = mul-le-mul_right y low in
    omega (arith, a, b)
not_between m n x y low short least high (inr (inr g)) h =
    let a : 2 ^ 62 * x ≤ n * x = mul-le-mul_right x least in
    let b : (m + 1) * y ≤ 2 ^ 63 * y = mul-le-mul_right y (omega arith) in
    absurd (omega (arith, a, b))

-- and what is above a number is at least the next one
pub not_below : (m n x y : ℕ) → 2 ^ 62 ≤ m → m < 2 ^ 63 → 2 ^ 62 ≤ n → n < 2 ^ 63 → Apart x y → m * y < n * x
    → (m + 1) * y ≤ n * x
unfolding Apart
not_below m n x y low short least high (inl e) h =
    let l : m < n = lt_of_mul-lt-mul_right y (rw e at h) in
    rw e (mul-le-mul_right y (omega arith))
not_below m n x y low short least high (inr (inl l)) h =
    let a : n * x ≤ 2 ^ 63 * x = mul-le-mul_right x (omega arith) in
    let b : 2 ^ 62 * y ≤ m * y = mul-le-mul_right y low in
    absurd (omega (arith, a, b))
not_below m n x y low short least high (inr (inr g)) h =
    let a : 2 ^ 62 * x ≤ n * x = mul-le-mul_right x least in
    let b : (m + 1) * y ≤ 2 ^ 63 * y = mul-le-mul_right y (omega arith) in
    omega (arith, a, b)

-- the powers of two of two numbers, crosswise
pub crossed : (s t : Scaled) → Apart (2 ^ up t.exp * 2 ^ down s.exp) (2 ^ up s.exp * 2 ^ down t.exp)
crossed s t = rw (← pow-add 2 (up t.exp) (down s.exp), ← pow-add 2 (up s.exp) (down t.exp))
    (powers (up t.exp + down s.exp) (up s.exp + down t.exp))

-- with mantissas m, n, powers u, d of s and v, e of t: what t is at most and s's next is above, t is at most s
greatest_step : (m n u d v e p q : ℕ) → 2 ^ 62 ≤ m → m < 2 ^ 63 → 2 ^ 62 ≤ n → n < 2 ^ 63 → Apart (v * d) (u * e)
    → 0 < e
    → n * v * q ≤ p * e → p * d < (m + 1) * u * q → n * v * d ≤ m * u * e
greatest_step m n u d v e p q low short least high apart some h below =
    let a : n * v * q * d ≤ p * e * d = mul-le-mul_right d h in
    let b : p * d * e < (m + 1) * u * q * e = mul-lt-mul_of_pos_right below some in
    let l : n * (v * d) * q < (m + 1) * (u * e) * q = omega (arith, a, b) in
    let r : n * (v * d) ≤ m * (u * e) = not_between m n (v * d) (u * e) low short least high apart
    (lt_of_mul-lt-mul_right q l) in
    omega (arith, r)

least_step : (m n u d v e p q : ℕ) → 2 ^ 62 ≤ m → m < 2 ^ 63 → 2 ^ 62 ≤ n → n < 2 ^ 63 → Apart (v * d) (u * e) → 0 < e
    → 0 < d
    → p * e ≤ n * v * q → m * u * q < p * d → (m + 1) * u * e ≤ n * v * d
least_step m n u d v e p q low short least high apart some more h lost =
    let a : p * e * d ≤ n * v * q * d = mul-le-mul_right d h in
    let b : m * u * q * e < p * d * e = mul-lt-mul_of_pos_right lost some in
    let l : m * (u * e) * q < n * (v * d) * q = omega (arith, a, b) in
    let r : (m + 1) * (u * e) ≤ n * (v * d) = not_below m n (v * d) (u * e) low short least high apart
    (lt_of_mul-lt-mul_right q l) in
    omega (arith, r)

pub IsDown-from_cut : (p q : ℕ) (s : Scaled) (exact : Bool) → IsCut p q s exact → IsDown p q s
IsDown-from_cut p q s exact cut = record {
  at_most = cut.at_most;
  greatest = λ t h. greatest_step s.mant t.mant (2 ^ up s.exp) (2 ^ down s.exp) (2 ^ up t.exp) (2 ^ down t.exp) p q
      s.normal s.short t.normal t.short (crossed s t) (pow_pos (down t.exp)) h cut.below;
}

-- a number that was met exactly
pub IsUp-exact : (p q : ℕ) (s : Scaled) → 0 < q → numerator s * q ≡ p * denominator s → IsUp p q s
IsUp-exact p q s above e = record {
  at_least = omega (arith, e);
  least = λ t h.
      let a : p * denominator t * denominator s ≤ numerator t * q * denominator s = mul-le-mul_right (denominator s)
      h in
      let b : numerator s * q * denominator t ≡ p * denominator s * denominator t = ap (λ x. x * denominator t) e in
      let l : numerator s * denominator t * q ≤ numerator t * denominator s * q = omega (arith, a, b) in
      le_of_mul-le-mul_right l above;
}

-- the next number, where something was lost
pub IsUp-next : (p q : ℕ) (s t : Scaled) → 0 < q → numerator s * q < p * denominator s
    → p * denominator s < (s.mant + 1) * 2 ^ up s.exp * q → IsNext s t → IsUp p q t
IsUp-next p q s t above lost below next = record {
  at_least =
      let a : p * denominator s * denominator t ≤ (s.mant + 1) * 2 ^ up s.exp * q * denominator t = mul-le-mul_right
      (denominator t) (omega (arith, below)) in
      let e : numerator t * denominator s * q ≡ (s.mant + 1) * 2 ^ up s.exp * denominator t * q = ap (λ x. x * q)
      next.one_more in
      let l : p * denominator t * denominator s ≤ numerator t * q * denominator s = omega (arith, a, e) in
      le_of_mul-le-mul_right l (pow_pos (down s.exp));
  least = λ r h.
      let a : (s.mant + 1) * 2 ^ up s.exp * denominator r ≤ numerator r * denominator s =
      least_step s.mant r.mant (2 ^ up s.exp) (2 ^ down s.exp) (2 ^ up r.exp) (2 ^ down r.exp) p q s.normal s.short
      r.normal r.short (crossed s r) (pow_pos (down r.exp)) (pow_pos (down s.exp)) h lost in
      let b : (s.mant + 1) * 2 ^ up s.exp * denominator r * denominator t ≤ numerator r * denominator s
      * denominator t = mul-le-mul_right (denominator t) a in
      let e : numerator t * denominator s * denominator r ≡ (s.mant + 1) * 2 ^ up s.exp * denominator t
      * denominator r = ap (λ x. x * denominator r) next.one_more in
      let l : numerator t * denominator r * denominator s ≤ numerator r * denominator t * denominator s =
      omega (arith, b, e) in
      le_of_mul-le-mul_right l (pow_pos (down s.exp));
}

-- A cut from a division with remainder. N / D is p / q but for the power of two that stands in s: V and W balance the
-- two.
pub IsCut-divided : (p q D N r V W : ℕ) (s : Scaled) (exact : Bool) → s.mant * D + r ≡ N → r < D → 0 < V → 0 < W
    → 2 ^ up s.exp * q * V ≡ D * W → p * denominator s * V ≡ N * W → exact ≡ nat_eq r 0 → IsCut p q s exact
IsCut-divided p q D N r V W s exact split small v w below_is above_is exactness =
    let e : s.mant * (2 ^ up s.exp * q * V) ≡ s.mant * (D * W) = ap (λ x. s.mant * x) below_is in
    let f : (s.mant * D + r) * W ≡ N * W = ap (λ x. x * W) split in
    let g : r * W < D * W = mul-lt-mul_of_pos_right small w in
    record {
      at_most =
          let l : numerator s * q * V ≤ p * denominator s * V = omega (arith, e, f, above_is) in
          le_of_mul-le-mul_right l v;
      below =
          let l : p * denominator s * V < (s.mant + 1) * 2 ^ up s.exp * q
          * V = omega (arith, e, f, g, above_is, below_is) in
          lt_of_mul-lt-mul_right V l;
      whole = λ t.
          let z : r ≡ 0 = eqb-true r 0 (sym exactness ∙ t) in
          let z' : r * W ≡ 0 * W = ap (λ x. x * W) z in
          let l : numerator s * q * V ≤ p * denominator s * V = omega (arith, e, f, above_is) in
          let k : p * denominator s * V ≤ numerator s * q * V = omega (arith, e, f, above_is, z') in
          le_antisymm (le_of_mul-le-mul_right l v) (le_of_mul-le-mul_right k v);
      lost = λ t.
          let n : 0 < r = pos_of_ne-zero (λ z. eqb-false r 0 (sym exactness ∙ t) z) in
          let h : 0 * W < r * W = mul-lt-mul_of_pos_right n w in
          let l : numerator s * q * V < p * denominator s * V = omega (arith, e, f, above_is, h) in
          lt_of_mul-lt-mul_right V l;
    }

-- products of powers of two with equal sums of exponents
three_four : (i j k l m n o : ℕ) → i + j + k ≡ l + m + n + o → 2 ^ i * (2 ^ j * 2 ^ k) * 1 ≡ 2 ^ l
    * (2 ^ m * 2 ^ n * 2 ^ o)
three_four i j k l m n o e =
    let a : 2 ^ (i + j + k) ≡ 2 ^ (i + j) * 2 ^ k = pow-add 2 (i + j) k in
    let b : 2 ^ (i + j) ≡ 2 ^ i * 2 ^ j = pow-add 2 i j in
    let c : 2 ^ (l + m + n + o) ≡ 2 ^ (l + m + n) * 2 ^ o = pow-add 2 (l + m + n) o in
    let d : 2 ^ (l + m + n) ≡ 2 ^ (l + m) * 2 ^ n = pow-add 2 (l + m) n in
    let f : 2 ^ (l + m) ≡ 2 ^ l * 2 ^ m = pow-add 2 l m in
    omega (arith, a, ap (λ x. x * 2 ^ k) b, c, ap (λ x. x * 2 ^ o) d, ap (λ x. x * 2 ^ n * 2 ^ o) f, ap (λ x. 2 ^ x) e)

-- the product of two mantissas, divided by 2^k
pub IsCut-product : (k : ℕ) (a b s : Scaled) (exact : Bool) → s.mant ≡ a.mant * b.mant / 2 ^ k
    → exact ≡ nat_eq (a.mant * b.mant % 2 ^ k) 0
    → up s.exp + down a.exp + down b.exp ≡ k + down s.exp + up a.exp + up b.exp
    → IsCut (numerator a * numerator b) (denominator a * denominator b) s exact
IsCut-product k a b s exact mantissa exactness balance =
    IsCut-divided (numerator a * numerator b) (denominator a * denominator b) (2 ^ k) (a.mant * b.mant)
    (a.mant * b.mant % 2 ^ k) 1
    (2 ^ down s.exp * 2 ^ up a.exp * 2 ^ up b.exp) s exact
    (rw mantissa (div-add-mod' (a.mant * b.mant) (2 ^ k))) (mod-lt _ (pow_pos k)) (lit< tt)
    (mul-pos (mul-pos (pow_pos (down s.exp)) (pow_pos (up a.exp))) (pow_pos (up b.exp)))
    (three_four (up s.exp) (down a.exp) (down b.exp) k (down s.exp) (up a.exp) (up b.exp) balance) (omega arith)
    exactness

-- the quotient of two mantissas, the first one multiplied by 2^k
pub IsCut-quotient : (k : ℕ) (a b s : Scaled) (exact : Bool) → s.mant ≡ a.mant * 2 ^ k / b.mant
    → exact ≡ nat_eq (a.mant * 2 ^ k % b.mant) 0
    → k + up s.exp + down a.exp + up b.exp ≡ up a.exp + down b.exp + down s.exp
    → IsCut (numerator a * denominator b) (denominator a * numerator b) s exact
IsCut-quotient k a b s exact mantissa exactness balance =
    let above : 0 < b.mant = lt_of_lt_of_le (lit< tt) b.normal in
    let e : 2 ^ k * (2 ^ up s.exp * 2 ^ down a.exp * 2 ^ up b.exp) ≡ 2 ^ up a.exp * (2 ^ down b.exp * 2 ^ down s.exp)
    * 1 =
    sym (three_four (up a.exp) (down b.exp) (down s.exp) k (up s.exp) (down a.exp) (up b.exp) (omega arith)) in
    IsCut-divided (numerator a * denominator b) (denominator a * numerator b) b.mant (a.mant * 2 ^ k)
    (a.mant * 2 ^ k % b.mant) 1
    (2 ^ up s.exp * 2 ^ down a.exp * 2 ^ up b.exp) s exact
    (rw mantissa (div-add-mod' (a.mant * 2 ^ k) b.mant)) (mod-lt _ above) (lit< tt)
    (mul-pos (mul-pos (pow_pos (up s.exp)) (pow_pos (down a.exp))) (pow_pos (up b.exp)))
    (omega arith) (omega (arith, ap (λ x. a.mant * x) e)) exactness

-- the sum of two numbers whose exponents are `gap` apart, divided by 2^k
pub IsCut-sum : (gap k r : ℕ) (a b s : Scaled) (exact : Bool) → s.mant * 2 ^ k + r ≡ a.mant * 2 ^ gap + b.mant
    → r < 2 ^ k → exact ≡ nat_eq r 0
    → up a.exp + down b.exp ≡ gap + up b.exp + down a.exp → up s.exp + down b.exp ≡ k + up b.exp + down s.exp
    → IsCut (numerator a * denominator b + numerator b * denominator a) (denominator a * denominator b) s exact
IsCut-sum gap k r a b s exact split small exactness apart balance =
    let e : 2 ^ up a.exp * (2 ^ down b.exp * 2 ^ 0) * 1 ≡ 2 ^ gap * (2 ^ up b.exp * 2 ^ down a.exp * 2 ^ 0) =
    three_four (up a.exp) (down b.exp) 0 gap (up b.exp) (down a.exp) 0 (omega arith) in
    IsCut-divided (numerator a * denominator b + numerator b * denominator a) (denominator a * denominator b) (2 ^ k)
    (a.mant * 2 ^ gap + b.mant) r 1
    (2 ^ up b.exp * 2 ^ down a.exp * 2 ^ down s.exp) s exact split small (lit< tt)
    (mul-pos (mul-pos (pow_pos (up b.exp)) (pow_pos (down a.exp))) (pow_pos (down s.exp)))
    (three_four (up s.exp) (down a.exp) (down b.exp) k (up b.exp) (down a.exp) (down s.exp) (omega arith))
    (omega (arith, ap (λ x. a.mant * 2 ^ down s.exp * x) e)) exactness

-- a number that is lost behind a much greater one
pub IsCut-lost : (gap : ℕ) (a b s : Scaled) (exact : Bool) → 64 < gap → s.mant ≡ a.mant
    → up s.exp + down a.exp ≡ up a.exp + down s.exp → exact ≡ false → up a.exp + down b.exp ≡ gap + up b.exp
    + down a.exp
    → IsCut (numerator a * denominator b + numerator b * denominator a) (denominator a * denominator b) s exact
IsCut-lost gap a b s exact far mantissa exponent lost apart =
    let more : 64 ≤ gap = omega arith in
    let l : 2 ^ 64 ≤ 2 ^ gap = pow-le-pow_right {n = 2} (lit≤ tt) more in
    let n : b.mant ≡ 0 → ⊥ = λ z. let low : 2 ^ 62 ≤ b.mant = b.normal in absurd (omega arith) in
    let h : b.mant < 2 ^ 63 = b.short in
    IsCut-sum gap gap b.mant a b s exact (ap (λ x. x * 2 ^ gap + b.mant) mantissa) (omega arith)
    (lost ∙ sym (ne_eqb b.mant 0 n)) apart (omega arith)

-- where the exponents are ordered the other way
pub IsCut-turned : (a b s : Scaled) (exact : Bool) → IsCut (numerator a * denominator b + numerator b * denominator a)
    (denominator a * denominator b) s exact
    → IsCut (numerator b * denominator a + numerator a * denominator b) (denominator b * denominator a) s exact
IsCut-turned a b s exact cut = record {
  at_most = omega (arith, cut.at_most);
  below = omega (arith, cut.below);
  whole = λ t. omega (arith, cut.whole t);
  lost = λ t. omega (arith, cut.lost t);
}

-- p 2^digits divided by q 2^doublings
pub IsCut-ratio : (digits doublings p q r : ℕ) (s : Scaled) (exact : Bool) → s.mant * (q * 2 ^ doublings) + r ≡ p
    * 2 ^ digits → r < q * 2 ^ doublings → exact ≡ nat_eq r 0
    → up s.exp + digits ≡ doublings + down s.exp → IsCut p q s exact
IsCut-ratio digits doublings p q r s exact split small exactness balance =
    let a : 2 ^ (up s.exp + digits) ≡ 2 ^ up s.exp * 2 ^ digits = pow-add 2 (up s.exp) digits in
    let b : 2 ^ (doublings + down s.exp) ≡ 2 ^ doublings * 2 ^ down s.exp = pow-add 2 doublings (down s.exp) in
    let e : 2 ^ up s.exp * 2 ^ digits ≡ 2 ^ doublings * 2 ^ down s.exp = sym a ∙ ap (λ x. 2 ^ x) balance ∙ b in
    IsCut-divided p q (q * 2 ^ doublings) (p * 2 ^ digits) r (2 ^ digits) (2 ^ down s.exp) s exact split small
    (pow_pos digits) (pow_pos (down s.exp))
    (omega (arith, ap (λ x. q * x) e)) (omega arith) exactness

-- the exponents of powers of two are ordered as they are
pub power_below : (i j : ℕ) → 2 ^ i < 2 ^ j → i < j
power_below i j h = elim (cases_lt i j) [
  | inl l ↦ l
  | inr g ↦ (let m : 2 ^ j ≤ 2 ^ i = pow-le-pow_right {n = 2} (lit≤ tt) g in absurd (omega arith))
]

-- the binary logarithm of what isn't below a power
pub log_least : (k n l : ℕ) → 2 ^ k ≤ n → n < 2 * 2 ^ l → k ≤ l
log_least k n l low high =
    let e : 2 ^ suc l ≡ 2 ^ l * 2 = pow-suc 2 l in
    let h : k < suc l = power_below k (suc l) (omega (arith, e)) in
    omega arith

-- a number with 2^l as its first digit, cut to 63 digits
pub first_digits : (n l : ℕ) → 62 ≤ l → 2 ^ l ≤ n → n < 2 * 2 ^ l
    → (2 ^ 62 ≤ n / 2 ^ (l - 62)) × (n / 2 ^ (l - 62) < 2 ^ 63)
first_digits n l long low high =
    let e : 62 + (l - 62) ≡ l = omega arith in
    let f : 2 ^ l ≡ 2 ^ 62 * 2 ^ (l - 62) = ap (λ x. 2 ^ x) (sym e) ∙ pow-add 2 62 (l - 62) in
    let p : 0 < 2 ^ (l - 62) = pow_pos (l - 62) in
    let a : 2 ^ 62 * 2 ^ (l - 62) ≤ n = omega (arith, f) in
    let b : n < 2 ^ 63 * 2 ^ (l - 62) = omega (arith, f) in
    ((le-div_iff_mul-le p).1 a, (div-lt_iff_lt-mul p).1 b)

-- how many digits of a sum are lost, where the first number stands `gap` places above the second
pub sum_digits : (m n gap k s : ℕ) → 2 ^ 62 ≤ m → m < 2 ^ 63 → n < 2 ^ 63 → 2 ^ 62 ≤ s → s < 2 ^ 63
    → s ≡ (m * 2 ^ gap + n) / 2 ^ k → (gap ≤ k) × (k ≤ gap + 1)
sum_digits m n gap k s low short small least high e =
    let p : 0 < 2 ^ k = pow_pos k in
    let g : 0 < 2 ^ gap = pow_pos gap in
    let a : 2 ^ 62 * 2 ^ k ≤ m * 2 ^ gap + n = (le-div_iff_mul-le p).0 (omega (arith, e)) in
    let b : m * 2 ^ gap + n < 2 ^ 63 * 2 ^ k = (div-lt_iff_lt-mul p).0 (omega (arith, e)) in
    let c : 2 ^ 62 * 2 ^ gap ≤ m * 2 ^ gap = mul-le-mul_right (2 ^ gap) low in
    let d : m * 2 ^ gap < 2 ^ 63 * 2 ^ gap = mul-lt-mul_of_pos_right short g in
    let h : 2 ^ gap < 2 ^ suc k = rw (pow-suc 2 k) (omega arith) in
    let i : 2 ^ k < 2 ^ (2 + gap) = rw (pow-add 2 2 gap) (omega arith) in
    let x : gap < suc k = power_below gap (suc k) h in
    let y : k < 2 + gap = power_below k (2 + gap) i in
    (omega arith, omega arith)

pub IsCut-sum_of : (gap k n : ℕ) (a b s : Scaled) (exact : Bool) → IsShortened n k s exact
    → n ≡ a.mant * 2 ^ gap + b.mant
    → up a.exp + down b.exp ≡ gap + up b.exp + down a.exp → up s.exp + down b.exp ≡ k + up b.exp + down s.exp
    → IsCut (numerator a * denominator b + numerator b * denominator a) (denominator a * denominator b) s exact
IsCut-sum_of gap k n a b s exact short e apart balance =
    IsCut-sum gap k (n % 2 ^ k) a b s exact (ap (λ x. x * 2 ^ k + n % 2 ^ k) short.digits ∙ div-add-mod' n (2 ^ k)
    ∙ e) (mod-lt n (pow_pos k)) short.rest apart balance

pub sum_places : (gap k n : ℕ) (a b s : Scaled) (exact : Bool) → IsShortened n k s exact
    → n ≡ a.mant * 2 ^ gap + b.mant → (gap ≤ k) × (k ≤ gap + 1)
sum_places gap k n a b s exact short e = sum_digits a.mant b.mant gap k s.mant a.normal a.short b.short s.normal
    s.short (short.digits ∙ ap (λ x. x / 2 ^ k) e)

-- one of the two parts of an integer is 0
size : (z : ℤ) → up z + down z ≡ max (up z) (down z)
size (pos n) = omega arith
size (negsuc n) = omega arith

-- a number with an exponent at most one above another's is hardly further from 1
pub near_above : (a b s : Scaled) → up a.exp + down s.exp ≤ up s.exp + down a.exp → up s.exp + down a.exp ≤ up a.exp
    + down s.exp + 1 → reach s + 1 ≤ reach a + reach b
near_above a b s low high = omega (arith, size s.exp, size a.exp)

-- the number with the lesser exponent is the lesser one
pub lesser_exponent : (a b : Scaled) → up a.exp + down b.exp < up b.exp + down a.exp
    → numerator a * denominator b < numerator b * denominator a
lesser_exponent a b h =
    let p : 2 ^ (up a.exp + down b.exp) ≡ 2 ^ up a.exp * 2 ^ down b.exp = pow-add 2 (up a.exp) (down b.exp) in
    let q : 2 ^ (up b.exp + down a.exp) ≡ 2 ^ up b.exp * 2 ^ down a.exp = pow-add 2 (up b.exp) (down a.exp) in
    let t : 2 * 2 ^ (up a.exp + down b.exp) ≤ 2 ^ (up b.exp + down a.exp) = doubled (up a.exp + down b.exp)
    (up b.exp + down a.exp) h in
    let x : 0 < 2 ^ up a.exp * 2 ^ down b.exp = mul-pos (pow_pos (up a.exp)) (pow_pos (down b.exp)) in
    let m : a.mant * (2 ^ up a.exp * 2 ^ down b.exp) < 2 ^ 63 * (2 ^ up a.exp * 2 ^ down b.exp) =
    mul-lt-mul_of_pos_right a.short x in
    let n : 2 ^ 62 * (2 ^ up b.exp * 2 ^ down a.exp) ≤ b.mant * (2 ^ up b.exp * 2 ^ down a.exp) = mul-le-mul_right
    (2 ^ up b.exp * 2 ^ down a.exp) b.normal in
    omega (arith, p, q, t, m, n)

-- of one exponent the number with the lesser mantissa is the lesser one
pub same_exponent : (a b : Scaled) → a.exp ≡ b.exp → a.mant ≤ b.mant → numerator a * denominator b ≤ numerator b
    * denominator a
same_exponent a b e h = let m : a.mant * (2 ^ up b.exp * 2 ^ down b.exp) ≤ b.mant * (2 ^ up b.exp * 2 ^ down b.exp) =
    mul-le-mul_right (2 ^ up b.exp * 2 ^ down b.exp) h in
    rw e (omega (arith, m))

pub same_exponent_strictly : (a b : Scaled) → a.exp ≡ b.exp → a.mant < b.mant
    → numerator a * denominator b < numerator b * denominator a
same_exponent_strictly a b e h =
    let m : a.mant * (2 ^ up b.exp * 2 ^ down b.exp) < b.mant * (2 ^ up b.exp * 2 ^ down b.exp) =
    mul-lt-mul_of_pos_right h (mul-pos (pow_pos (up b.exp)) (pow_pos (down b.exp))) in
    rw e (omega (arith, m))
