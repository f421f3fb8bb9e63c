-- From the ends of a capacity to the head that a flow loses. The capacity is the square of the flow that one tick of
-- head drives; the loss comes in larger units, of which `unit` is the capacity of a link that loses one at a flow of
-- one.
use Rattle.std.proofs.Common.{◌≡◌, ℕ, ◌+◌, ◌-◌, ◌*◌, ◌^◌, ◌<◌, ◌≤◌, ap, ◌∙◌, arith, pow-suc}
use Rattle.std.proofs.Math.Nat.{mul-le-mul_right, le_of_mul-le-mul_right, one-le-pow, pow-le-pow_left, mul-sub}
use Rattle.std.proofs.Math.Nat.{mul_comm}
use Rattle.std.proofs.lemmas.Nat.{mul-pow}
use Rattle.hyd_num.specs.Fraction.{Fraction, fraction, times, plus, minus, over, power, AtMost}
use Rattle.hyd_num.proofs.Powers.{pow_one}

pub square_is : (x : ℕ) → x ^ 2 ≡ x * x
square_is x = pow-suc x 1 ∙ ap (λ a. a * x) (pow_one x)

-- u / v is the unit's capacity where K large units of flow and T of head are F and 1 ticks, h / g the loss of a flow of
-- one
loss_below : (u v F K T g h c d s q y : ℕ) → 0 < v → 0 < d → u * (K * K * T) ≡ F * F * v
    → c * (v * h) ≤ (u * g) * d → q * q * d ≤ c * (s * y)
    → (h * (K * q) ^ 2) * (s * T) ≤ y * (g * (s * F) ^ 2)
loss_below u v F K T g h c d s q y above some unit end flow =
    let a : q * q * d * (v * h) ≤ c * (s * y) * (v * h) = mul-le-mul_right (v * h) flow in
    let b : c * (v * h) * (s * y) ≤ u * g * d * (s * y) = mul-le-mul_right (s * y) end in
    let both : q * q * (v * h) * d ≤ u * g * (s * y) * d = omega (arith, a, b) in
    let small : q * q * (v * h) ≤ u * g * (s * y) = le_of_mul-le-mul_right both some in
    let large : q * q * (v * h) * (K * K * s * T) ≤ u * g * (s * y) * (K * K * s * T) = mul-le-mul_right
    (K * K * s * T) small in
    let equal : u * (K * K * T) * (g * s * s * y) ≡ F * F * v * (g * s * s * y) = ap (λ x. x * (g * s * s * y)) unit in
    let all : (h * ((K * q) * (K * q))) * (s * T) * v ≤ y * (g * ((s * F) * (s * F)))
    * v = omega (arith, large, equal) in
    rw (square_is (K * q), square_is (s * F)) (le_of_mul-le-mul_right all above)

loss_above : (u v F K T g h c d s q y : ℕ) → 0 < v → 0 < d → u * (K * K * T) ≡ F * F * v
    → (u * g) * d ≤ c * (v * h) → c * (s * y) ≤ q * q * d
    → y * (g * (s * F) ^ 2) ≤ (h * (K * q) ^ 2) * (s * T)
loss_above u v F K T g h c d s q y above some unit end flow =
    let a : c * (s * y) * (v * h) ≤ q * q * d * (v * h) = mul-le-mul_right (v * h) flow in
    let b : u * g * d * (s * y) ≤ c * (v * h) * (s * y) = mul-le-mul_right (s * y) end in
    let both : u * g * (s * y) * d ≤ q * q * (v * h) * d = omega (arith, a, b) in
    let small : u * g * (s * y) ≤ q * q * (v * h) = le_of_mul-le-mul_right both some in
    let large : u * g * (s * y) * (K * K * s * T) ≤ q * q * (v * h) * (K * K * s * T) = mul-le-mul_right
    (K * K * s * T) small in
    let equal : u * (K * K * T) * (g * s * s * y) ≡ F * F * v * (g * s * s * y) = ap (λ x. x * (g * s * s * y)) unit in
    let all : y * (g * ((s * F) * (s * F))) * v ≤ (h * ((K * q) * (K * q))) * (s * T)
    * v = omega (arith, large, equal) in
    rw (square_is (K * q), square_is (s * F)) (le_of_mul-le-mul_right all above)

-- the flow and the head at scale s, in the larger units
abbrev flow_at : ℕ → ℕ → ℕ → ℕ → Fraction
flow_at K F s q = fraction (K * q) (s * F)

abbrev head_at : ℕ → ℕ → ℕ → Fraction
head_at T s y = fraction y (s * T)

pub at_most_lost : (unit lost end : Fraction) (F K T s q y : ℕ) → 0 < unit.den → 0 < end.den
    → unit.num * (K * K * T) ≡ F * F * unit.den
    → AtMost end (over unit lost) → q * q * end.den ≤ end.num * (s * y)
    → AtMost (times lost (power (flow_at K F s q) 2)) (head_at T s y)
at_most_lost unit lost end F K T s q y above some is below flow =
    record {
      crossed = loss_below unit.num unit.den F K T lost.den lost.num end.num end.den s q y above some is
          below.crossed flow;
    }

pub at_least_lost : (unit lost end : Fraction) (F K T s q y : ℕ) → 0 < unit.den → 0 < end.den
    → unit.num * (K * K * T) ≡ F * F * unit.den
    → AtMost (over unit lost) end → end.num * (s * y) ≤ q * q * end.den
    → AtMost (head_at T s y) (times lost (power (flow_at K F s q) 2))
at_least_lost unit lost end F K T s q y above some is below flow =
    record {
      crossed = loss_above unit.num unit.den F K T lost.den lost.num end.num end.den s q y above some is
          below.crossed flow;
    }

-- differences under a factor
pub difference_times : (a b k : ℕ) → (a - b) * k ≡ a * k - b * k
difference_times a b k = mul_comm (a - b) k ∙ mul-sub k a b ∙ omega arith

less_by : (x a b k : ℕ) → x + b * k ≤ a * k → x ≤ (a - b) * k
less_by x a b k h = rw (difference_times a b k) (omega arith)

more_by : (x a b k : ℕ) → a * k ≤ x + b * k → (a - b) * k ≤ x
more_by x a b k h = rw (difference_times a b k) (omega arith)

-- what is lost to two causes: each by itself
pub second_at_most : (r m f h : Fraction) → 0 < r.den → AtMost (times (plus r m) f) h → AtMost (times m f) h
second_at_most r m f h above all =
    record {
      crossed =
          let l : (m.num * f.num) * h.den * r.den ≤ h.num * (m.den * f.den) * r.den = omega (arith, all.crossed) in
          le_of_mul-le-mul_right l above;
    }

pub first_at_most : (r m f h : Fraction) → AtMost (times (plus r m) f) h → AtMost (times r f) (minus h (times m f))
first_at_most r m f h all =
    record {
      crossed = less_by ((r.num * f.num) * (h.den * (m.den * f.den))) (h.num * (m.den * f.den))
          ((m.num * f.num) * h.den) (r.den * f.den)
          (omega (arith, mul-le-mul_right f.den all.crossed));
    }

pub first_at_least : (r m f h : Fraction) → AtMost h (times (plus r m) f) → AtMost (minus h (times m f)) (times r f)
first_at_least r m f h all =
    record {
      crossed = more_by ((r.num * f.num) * (h.den * (m.den * f.den))) (h.num * (m.den * f.den))
          ((m.num * f.num) * h.den) (r.den * f.den)
          (omega (arith, mul-le-mul_right f.den all.crossed));
    }

-- a loss of g / t, where t to the power n is at most, or at least, d to the power k
raised_below : (a z w t u d e n k b : ℕ) → 0 < u → (a * (w * u)) ≤ (z * t) * b → t ^ n * e ^ k ≤ d ^ k * u ^ n
    → a ^ n * (w ^ n * e ^ k) ≤ (z ^ n * d ^ k) * b ^ n
raised_below a z w t u d e n k b above loss root =
    let l : a ^ n * (w ^ n * u ^ n) ≤ (z ^ n * t ^ n) * b ^ n =
    rw (← mul-pow w u n, ← mul-pow a (w * u) n, ← mul-pow z t n, ← mul-pow (z * t) b n) (pow-le-pow_left loss n) in
    let p : a ^ n * (w ^ n * u ^ n) * e ^ k ≤ (z ^ n * t ^ n) * b ^ n * e ^ k = mul-le-mul_right (e ^ k) l in
    let q : t ^ n * e ^ k * (z ^ n * b ^ n) ≤ d ^ k * u ^ n * (z ^ n * b ^ n) = mul-le-mul_right (z ^ n * b ^ n) root in
    let all : a ^ n * (w ^ n * e ^ k) * u ^ n ≤ (z ^ n * d ^ k) * b ^ n * u ^ n = omega (arith, p, q) in
    le_of_mul-le-mul_right all (one-le-pow n u above)

raised_above : (a z w t u d e n k b : ℕ) → 0 < u → (z * t) * b ≤ (a * (w * u)) → d ^ k * u ^ n ≤ t ^ n * e ^ k
    → (z ^ n * d ^ k) * b ^ n ≤ a ^ n * (w ^ n * e ^ k)
raised_above a z w t u d e n k b above loss root =
    let l : (z ^ n * t ^ n) * b ^ n ≤ a ^ n * (w ^ n * u ^ n) =
    rw (← mul-pow w u n, ← mul-pow a (w * u) n, ← mul-pow z t n, ← mul-pow (z * t) b n) (pow-le-pow_left loss n) in
    let p : (z ^ n * t ^ n) * b ^ n * e ^ k ≤ a ^ n * (w ^ n * u ^ n) * e ^ k = mul-le-mul_right (e ^ k) l in
    let q : d ^ k * u ^ n * (z ^ n * b ^ n) ≤ t ^ n * e ^ k * (z ^ n * b ^ n) = mul-le-mul_right (z ^ n * b ^ n) root in
    let all : (z ^ n * d ^ k) * b ^ n * u ^ n ≤ a ^ n * (w ^ n * e ^ k) * u ^ n = omega (arith, p, q) in
    le_of_mul-le-mul_right all (one-le-pow n u above)

pub power_at_most : (g t f z d : Fraction) (n k : ℕ) → 0 < t.den → AtMost (times (over g t) f) z
    → AtMost (power t n) (power d k)
    → AtMost (power (times g f) n) (times (power z n) (power d k))
power_at_most g t f z d n k above loss root =
    record {
      crossed = raised_below (g.num * f.num) z.num z.den t.num t.den d.num d.den n k (g.den * f.den) above
          (omega (arith, loss.crossed)) root.crossed;
    }

pub power_at_least : (g t f z d : Fraction) (n k : ℕ) → 0 < t.den → AtMost z (times (over g t) f)
    → AtMost (power d k) (power t n)
    → AtMost (times (power z n) (power d k)) (power (times g f) n)
power_at_least g t f z d n k above loss root =
    record {
      crossed = raised_above (g.num * f.num) z.num z.den t.num t.den d.num d.den n k (g.den * f.den) above
          (omega (arith, loss.crossed)) root.crossed;
    }
