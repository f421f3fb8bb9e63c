-- How often a divisor is doubled, and how many digits a long division has.
use Rattle.std.proofs.Common.{◌≡◌, ℕ, ◌+◌, ◌*◌, ◌/◌, ◌^◌, ◌-◌, ◌<◌, ◌≤◌, arith, mul-le-mul_right, le-div_iff_mul-le}
use Rattle.std.proofs.Common.{pow-suc, add-one, pow_pos, le_of_lt, lit<, lit≤, mul-le-mul_left, ap, ◌%◌, div-add-mod'}
use Rattle.std.proofs.lemmas.Nat.{pow-add}
use Rattle.std.proofs.Math.Nat.{pow-le-pow_right}
use Rattle.hyd_num.proofs.RoundingLemmas.{power_below}

-- twice a power of two, times a factor
pub doubled_power : (q k : ℕ) → q * 2 ^ (k + 1) ≡ 2 * (q * 2 ^ k)
doubled_power q k = rw (add-one, pow-suc 2 k) (omega arith)

pub few_doublings : (q v k : ℕ) → v ≡ q * 2 ^ k → v < 2 ^ 101 → 1 ≤ q → k ≤ 100
few_doublings q v k e small positive =
    let a : 1 * 2 ^ k ≤ q * 2 ^ k = mul-le-mul_right (2 ^ k) positive in
    let b : k < 101 = power_below k 101 (omega (arith, a, e)) in
    omega arith

pub room_to_double : (p v : ℕ) → p < 2 ^ 100 → v ≤ p / 2 ^ 63 → v * 2 < 2 ^ 101
room_to_double p v short h = let a : v * 2 ^ 63 ≤ p = (le-div_iff_mul-le (lit< tt)).0 h in omega (arith, a)

pub few_digits : (p d m r k : ℕ) → m * d + r ≡ p * 2 ^ k → r < d → m < 2 ^ 63 → d < 2 ^ 101 → 1 ≤ p → k ≤ 163
few_digits p d m r k split small short fits positive =
    let a : 1 * 2 ^ k ≤ p * 2 ^ k = mul-le-mul_right (2 ^ k) positive in
    let b : (m + 1) * d ≤ 2 ^ 63 * d = mul-le-mul_right d (omega arith) in
    let c : k < 164 = power_below k 164 (omega (arith, a, b, split)) in
    omega arith

-- the division is nearer its end with some digits more
pub nearer : (p d m r k more n s : ℕ) → m * d + r ≡ p * 2 ^ k → 1 ≤ p → m < 2 ^ 62 → r < d → 1 ≤ more
    → n * d + s ≡ 2 ^ more * (m * d + r) → 2 ^ 62 * d - (n * d + s) < 2 ^ 62 * d - (m * d + r)
nearer p d m r k more n s split positive short small some times =
    let a : 1 * 2 ^ k ≤ p * 2 ^ k = mul-le-mul_right (2 ^ k) positive in
    let b : (m + 1) * d ≤ 2 ^ 62 * d = mul-le-mul_right d (omega arith) in
    let t : 2 ^ 1 ≤ 2 ^ more = pow-le-pow_right {n = 2} (lit≤ tt) some in
    let u : 2 * (m * d + r) ≤ 2 ^ more * (m * d + r) = mul-le-mul_right (m * d + r) t in
    omega (arith, a, b, split, times, u, pow_pos k)

-- a number whose first digit stands at l has room for digits up to a power of two
pub room : (n l k r : ℕ) → n < 2 * 2 ^ l → l + r ≤ k → n * 2 ^ r ≤ 2 * 2 ^ k
room n l k r below fits =
    let a : n * 2 ^ r ≤ 2 * 2 ^ l * 2 ^ r = mul-le-mul_right (2 ^ r) (le_of_lt below) in
    let b : 2 ^ (l + r) ≡ 2 ^ l * 2 ^ r = pow-add 2 l r in
    let c : 2 ^ (l + r) ≤ 2 ^ k = pow-le-pow_right {n = 2} (lit≤ tt) fits in
    omega (arith, a, b, c)

-- the next number has room for digits up to 63
pub upto : (n l : ℕ) → l < 62 → n < 2 * 2 ^ l → (n + 1) * 2 ^ (62 - l) ≤ 2 ^ 63
upto n l short below =
    let a : (n + 1) * 2 ^ (62 - l) ≤ 2 * 2 ^ l * 2 ^ (62 - l) = mul-le-mul_right (2 ^ (62 - l)) (omega arith) in
    let b : 2 ^ (l + (62 - l)) ≡ 2 ^ l * 2 ^ (62 - l) = pow-add 2 l (62 - l) in
    let d : l + (62 - l) ≡ 62 = omega arith in
    let c : 2 ^ (l + (62 - l)) ≡ 2 ^ 62 = ap (λ x. 2 ^ x) d in
    omega (arith, a, b, c)

-- the same with fewer digits
pub fewer : (n k r b : ℕ) → n * 2 ^ k ≤ b → r ≤ k → n * 2 ^ r ≤ b
fewer n k r b fits less =
    let a : 2 ^ r ≤ 2 ^ k = pow-le-pow_right {n = 2} (lit≤ tt) less in
    let c : n * 2 ^ r ≤ n * 2 ^ k = mul-le-mul_left n a in
    omega (arith, a, c)

-- some digits more of a quotient
pub more_digits : (m r d u b s t : ℕ) → u ≡ t → b ≡ r * u / d → s ≡ r * u % d
    → (m * u + b) * d + s ≡ t * (m * d + r)
more_digits m r d u b s t unit behind rest =
    let h : r * u / d * d + r * u % d ≡ r * u = div-add-mod' (r * u) d in
    rw (behind, rest, ← unit) (omega (arith, h))
