-- The margin in both constants of a capacity is more than all roundings of a test lose.
use Rattle.std.proofs.Common.{◌≡◌, ℕ, zero, suc, ◌+◌, ◌-◌, ◌*◌, ◌^◌, ◌<◌, ◌≤◌, arith, mul-le-mul_right, pow-suc}
use Rattle.std.proofs.Common.{le_of_mul-le-mul_right}
use Rattle.std.proofs.Math.Nat.{pow-zero, mul-le-mul_left}

-- one step: (n + 1) (n - (k + 1)) is at most n (n - k)
step : (n k m : ℕ) → n ≡ k + 1 + m → (n + 1) * m ≤ n * (m + 1)
step n k m e = omega (arith, e)

-- k times the n-th part more is at most what k steps of the n-th part less take away
pub powers_of_next : (n k m : ℕ) → n ≡ k + m → (n + 1) ^ k * m ≤ n ^ k * n
powers_of_next n zero m e = rw (pow-zero (n + 1), pow-zero n) (omega (arith, e))
powers_of_next n (suc k) m e =
    let i : (n + 1) ^ k * (m + 1) ≤ n ^ k * n = powers_of_next n k (m + 1) (omega (arith, e)) in
    let s : (n + 1) * m ≤ n * (m + 1) = step n k m (omega (arith, e)) in
    let a : (n + 1) ^ k * ((n + 1) * m) ≤ (n + 1) ^ k * (n * (m + 1)) = mul-le-mul_left ((n + 1) ^ k) s in
    let b : (n + 1) ^ k * (m + 1) * n ≤ n ^ k * n * n = mul-le-mul_right n i in
    rw (pow-suc (n + 1) k, pow-suc n k) (omega (arith, a, b))

-- a margin below, and one above
pub room_below : (n k m c : ℕ) → n ≡ k + m → 0 < n → (c - 1) * n ≤ c * m → (c - 1) * (n + 1) ^ k ≤ c * n ^ k
room_below n k m c e some h =
    let p : (n + 1) ^ k * m ≤ n ^ k * n = powers_of_next n k m e in
    let a : (c - 1) * n * (n + 1) ^ k ≤ c * m * (n + 1) ^ k = mul-le-mul_right ((n + 1) ^ k) h in
    let b : c * ((n + 1) ^ k * m) ≤ c * (n ^ k * n) = mul-le-mul_left c p in
    let l : (c - 1) * (n + 1) ^ k * n ≤ c * n ^ k * n = omega (arith, a, b) in
    le_of_mul-le-mul_right l some

pub room_above : (n k m c : ℕ) → n ≡ k + m → 0 < n → c * n ≤ (c + 1) * m → c * (n + 1) ^ k ≤ (c + 1) * n ^ k
room_above n k m c e some h =
    let p : (n + 1) ^ k * m ≤ n ^ k * n = powers_of_next n k m e in
    let a : c * n * (n + 1) ^ k ≤ (c + 1) * m * (n + 1) ^ k = mul-le-mul_right ((n + 1) ^ k) h in
    let b : (c + 1) * ((n + 1) ^ k * m) ≤ (c + 1) * (n ^ k * n) = mul-le-mul_left (c + 1) p in
    let l : c * (n + 1) ^ k * n ≤ (c + 1) * n ^ k * n = omega (arith, a, b) in
    le_of_mul-le-mul_right l some

-- with 63 digits and the 2^49th part, for up to 4000 roundings
pub margin_below : (k : ℕ) → k ≤ 4000 → (2 ^ 49 - 1) * (2 ^ 62 + 1) ^ k ≤ 2 ^ 49 * (2 ^ 62) ^ k
margin_below k few = room_below (2 ^ 62) k (2 ^ 62 - k) (2 ^ 49) (omega (arith, few)) (omega arith) (omega (arith, few))

pub margin_above : (k : ℕ) → k ≤ 4000 → 2 ^ 49 * (2 ^ 62 + 1) ^ k ≤ (2 ^ 49 + 1) * (2 ^ 62) ^ k
margin_above k few = room_above (2 ^ 62) k (2 ^ 62 - k) (2 ^ 49) (omega (arith, few)) (omega arith) (omega (arith, few))
