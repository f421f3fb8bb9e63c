-- Powers of two, and numbers of ticks in parts.
use Rattle.std.proofs.Common.{◌≡◌, ℕ, suc, ◌+◌, ◌*◌, ◌^◌, ◌<◌, ◌≤◌, ℤ, pos, negsuc, ◌*ℤ◌, unsigned_abs, arith, lit≤}
use Rattle.std.proofs.Math.Nat.{mul-le-mul_right, pow-le-pow_right}
use Rattle.std.proofs.lemmas.Nat.{pow_pos, pow-add}
use Rattle.std.specs.Int.{int_max, int_min}
use Rattle.std.proofs.lemmas.Int.{ints, clamps}
use Rattle.hyd_num.proofs.RoundingLemmas.{power_below}

pub power_from : (k : ℕ) → 1 ≤ 2 ^ k
power_from k = pow_pos k

-- a power of two from another one on, and below twice that one, is that one
pub same_power : (n k p : ℕ) → n ≡ 2 ^ p → 2 ^ k ≤ n → n < 2 * 2 ^ k → k ≡ p
same_power n k p e low high =
    let a : 2 ^ (p + 1) ≡ 2 ^ p * 2 ^ 1 = pow-add 2 p 1 in
    let b : 2 ^ (k + 1) ≡ 2 ^ k * 2 ^ 1 = pow-add 2 k 1 in
    let l : k < p + 1 = power_below k (p + 1) (omega (arith, a, e, low, power_from p)) in
    let h : p < k + 1 = power_below p (k + 1) (omega (arith, b, e, high)) in
    omega (arith, l, h)

-- a power of at most 1,024
pub power_at_most : (k n : ℕ) → 2 ^ k ≤ n → n ≤ 1024 → k ≤ 10
power_at_most k n le few = let l : k < 11 = power_below k 11 (omega (arith, le, few)) in omega (arith, l)

pub power_small : (k : ℕ) → k ≤ 10 → 2 ^ k ≤ 1024
power_small k le = pow-le-pow_right {n = 2} (lit≤ tt) le

-- a number of ticks in at most 1,024 parts each
pub parts_small : (s : ℕ) (z : ℤ) → s ≤ 1024 → unsigned_abs (pos s *ℤ z) ≤ 1024 * unsigned_abs z
parts_small s (pos n) few = let m = mul-le-mul_right n few in omega (arith, ints, m)
parts_small s (negsuc n) few = let m = mul-le-mul_right (suc n) few in omega (arith, ints, m)

-- the greater of a lesser, in the other order
pub held_is : (least most flow r : ℤ) → r ≡ int_max (int_min most flow) least → r ≡ int_max least (int_min most flow)
held_is least most flow r e = omega (arith, ints, clamps, e)
