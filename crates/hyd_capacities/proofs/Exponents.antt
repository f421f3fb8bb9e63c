-- How large a number is by its exponent.
use Rattle.std.proofs.Common.{ℕ, ◌+◌, ◌*◌, ◌^◌, ◌<◌, ◌≤◌, pos, negsuc, ◌≤ℤ◌, ◌<ℤ◌, arith, lit≤}
use Rattle.std.proofs.Math.Nat.{mul-le-mul_right, pow-le-pow_right, mul-lt-mul_of_pos_right}
use Rattle.std.proofs.lemmas.Nat.{pow_pos, pow-add}
use Rattle.std.proofs.lemmas.Int.{ints}
use borrow.Author.Differences.{up, down}
use Rattle.hyd_num.specs.declared.binary.Scaled.{Scaled}
use Rattle.hyd_num.specs.BinaryNumbers.{numerator, denominator}

powers : (i j k : ℕ) → i ≤ j + k → 2 ^ i ≤ 2 ^ j * 2 ^ k
powers i j k h = rw (← pow-add 2 j k) (pow-le-pow_right {n = 2} (lit≤ tt) h)

pub below-least : (s : Scaled) → s.exp <ℤ negsuc 122 → numerator s * 2 ^ 61 < denominator s
below-least s h =
    let p : 2 ^ (124 + up s.exp) ≤ 2 ^ down s.exp = pow-le-pow_right {n = 2} (lit≤ tt) (omega (arith, ints)) in
    let m : s.mant * 2 ^ up s.exp < 2 ^ 63 * 2 ^ up s.exp = mul-lt-mul_of_pos_right s.short (pow_pos (up s.exp)) in
    omega (arith, m, p, pow-add 2 124 (up s.exp))

pub from-least : (s : Scaled) → negsuc 122 ≤ℤ s.exp → denominator s ≤ numerator s * 2 ^ 61
from-least s h =
    let p : 2 ^ down s.exp ≤ 2 ^ 123 * 2 ^ up s.exp = powers (down s.exp) 123 (up s.exp) (omega (arith, ints)) in
    let m : 2 ^ 62 * 2 ^ up s.exp ≤ s.mant * 2 ^ up s.exp = mul-le-mul_right (2 ^ up s.exp) s.normal in
    omega (arith, m, p)

pub from-greatest : (s : Scaled) → pos 3 <ℤ s.exp → 2 ^ 66 * denominator s ≤ numerator s
from-greatest s h =
    let p : 2 ^ (4 + down s.exp) ≤ 2 ^ up s.exp = pow-le-pow_right {n = 2} (lit≤ tt) (omega (arith, ints)) in
    let m : 2 ^ 62 * 2 ^ up s.exp ≤ s.mant * 2 ^ up s.exp = mul-le-mul_right (2 ^ up s.exp) s.normal in
    omega (arith, m, p, pow-add 2 4 (down s.exp))

pub below-greatest : (s : Scaled) → s.exp ≤ℤ pos 3 → numerator s < 2 ^ 66 * denominator s
below-greatest s h =
    let p : 2 ^ up s.exp ≤ 2 ^ 3 * 2 ^ down s.exp = powers (up s.exp) 3 (down s.exp) (omega (arith, ints)) in
    let m : s.mant * 2 ^ up s.exp < 2 ^ 63 * 2 ^ up s.exp = mul-lt-mul_of_pos_right s.short (pow_pos (up s.exp)) in
    omega (arith, m, p)
