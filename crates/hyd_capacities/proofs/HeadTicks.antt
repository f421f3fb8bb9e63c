-- The sign and the size of a head in ticks.
use Rattle.std.proofs.Common.{◌≤◌, ◌<◌, ◌^◌, ℤ, pos, ◌<ℤ◌, Bool, true, false, arith, unsigned_abs}
use Rattle.std.proofs.lemmas.Int.{ints}
use Rattle.hyd_num.specs.FileQuantity.{head_ticks}

pub ticks_above : (us : Bool) (z : ℤ) → pos 0 <ℤ z → pos 0 <ℤ head_ticks us z
ticks_above true z some = omega (arith, ints, some)
ticks_above false z some = omega (arith, ints, some)

pub ticks_short : (us : Bool) (z : ℤ) → unsigned_abs z ≤ 10 ^ 21 → unsigned_abs (head_ticks us z) < 2 ^ 100
ticks_short true z small = omega (arith, ints, small)
ticks_short false z small = omega (arith, ints, small)
