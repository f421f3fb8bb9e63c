use Rattle.std.proofs.Common.{◌≡◌, pos, arith, to_z, of_z}
use Rattle.std.specs.Int.{w128, int_min}
use Rattle.std.proofs.lemmas.Int.{ints, clamps, to_z-of_z}
use Rattle.hyd_lemmas.proofs.BooleanTests.{le-no}
use Rattle.hyd_tank.proofs.RateMeetsNeed.{later}
use Rattle.hyd_stocks_at_scale.proofs.first_seconds.first_meeting.Goals as goal

pub returns : goal.returns
returns c =
    let n = to_z-of_z w128 c.args.need c.ranges.need in
    let q = to_z-of_z w128 c.args.rate c.ranges.rate in
    let ceil = c.mul_div_ceil.result in
    let short = le-no (to_z w128 (of_z w128 c.args.need)) (to_z w128 (of_z w128 c.args.rate)) c.if-need-rate.false in
    let forward = le-no (to_z w128 (of_z w128 c.args.rate)) (pos 0) c.if-rate-le0.false in
    let value : to_z w128 (of_z w128 c.min-2.result) ≡ int_min ceil (pos c.args.cap) =
    omega (arith, ints, clamps, c.min-2.ensures.value, c.mul_div_ceil.type_inv) in
    later c.args.need c.args.rate ceil (to_z w128 (of_z w128 c.min-2.result)) c.args.cap (omega (arith, ints, short))
    (omega (arith, ints, forward))
    (rw (n, q) at c.mul_div_ceil.ensures) value
