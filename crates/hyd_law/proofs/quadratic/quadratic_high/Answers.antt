use Rattle.std.proofs.Common.{◌≡◌, pos, neg_ℤ, arith}
use Rattle.std.proofs.lemmas.Int.{ints}
use Rattle.hyd_spec_certificates.specs.EnclosingFunctions.{quadratic_high}
use Rattle.hyd_law.proofs.QuadraticRoots.{upper_least, high_forward, high_reverse}
use Rattle.hyd_law.proofs.quadratic.quadratic_high.Goals as goal

pub sqrt_up-requires-clause-least : goal.sqrt_up-requires-clause-least
sqrt_up-requires-clause-least c = upper_least c.args.capacity.now

pub returns-then-d-ge0-clause-value : goal.returns-then-d-ge0-clause-value
returns-then-d-ge0-clause-value c =
    let e : pos c.sqrt_up.result ≡ quadratic_high c.args.capacity.now c.args.d =
    high_forward c.args.capacity.now c.args.d c.unsigned_abs-magnitude.result c.sqrt_up.result (omega (arith, ints))
    (omega (arith, ints)) c.sqrt_up.ensures in
    omega (arith, ints, e)

pub returns-clause-value : goal.returns-clause-value
returns-clause-value c =
    let e : neg_ℤ (pos c.sqrt_down.result) ≡ quadratic_high c.args.capacity.now c.args.d =
    high_reverse c.args.capacity.now c.args.d c.unsigned_abs-magnitude.result c.sqrt_down.result (omega (arith, ints))
    (omega (arith, ints)) c.sqrt_down.ensures in
    omega (arith, ints, e)
