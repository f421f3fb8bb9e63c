use Rattle.std.proofs.Common.{◌≡◌, pos, neg_ℤ, arith}
use Rattle.std.proofs.lemmas.Int.{ints}
use Rattle.hyd_spec_witnesses.specs.EnclosingFunctionsAtScale.{quadratic_high_at}
use Rattle.hyd_law.proofs.QuadraticRoots.{upper_least}
use Rattle.hyd_laws_at_scale.specs.Scales.{parts_of}
use Rattle.hyd_laws_at_scale.proofs.ScaledRoots.{lower_in_range, high_forward, high_reverse}
use Rattle.hyd_laws_at_scale.proofs.quadratic.quadratic_high.Goals as goal

pub root_above-requires-clause-least : goal.root_above-requires-clause-least
root_above-requires-clause-least c = upper_least c.args.capacity.now

pub root_below-requires-clause-greatest : goal.root_below-requires-clause-greatest
root_below-requires-clause-greatest c =
    lower_in_range c.args.capacity.now (parts_of c.args.scale) c.requires.capacity

pub returns-then-d-ge0-clause-value : goal.returns-then-d-ge0-clause-value
returns-then-d-ge0-clause-value c =
    let e : pos c.root_above.result ≡ quadratic_high_at (parts_of c.args.scale) c.args.capacity.now c.args.d =
    high_forward (parts_of c.args.scale) c.args.capacity.now c.args.d c.unsigned_abs-magnitude.result
    c.root_above.result (omega (arith, ints)) (omega (arith, ints)) c.root_above.ensures in
    omega (arith, ints, e)

pub returns-clause-value : goal.returns-clause-value
returns-clause-value c =
    let e : neg_ℤ (pos c.root_below.result) ≡ quadratic_high_at (parts_of c.args.scale) c.args.capacity.now c.args.d =
    high_reverse (parts_of c.args.scale) c.args.capacity.now c.args.d c.unsigned_abs-magnitude.result
    c.root_below.result (omega (arith, ints)) (omega (arith, ints)) c.root_below.ensures in
    omega (arith, ints, e)
