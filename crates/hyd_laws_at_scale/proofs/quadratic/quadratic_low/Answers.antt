use Rattle.std.proofs.Common.{◌≡◌, pos, neg_ℤ, arith}
use Rattle.std.proofs.lemmas.Int.{ints}
use Rattle.hyd_spec_witnesses.specs.EnclosingFunctionsAtScale.{quadratic_low_at}
use Rattle.hyd_law.proofs.QuadraticRoots.{upper_least}
use Rattle.hyd_laws_at_scale.specs.Scales.{parts_of}
use Rattle.hyd_laws_at_scale.proofs.ScaledRoots.{lower_in_range, low_forward, low_reverse}
use Rattle.hyd_laws_at_scale.proofs.quadratic.quadratic_low.Goals as goal

pub root_below-requires-clause-greatest : goal.root_below-requires-clause-greatest
root_below-requires-clause-greatest c =
    lower_in_range c.args.capacity.now (parts_of c.args.scale) c.requires.capacity

pub root_above-requires-clause-least : goal.root_above-requires-clause-least
root_above-requires-clause-least c = upper_least c.args.capacity.now

pub returns-then-d-ge0-clause-value : goal.returns-then-d-ge0-clause-value
returns-then-d-ge0-clause-value c =
    let e : pos c.root_below.result ≡ quadratic_low_at (parts_of c.args.scale) c.args.capacity.now c.args.d =
    low_forward (parts_of c.args.scale) c.args.capacity.now c.args.d c.unsigned_abs-magnitude.result
    c.root_below.result (omega (arith, ints)) (omega (arith, ints)) c.root_below.ensures in
    omega (arith, ints, e)

pub returns-clause-value : goal.returns-clause-value
returns-clause-value c =
    let e : neg_ℤ (pos c.root_above.result) ≡ quadratic_low_at (parts_of c.args.scale) c.args.capacity.now c.args.d =
    low_reverse (parts_of c.args.scale) c.args.capacity.now c.args.d c.unsigned_abs-magnitude.result
    c.root_above.result (omega (arith, ints)) (omega (arith, ints)) c.root_above.ensures in
    omega (arith, ints, e)
