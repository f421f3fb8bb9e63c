use Rattle.std.proofs.Common.{◌≡◌, to_z, of_z, ◌∙◌, arith}
use Rattle.std.specs.Int.{w128}
use Rattle.std.proofs.lemmas.Int.{ints}
use Rattle.hyd_spread_networks.proofs.EndsLemmas.{up_is, up_small}
use Rattle.hyd_spread_networks.proofs.ends.up.Goals as goal

same : (c : goal.After-mul_div_ceil) → to_z w128 (of_z w128 c.mul_div_ceil.result) ≡ c.mul_div_ceil.result
same c = let fits = c.mul_div_ceil.type_inv in omega (arith, ints, fits)

pub returns-clause-value : goal.returns-clause-value
returns-clause-value c =
    same c
    ∙ up_is c.args.factor c.args.number (to_z w128 (of_z w128 c.args.factor)) (to_z w128 (of_z w128 c.args.number))
    c.mul_div_ceil.result (omega (arith, ints)) (omega (arith, ints)) c.requires.factor c.mul_div_ceil.ensures

pub returns-clause-bounded : goal.returns-clause-bounded
returns-clause-bounded c =
    let bound = up_small c.args.factor c.args.number (to_z w128 (of_z w128 c.args.factor))
    (to_z w128 (of_z w128 c.args.number)) c.mul_div_ceil.result (omega (arith, ints)) (omega (arith, ints))
    c.requires.few c.requires.small c.mul_div_ceil.ensures in
    let e = same c in
    omega (arith, ints, e, bound)
