use Rattle.std.proofs.Common.{◌∙◌, sym, ap, arith, ℤ, List}
use Rattle.std.proofs.lemmas.Int.{ints}
use Rattle.hyd_spec.specs.Assignment.{head_at}
use Rattle.hyd_spec_certificates.specs.declared.Problem.TheVariants.{Main}
use Rattle.hyd_spread_bounds.specs.BothSides.{pair_of}
use Rattle.hyd_spread_bounds.proofs.HeadsOfBothSides.{below-is, above-is, nodes-alike}
use Rattle.hyd_spread_bounds.proofs.heads.head_span.Goals as goal

pub node_head-requires-clause-in_range : goal.node_head-requires-clause-in_range
node_head-requires-clause-in_range c =
    let same = nodes-alike c.args.upper.now c.args.lower.now c.requires.pair c.junctions-upper.ensures.each
    c.junctions-lower.ensures.each in
    let given = c.requires.in_range in
    omega (arith, same, given)

pub returns-clause-lo : goal.returns-clause-lo
returns-clause-lo c =
    let pair = pair_of c.args.upper.now c.args.lower.now in
    let value = c.node_head.ensures.value ∙ ap (λ (hs : List ℤ). head_at hs c.args.node)
    (sym (below-is pair c.requires.pair Main c.args.low.now)) in
    let small = c.node_head.ensures.small in
    omega (arith, ints, value, small)

pub returns-clause-hi : goal.returns-clause-hi
returns-clause-hi c =
    let pair = pair_of c.args.upper.now c.args.lower.now in
    let value = c.node_head-2.ensures.value ∙ ap (λ (hs : List ℤ). head_at hs c.args.node)
    (sym (above-is pair c.requires.pair Main c.args.high.now)) in
    let small = c.node_head-2.ensures.small in
    omega (arith, ints, value, small)
