use Rattle.std.proofs.Common.{◌≡◌, ◌∙◌, ap, w64, to_z, of_z, arith}
use Rattle.std.proofs.lemmas.Int.{ints}
use Rattle.hyd_law.specs.LinkLaws.{link_low, link_high}
use Rattle.hyd_flow.proofs.flows.between.Goals as goal

pub invariant_of-result : goal.invariant_of-result
invariant_of-result c =
    let low_kept : to_z w64 (of_z w64 c.args.low_at) ≡ c.args.low_at = omega (arith, ints) in
    let high_kept : to_z w64 (of_z w64 c.args.high_at) ≡ c.args.high_at = omega (arith, ints) in
    let low : c.low.result ≡ link_low c.args.law.now c.args.low_at = c.low.ensures.value
    ∙ ap (link_low c.args.law.now) low_kept in
    let high : c.high.result ≡ link_high c.args.law.now c.args.high_at = c.high.ensures.value
    ∙ ap (link_high c.args.law.now) high_kept in
    let given = c.requires.ordered in
    let low_small = c.low.ensures.small in
    let high_small = c.high.ensures.small in
    record { ordered = omega (arith, ints, given, low, high, low_small, high_small) }

pub returns-clause-lo : goal.returns-clause-lo
returns-clause-lo c =
    let kept : to_z w64 (of_z w64 c.args.low_at) ≡ c.args.low_at = omega (arith, ints) in
    let value : c.low.result ≡ link_low c.args.law.now c.args.low_at = c.low.ensures.value
    ∙ ap (link_low c.args.law.now) kept in
    let small = c.low.ensures.small in
    omega (arith, ints, value, small)
