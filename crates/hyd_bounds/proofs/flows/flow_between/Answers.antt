use Rattle.std.proofs.Common.{◌≡◌, ◌≤ℤ◌, ◌∙◌, ap, w64, to_z, of_z, arith}
use Rattle.std.proofs.lemmas.Int.{ints}
use Rattle.hyd_law.specs.LinkLaws.{link_low, IsLaw-link}
use Rattle.hyd_bounds.proofs.flows.flow_between.Goals as goal

pub invariant_of-result : goal.invariant_of-result
invariant_of-result c =
    let law = IsLaw-link c.args.law.now c.requires.sound in
    let a = to_z w64 (of_z w64 c.args.least) in
    let b = to_z w64 (of_z w64 c.args.greatest) in
    let given = c.requires.ordered in
    let le : a ≤ℤ b = omega (arith, ints, given) in
    let first = law.ordered a in
    let second = law.high_rises a b le in
    let low = c.low.ensures.value in
    let high = c.high.ensures.value in
    let low_small = c.low.ensures.small in
    let high_small = c.high.ensures.small in
    record { ordered = omega (arith, ints, first, second, low, high, low_small, high_small) }

pub returns-clause-lo : goal.returns-clause-lo
returns-clause-lo c =
    let kept : to_z w64 (of_z w64 c.args.least) ≡ c.args.least = omega (arith, ints) in
    let value : c.low.result ≡ link_low c.args.law.now c.args.least = c.low.ensures.value
    ∙ ap (link_low c.args.law.now) kept in
    let small = c.low.ensures.small in
    omega (arith, ints, value, small)
