use Rattle.std.proofs.Common.{◌≡◌, pos, neg_ℤ, ◌-ℤ◌, ◌^◌, to_z, of_z, arith}
use Rattle.std.specs.Int.{w128, int_div_euclid}
use Rattle.std.proofs.lemmas.Int.{ints}
use Rattle.hyd_period_network.proofs.PumpLifts.{ordered_ends, low_end, high_end, floor_within, ceiling_within}
use Rattle.hyd_period_network.proofs.PumpLifts.{euclid_at}
use Rattle.hyd_period_network.proofs.pumps.rounded.Goals as goal

low_is : (c : goal.After-div_euclid-hi) → c.div_euclid-lo.result ≡ int_div_euclid c.args.numerator c.args.denominator
low_is c = euclid_at c.div_euclid-lo.result c.args.numerator c.args.denominator
    (to_z w128 (of_z w128 c.args.numerator)) (to_z w128 (of_z w128 c.args.denominator))
    c.div_euclid-lo.ensures (omega (arith, ints)) (omega (arith, ints))

high_is : (c : goal.After-div_euclid-hi) → neg_ℤ c.div_euclid-hi.result
    ≡ neg_ℤ (int_div_euclid (neg_ℤ c.args.numerator) c.args.denominator)
high_is c =
    let e = euclid_at c.div_euclid-hi.result (neg_ℤ c.args.numerator) c.args.denominator
    (to_z w128 (of_z w128 (pos 0 -ℤ to_z w128 (of_z w128 c.args.numerator))))
    (to_z w128 (of_z w128 c.args.denominator))
    c.div_euclid-hi.ensures (omega (arith, ints)) (omega (arith, ints)) in
    omega (arith, ints, e)

pub invariant_of-result : goal.invariant_of-result
invariant_of-result c =
    let l = ordered_ends c.args.numerator c.args.denominator c.div_euclid-lo.result (neg_ℤ c.div_euclid-hi.result)
    c.requires.above (low_is c) (high_is c) in
    let a = floor_within c.args.numerator c.args.denominator c.div_euclid-lo.result (10 ^ 18) c.requires.above
    (low_is c) c.requires.within in
    let b = ceiling_within c.args.numerator c.args.denominator (neg_ℤ c.div_euclid-hi.result) (10 ^ 18)
    c.requires.above (high_is c) c.requires.within in
    record { ordered = omega (arith, ints, l, a, b) }

pub returns-clause-least : goal.returns-clause-least
returns-clause-least c =
    let a = floor_within c.args.numerator c.args.denominator c.div_euclid-lo.result (10 ^ 18) c.requires.above
    (low_is c.before) c.requires.within in
    omega (arith, ints, a)

pub returns-clause-greatest : goal.returns-clause-greatest
returns-clause-greatest c =
    let b = ceiling_within c.args.numerator c.args.denominator (neg_ℤ c.div_euclid-hi.result) (10 ^ 18)
    c.requires.above (high_is c.before) c.requires.within in
    omega (arith, ints, b)

pub returns-clause-rounded : goal.returns-clause-rounded
returns-clause-rounded c x is =
    let l = low_end c.args.numerator c.args.denominator c.div_euclid-lo.result x is (low_is c.before) in
    let h = high_end c.args.numerator c.args.denominator (neg_ℤ c.div_euclid-hi.result) x is (high_is c.before) in
    let a = floor_within c.args.numerator c.args.denominator c.div_euclid-lo.result (10 ^ 18) c.requires.above
    (low_is c.before) c.requires.within in
    let b = ceiling_within c.args.numerator c.args.denominator (neg_ℤ c.div_euclid-hi.result) (10 ^ 18)
    c.requires.above (high_is c.before) c.requires.within in
    record { floor_is = omega (arith, ints, l, a); ceiling_is = omega (arith, ints, h, b) }
