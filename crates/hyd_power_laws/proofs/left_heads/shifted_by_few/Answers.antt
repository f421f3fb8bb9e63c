use Rattle.std.proofs.Common.{◌+◌, ◌*◌, ◌/◌, ◌^◌, ◌≤◌, arith}
use Rattle.hyd_power_laws.proofs.HeldQuotients.{few_reach, few_product, few_rest, few_quotient, few_exact}
use Rattle.hyd_power_laws.proofs.left_heads.shifted_by_few.Goals as goal

pub returns-then-wide-power_of_two-clause-whole : goal.returns-then-wide-power_of_two-clause-whole
returns-then-wide-power_of_two-clause-whole c =
    let l : 2 ^ 122 ≤ (c.args.wide.high * 2 ^ 64 + c.args.wide.low) / 2 ^ c.args.places = few_reach c.args.wide.high
    c.args.wide.low c.args.places (omega (arith, c.power_of_two.ensures, c.if-wide-power_of_two.true)) in
    omega (arith, l, c.held.ensures.whole)

pub overflow_mul-result : goal.overflow_mul-result
overflow_mul-result c =
    let l = few_product c.args.wide.high c.args.places c.requires.few
    (omega (arith, c.power_of_two.ensures, c.if-wide-power_of_two.false)) in
    rw c.power_of_two-2.ensures (record { fits = omega (arith, l) })

pub overflow_add-result : goal.overflow_add-result
overflow_add-result c =
    let l = few_product c.args.wide.high c.args.places c.requires.few
    (omega (arith, c.power_of_two.ensures, c.if-wide-power_of_two.false)) in
    let r = few_rest c.args.wide.low c.args.places c.requires.few c.requires.low in
    rw (c.power_of_two-2.ensures, c.power_of_two-unit.ensures) (record { fits = omega (arith, l, r) })

pub returns-clause-whole : goal.returns-clause-whole
returns-clause-whole c =
    let l = few_product c.args.wide.high c.args.places c.requires.few
    (omega (arith, c.power_of_two.ensures, c.if-wide-power_of_two.false)) in
    let r = few_rest c.args.wide.low c.args.places c.requires.few c.requires.low in
    let q = few_quotient c.args.wide.high c.args.wide.low c.args.places c.requires.few in
    rw (c.power_of_two-2.ensures, c.power_of_two-unit.ensures) (omega (arith, l, r, q))

pub returns-clause-exact : goal.returns-clause-exact
returns-clause-exact c = λ lt. rw c.power_of_two-unit.ensures
    (few_exact c.args.wide.high c.args.wide.low c.args.places c.requires.few)
