use Rattle.std.proofs.Common.{◌+◌, ◌*◌, ◌/◌, ◌^◌, ap, arith, min, ◌∙◌}
use Rattle.hyd_power_laws.proofs.HeldQuotients.{none_quotient, none_exact, many_quotient, many_exact, many_inexact}
use Rattle.hyd_power_laws.proofs.left_heads.shifted_down.Goals as goal

pub returns-then-places-ge188-clause-whole : goal.returns-then-places-ge188-clause-whole
returns-then-places-ge188-clause-whole c =
    let q = none_quotient (c.args.wide.high * 2 ^ 64 + c.args.wide.low) c.args.places c.if-places-ge188.true
    (omega (arith, c.requires.low, c.requires.high)) in
    omega (arith, q)

pub returns-then-places-ge188-clause-exact : goal.returns-then-places-ge188-clause-exact
returns-then-places-ge188-clause-exact c = λ lt. none_exact (c.args.wide.high * 2 ^ 64 + c.args.wide.low) c.args.places
    c.if-places-ge188.true (omega (arith, c.requires.least)) (omega (arith, c.requires.low, c.requires.high))

pub returns-then-wide-unit-eq0-clause-whole : goal.returns-then-wide-unit-eq0-clause-whole
returns-then-wide-unit-eq0-clause-whole c =
    c.min.ensures ∙ ap (λ x. min (c.args.wide.high / x) (2 ^ 122)) c.power_of_two-unit.ensures
    ∙ ap (λ x. min x (2 ^ 122)) (many_quotient c.args.wide.high c.args.wide.low c.args.places c.if-places-lt64.false
    c.requires.low)

pub returns-then-wide-unit-eq0-clause-exact : goal.returns-then-wide-unit-eq0-clause-exact
returns-then-wide-unit-eq0-clause-exact c = λ lt. many_exact c.args.wide.high c.args.wide.low c.args.places
    c.if-places-lt64.false c.requires.low (rw c.power_of_two-unit.ensures at c.if-wide-unit-eq0.true)

pub returns-else-wide-unit-eq0-clause-whole : goal.returns-else-wide-unit-eq0-clause-whole
returns-else-wide-unit-eq0-clause-whole c =
    c.min.ensures ∙ ap (λ x. min (c.args.wide.high / x) (2 ^ 122)) c.power_of_two-unit.ensures
    ∙ ap (λ x. min x (2 ^ 122)) (many_quotient c.args.wide.high c.args.wide.low c.args.places c.if-places-lt64.false
    c.requires.low)

pub returns-else-wide-unit-eq0-clause-exact : goal.returns-else-wide-unit-eq0-clause-exact
returns-else-wide-unit-eq0-clause-exact c = λ lt. rw c.power_of_two-unit.ensures
    (many_inexact c.args.wide.high c.args.wide.low c.args.places c.if-places-lt64.false c.requires.low
    (rw c.power_of_two-unit.ensures at c.if-wide-unit-eq0.false))
