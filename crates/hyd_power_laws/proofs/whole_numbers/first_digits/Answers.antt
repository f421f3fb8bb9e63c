use Rattle.std.proofs.Common.{◌≡◌, ◌*◌, ◌/◌, ◌^◌, ap, ◌∙◌, arith}
use Rattle.hyd_power_laws.proofs.WholeNumbers.{digits-shifted_up, digits-shifted_down, digits_bounds, few_places}
use Rattle.hyd_power_laws.proofs.whole_numbers.first_digits.Goals as goal
use Rattle.hyd_power_laws.proofs.whole_numbers.first_digits.Goals.{After-power_of_two, After-power_of_two-2}

by_factor : (c : After-power_of_two) → c.args.n * c.power_of_two.result ≡ c.args.n * 2 ^ 62 / 2 ^ c.args.places
by_factor c = ap (λ x. c.args.n * x) c.power_of_two.ensures
    ∙ digits-shifted_up c.args.n c.args.places c.if-places-le62.true

by_quotient : (c : After-power_of_two-2) → c.args.n / c.power_of_two-2.result ≡ c.args.n * 2 ^ 62 / 2 ^ c.args.places
by_quotient c = ap (λ x. c.args.n / x) c.power_of_two-2.ensures
    ∙ digits-shifted_down c.args.n c.args.places (omega (arith, c.if-places-le62.false))

pub overflow_cast-result : goal.overflow_cast-result
overflow_cast-result c =
    let b = digits_bounds c.args.n c.args.places c.requires.from c.requires.to in
    record { fits = omega (arith, by_factor c, b.1) }

pub returns-then-places-le62-clause-value : goal.returns-then-places-le62-clause-value
returns-then-places-le62-clause-value c = by_factor c

pub returns-then-places-le62-clause-least : goal.returns-then-places-le62-clause-least
returns-then-places-le62-clause-least c =
    let b = digits_bounds c.args.n c.args.places c.requires.from c.requires.to in
    omega (arith, by_factor c, b.0)

pub returns-then-places-le62-clause-short : goal.returns-then-places-le62-clause-short
returns-then-places-le62-clause-short c =
    let b = digits_bounds c.args.n c.args.places c.requires.from c.requires.to in
    omega (arith, by_factor c, b.1)

pub power_of_two-requires-2 : goal.power_of_two-requires-2
power_of_two-requires-2 c =
    let l = few_places c.args.n c.args.places c.requires.from c.ranges.n.fits in
    omega (arith, l)

pub overflow_cast-result-2 : goal.overflow_cast-result-2
overflow_cast-result-2 c =
    let b = digits_bounds c.args.n c.args.places c.requires.from c.requires.to in
    record { fits = omega (arith, by_quotient c, b.1) }

pub returns-clause-value : goal.returns-clause-value
returns-clause-value c = by_quotient c

pub returns-clause-least : goal.returns-clause-least
returns-clause-least c =
    let b = digits_bounds c.args.n c.args.places c.requires.from c.requires.to in
    omega (arith, by_quotient c, b.0)

pub returns-clause-short : goal.returns-clause-short
returns-clause-short c =
    let b = digits_bounds c.args.n c.args.places c.requires.from c.requires.to in
    omega (arith, by_quotient c, b.1)
