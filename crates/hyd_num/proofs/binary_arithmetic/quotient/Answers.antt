use Rattle.std.proofs.Common.{◌*◌, ◌/◌, ◌%◌, ◌^◌, nat_eq, ◌∙◌, ap, ap₂, arith}
use Rattle.std.proofs.lemmas.Int.{ints}
use Rattle.hyd_num.proofs.RoundingLemmas.{IsCut-quotient}
use Rattle.hyd_num.proofs.binary_arithmetic.quotient.Goals as goal

pub returns-then-a-b-clause-cut : goal.returns-then-a-b-clause-cut
returns-then-a-b-clause-cut c =
    IsCut-quotient 62 c.args.a c.args.b c.cut_at.result.down c.cut_at.result.exact
    (c.cut_at.ensures.mantissa ∙ c.quotient_and_rest-mant.ensures.quotient
    ∙ ap₂ (λ x y. x * 2 ^ 62 / y) c.from-dividend.ensures c.from-divisor.ensures)
    (c.cut_at.ensures.exactness ∙ ap (λ x. nat_eq x 0) c.quotient_and_rest-mant.ensures.rest
    ∙ ap₂ (λ x y. nat_eq (x * 2 ^ 62 % y) 0) c.from-dividend.ensures c.from-divisor.ensures)
    (omega (arith, ints))

pub returns-clause-cut : goal.returns-clause-cut
returns-clause-cut c =
    IsCut-quotient 63 c.args.a c.args.b c.cut_at-2.result.down c.cut_at-2.result.exact
    (c.cut_at-2.ensures.mantissa ∙ c.quotient_and_rest-mant-2.ensures.quotient
    ∙ ap₂ (λ x y. x * 2 ^ 63 / y) c.from-dividend-2.ensures c.from-divisor.ensures)
    (c.cut_at-2.ensures.exactness ∙ ap (λ x. nat_eq x 0) c.quotient_and_rest-mant-2.ensures.rest
    ∙ ap₂ (λ x y. nat_eq (x * 2 ^ 63 % y) 0) c.from-dividend-2.ensures c.from-divisor.ensures)
    (omega (arith, ints))
