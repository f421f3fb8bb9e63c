use Rattle.std.proofs.Common.{◌*◌, ◌/◌, ◌%◌, ◌^◌, nat_eq, ◌∙◌, ap₂, arith}
use Rattle.std.proofs.lemmas.Int.{ints}
use Rattle.hyd_num.proofs.RoundingLemmas.{IsCut-product}
use Rattle.hyd_num.proofs.binary_arithmetic.product.Goals as goal

pub returns-then-product-lt-TWO_TO_125-clause-cut : goal.returns-then-product-lt-TWO_TO_125-clause-cut
returns-then-product-lt-TWO_TO_125-clause-cut c =
    IsCut-product 62 c.args.a c.args.b c.cut_at.result.down c.cut_at.result.exact
    (c.cut_at.ensures.mantissa ∙ ap₂ (λ x y. x * y / 2 ^ 62) c.from.ensures c.from-2.ensures)
    (c.cut_at.ensures.exactness ∙ ap₂ (λ x y. nat_eq (x * y % 2 ^ 62) 0) c.from.ensures c.from-2.ensures)
    (omega (arith, ints))

pub returns-clause-cut : goal.returns-clause-cut
returns-clause-cut c =
    IsCut-product 63 c.args.a c.args.b c.cut_at-2.result.down c.cut_at-2.result.exact
    (c.cut_at-2.ensures.mantissa ∙ ap₂ (λ x y. x * y / 2 ^ 63) c.from.ensures c.from-2.ensures)
    (c.cut_at-2.ensures.exactness ∙ ap₂ (λ x y. nat_eq (x * y % 2 ^ 63) 0) c.from.ensures c.from-2.ensures)
    (omega (arith, ints))
