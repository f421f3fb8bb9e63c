use Rattle.std.proofs.Common.{◌-◌, ◌*◌, ◌^◌, ap, arith, sym, ◌∙◌}
use Rattle.hyd_num.specs.BinaryNumbers.{numerator, denominator}
use Rattle.hyd_num.proofs.EndsInOrder.{denominator_positive}
use Rattle.hyd_power_laws.proofs.HeldQuotients.{left_exact, left_inexact}
use Rattle.hyd_power_laws.proofs.left_heads.left_rounded_down.Goals as goal

pub returns-then-lost : goal.returns-then-lost
returns-then-lost c =
    c.saturating_sub-left.ensures ∙ ap (λ x. x * 2 ^ 60 - c.lost-lost.result.whole) c.from.ensures
    ∙ left_exact (c.args.head * 2 ^ 60) (numerator c.args.m * (c.args.flow * c.args.flow) * 2 ^ 60)
    (denominator c.args.m) c.lost-lost.result.whole (denominator_positive c.args.m) (omega (arith, c.requires.head))
    c.lost-lost.ensures.whole (λ lt. sym c.if-lost.true ∙ c.lost-lost.ensures.exact lt)

pub returns : goal.returns
returns c =
    c.saturating_sub.ensures
    ∙ ap (λ x. x - 1) (c.saturating_sub-left.ensures ∙ ap (λ x. x * 2 ^ 60 - c.lost-lost.result.whole) c.from.ensures)
    ∙ left_inexact (c.args.head * 2 ^ 60) (numerator c.args.m * (c.args.flow * c.args.flow) * 2 ^ 60)
    (denominator c.args.m) c.lost-lost.result.whole (denominator_positive c.args.m) (omega (arith, c.requires.head))
    c.lost-lost.ensures.whole (λ lt. sym c.if-lost.false ∙ c.lost-lost.ensures.exact lt)
