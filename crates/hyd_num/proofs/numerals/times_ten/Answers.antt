use Rattle.std.proofs.Common.{◌∙◌, ap, ◌*◌, ◌^◌, ◌+◌, min}
use Rattle.hyd_num.proofs.Digits.{capped_tenfold}
use Rattle.hyd_num.proofs.numerals.times_ten.Goals as goal

pub loop-preserved : goal.loop-preserved
loop-preserved c = c.min-number.ensures ∙ ap (λ v. min (10 * v) (10 ^ 21 + 1)) c.loop.invariant
    ∙ capped_tenfold (10 ^ 21 + 1) c.args.first c.loop.counter
