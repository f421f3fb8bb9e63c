use Rattle.std.proofs.Common.{◌≡◌, ◌+◌, ◌-◌, ◌^◌, ◌++◌, min, length, take, fold, ap, sym, ◌∙◌, arith}
use Rattle.std.proofs.Math.Seq.{take-append-add}
use Rattle.hyd_num.specs.Numeral.{number}
use Rattle.hyd_num.proofs.Digits.{step, capped_rows}
use Rattle.hyd_num.proofs.numerals.front.Goals as goal

pub returns : goal.returns
returns c =
    let e : length c.args.whole.now + (c.saturating_sub-kept.result - length c.args.whole.now)
    ≡ length c.args.whole.now + length c.args.decimals.now - c.args.lost = omega arith in
    c.capped-3.ensures
    ∙ ap (λ x. min (fold step x (take (c.saturating_sub-kept.result - length c.args.whole.now) c.args.decimals.now))
    (10 ^ 21 + 1)) c.capped-2.ensures
    ∙ capped_rows (10 ^ 21 + 1) c.args.whole.now (take (c.saturating_sub-kept.result - length c.args.whole.now)
    c.args.decimals.now)
    ∙ ap (λ x. min (number x) (10 ^ 21 + 1)) (sym (take-append-add c.args.whole.now c.args.decimals.now
    (c.saturating_sub-kept.result - length c.args.whole.now)))
    ∙ ap (λ x. min (number (take x (c.args.whole.now ++ c.args.decimals.now))) (10 ^ 21 + 1)) e
