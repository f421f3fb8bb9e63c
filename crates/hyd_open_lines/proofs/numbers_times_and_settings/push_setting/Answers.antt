-- The whole part, a point and nine places are the setting.
use Rattle.std.proofs.Common.{ap, ◌∙◌, ◌++◌, ◌/◌, ◌^◌, append_assoc, decimal}
use Rattle.std.specs.Prelude.{codes}
use Rattle.hyd_num.specs.PrintedDecimals.{fixed_point, last_digits}
use Rattle.hyd_open_lines.proofs.numbers_times_and_settings.push_setting.Goals as goal

pub returns : goal.returns
unfolding fixed_point
returns c =
    let text = c.args.text.now in
    let n = c.args.billionths in
    c.push_last_digits.ensures.text ∙ (ap (λ t. t ++ last_digits 9 n) (c.push.ensures ∙ ap
    (λ t. t ++ codes ".") c.push_number.ensures.text)
    ∙ (append_assoc (text ++ decimal (n / 10 ^ 9)) (codes ".") (last_digits 9 n) ∙ append_assoc text (decimal
    (n / 10 ^ 9)) (codes "." ++ last_digits 9 n)))
