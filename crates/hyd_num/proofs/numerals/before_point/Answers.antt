use Rattle.std.proofs.Common.{take, length, unwrap_or, ap, ◌∙◌}
use Rattle.hyd_num.specs.Numeral.{is_point}
use Rattle.hyd_num.proofs.Digits.{place_is}
use Rattle.hyd_num.proofs.numerals.before_point.Goals as goal

pub returns : goal.returns
returns c = c.before-2.ensures ∙ ap (λ x. take x c.args.text.now) (ap (λ o. unwrap_or o (length c.args.text.now))
    c.requires ∙ place_is is_point c.args.text.now)
