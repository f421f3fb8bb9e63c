use Rattle.std.proofs.Common.{take, length, unwrap_or, ap, ◌∙◌}
use Rattle.hyd_num.specs.Numeral.{is_exponent_mark}
use Rattle.hyd_num.proofs.Digits.{place_is}
use Rattle.hyd_num.proofs.numerals.before_mark.Goals as goal

pub returns : goal.returns
returns c = c.before-2.ensures ∙ ap (λ x. take x c.args.text.now) (ap (λ o. unwrap_or o (length c.args.text.now))
    c.requires ∙ place_is is_exponent_mark c.args.text.now)
