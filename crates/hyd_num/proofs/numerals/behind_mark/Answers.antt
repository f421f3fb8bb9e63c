use Rattle.std.proofs.Common.{◌+◌, drop, length, unwrap_or, ap, ◌∙◌}
use Rattle.hyd_num.specs.Numeral.{is_exponent_mark}
use Rattle.hyd_num.proofs.Digits.{place_is}
use Rattle.hyd_num.proofs.numerals.behind_mark.Goals as goal

pub returns : goal.returns
returns c = c.behind.ensures ∙ ap (λ x. drop (x + 1) c.args.text.now) (ap (λ o. unwrap_or o (length c.args.text.now))
    c.requires ∙ place_is is_exponent_mark c.args.text.now)
