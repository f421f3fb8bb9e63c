use Rattle.std.proofs.Common.{◌+◌, drop, length, unwrap_or, ap, ◌∙◌}
use Rattle.hyd_num.specs.Numeral.{is_point}
use Rattle.hyd_num.proofs.Digits.{place_is}
use Rattle.hyd_num.proofs.numerals.behind_point.Goals as goal

pub returns : goal.returns
returns c = c.behind.ensures ∙ ap (λ x. drop (x + 1) c.args.text.now) (ap (λ o. unwrap_or o (length c.args.text.now))
    c.requires ∙ place_is is_point c.args.text.now)
