use Rattle.std.proofs.Common.{length, unwrap_or, ap, ◌∙◌}
use Rattle.hyd_spec_lines.specs.WordsOfLines.{is_line_feed}
use Rattle.hyd_num.proofs.Digits.{place_is}
use Rattle.hyd_spread_rows.proofs.lines.line_length.Goals as goal

pub returns-in-None : goal.returns-in-None
returns-in-None c = ap (λ o. unwrap_or o (length c.args.text.now)) c.in-None.ensures
    ∙ place_is is_line_feed c.args.text.now
