use Rattle.std.proofs.Common.{◌≡◌, true, sym, ◌∙◌}
use Rattle.hyd_spec_input.specs.TimesAndClockTimes as moments
use Rattle.hyd_option_and_rule_lines.proofs.SmallNumbers.{kept_million}
use Rattle.hyd_option_and_rule_lines.proofs.hours_minutes_seconds.hours.Goals as goal

pub returns-clause-some : goal.returns-clause-some
returns-clause-some c =
    let digits : moments.are_digits 6 c.args.part.now ≡ true = sym c.are_digits.ensures ∙ c.if-not-are_digits.false in
    let k = kept_million c.args.part.now c.number.result digits c.number.ensures in
    (digits, k.0, k.1)
