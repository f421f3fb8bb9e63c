use Rattle.std.proofs.Common.{sym}
use Rattle.hyd_spec_input.specs.TimesAndClockTimes.{is_colon}
use Rattle.hyd_option_and_rule_lines.proofs.Colons.{split_at, not_split}
use Rattle.hyd_option_and_rule_lines.proofs.hours_minutes_seconds.split_colon.Goals as goal

pub returns-in_err-place-clause-none : goal.returns-in_err-place-clause-none
returns-in_err-place-clause-none c = rw c.from_residual.ensures
    (not_split is_colon c.args.word.now (sym c.in_err-place.ensures))

pub returns-then-place-word-clause-some : goal.returns-then-place-word-clause-some
returns-then-place-word-clause-some c = split_at is_colon c.args.word.now c.in_ok-place.place (sym
    c.in_ok-place.ensures)
