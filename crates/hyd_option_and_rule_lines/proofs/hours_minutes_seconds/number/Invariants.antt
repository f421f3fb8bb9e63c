use Rattle.std.proofs.Common.{◌≡◌, min, take}
use Rattle.hyd_num.specs.Numeral as numeral
use Rattle.hyd_option_and_rule_lines.proofs.hours_minutes_seconds.number.Given as goal

abbrev pub invariant-loop-digit : goal.invariant-loop-digit
invariant-loop-digit l = l.number ≡ min (numeral.number (take l.digit-index l.digits)) 1000000
