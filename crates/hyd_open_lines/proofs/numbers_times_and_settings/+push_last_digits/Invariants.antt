use Rattle.hyd_open_lines.proofs.numbers_times_and_settings.+push_last_digits.Given as goal

abbrev pub decreases-push_last_digits : goal.decreases-push_last_digits
decreases-push_last_digits l = l.places
