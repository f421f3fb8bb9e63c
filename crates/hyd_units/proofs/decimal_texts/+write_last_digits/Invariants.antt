use Rattle.hyd_units.proofs.decimal_texts.+write_last_digits.Given as goal

abbrev pub decreases-write_last_digits : goal.decreases-write_last_digits
decreases-write_last_digits l = l.places
