use Rattle.hyd_units.proofs.decimal_texts.+write_whole.Given as goal

abbrev pub decreases-write_whole : goal.decreases-write_whole
decreases-write_whole l = l.n
