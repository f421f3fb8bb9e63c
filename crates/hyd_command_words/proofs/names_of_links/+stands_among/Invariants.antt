use Rattle.hyd_command_words.proofs.names_of_links.+stands_among.Given as goal

abbrev pub decreases-stands_among : goal.decreases-stands_among
decreases-stands_among l = l.many
