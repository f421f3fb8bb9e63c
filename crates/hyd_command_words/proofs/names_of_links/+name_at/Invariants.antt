use Rattle.hyd_command_words.proofs.names_of_links.+name_at.Given as goal

abbrev pub decreases-name_at : goal.decreases-name_at
decreases-name_at l = l.place
