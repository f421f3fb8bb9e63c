use Rattle.hyd_command_words.proofs.names_of_links.+are_names.Given as goal

abbrev pub decreases-are_names : goal.decreases-are_names
decreases-are_names l = l.most
