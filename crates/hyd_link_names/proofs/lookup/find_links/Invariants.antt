use Rattle.hyd_command_words.specs.CommandView.{names_seen}
use Rattle.hyd_link_names.proofs.LinksOfNames.{Found}
use Rattle.hyd_link_names.proofs.lookup.find_links.Given as goal

-- the links of the names so far
abbrev pub invariant-loop-place : goal.invariant-loop-place
invariant-loop-place l = Found l.project (names_seen l.names) l.place l.links
