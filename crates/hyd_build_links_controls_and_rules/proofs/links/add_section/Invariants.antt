use Rattle.std.proofs.Common.{List}
use Rattle.hyd_spec_lines.specs.Lines.{Row}
use Rattle.hyd_spec_input.specs.Project.{IsLink, Match}
use Rattle.hyd_build_links_controls_and_rules.specs.LinksBuiltSoFar.{AreBuilt}
use Rattle.hyd_build_links_controls_and_rules.specs.RowsToBuildLinksFrom.{rows_from}
use Rattle.hyd_build_links_controls_and_rules.proofs.links.add_section.Given as goal

abbrev pub invariant-loop-place : goal.invariant-loop-place
invariant-loop-place l = (before : List Row)
    → Match (IsLink (rows_from l.text.text l.given)) before l.initial.links.list
    → AreBuilt (rows_from l.text.text l.given) before l.section l.place l.links.list
