use Rattle.hyd_spec_input.specs.SectionsAndTables.{is_link}
use Rattle.hyd_inp.specs.SectionsInJudgingOrder.{commands}
use Rattle.hyd_inp.proofs.FirstWrongAmongSections.{found_next}
use Rattle.hyd_inp.proofs.first_wrong_with_others.first_from_links.Goals as goal

pub returns-clause-found : goal.returns-clause-found
returns-clause-found c =
    found_next c.args.text.now.text c.args.lines.now is_link commands c.in_ok-links.links.found
    c.in_ok-commands.commands c.least.result c.least.ensures c.in_ok-links.ensures.found c.in_ok-commands.ensures
