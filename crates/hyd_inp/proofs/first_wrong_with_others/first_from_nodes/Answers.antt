use Rattle.hyd_spec_input.specs.SectionsAndTables.{is_node}
use Rattle.hyd_inp.specs.SectionsInJudgingOrder.{behind_nodes}
use Rattle.hyd_inp.proofs.FirstWrongAmongSections.{found_next}
use Rattle.hyd_inp.proofs.first_wrong_with_others.first_from_nodes.Goals as goal

pub returns-clause-found : goal.returns-clause-found
returns-clause-found c =
    found_next c.args.text.now.text c.args.lines.now is_node behind_nodes c.in_ok-nodes.nodes.found
    c.in_ok-behind.behind.found c.least.result c.least.ensures c.in_ok-nodes.ensures.found c.in_ok-behind.ensures.found
