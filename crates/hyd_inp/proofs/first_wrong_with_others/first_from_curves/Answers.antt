use Rattle.hyd_spec_lines.specs.declared.section.Section.TheVariants.{Curves}
use Rattle.hyd_spec_input.specs.SectionsAndTables.{is_of}
use Rattle.hyd_inp.specs.SectionsInJudgingOrder.{from_nodes}
use Rattle.hyd_inp.proofs.FirstWrongAmongSections.{found_next}
use Rattle.hyd_inp.proofs.first_wrong_with_others.first_from_curves.Goals as goal

pub returns-clause-found : goal.returns-clause-found
returns-clause-found c =
    found_next c.args.text.now.text c.args.lines.now (is_of Curves) from_nodes c.in_ok-curves.curves.found
    c.in_ok-behind.behind.found c.least.result c.least.ensures c.in_ok-curves.ensures.found c.in_ok-behind.ensures.found
