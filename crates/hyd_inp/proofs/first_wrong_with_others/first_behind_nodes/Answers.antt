use Rattle.hyd_spec_lines.specs.declared.section.Section.TheVariants.{Demands, Emitters}
use Rattle.hyd_spec_input.specs.SectionsAndTables.{is_of}
use Rattle.hyd_inp.specs.SectionsInJudgingOrder.{Both, from_links}
use Rattle.hyd_inp.proofs.FirstWrongAmongSections.{found_next}
use Rattle.hyd_inp.proofs.first_wrong_with_others.first_behind_nodes.Goals as goal

pub returns-clause-found : goal.returns-clause-found
returns-clause-found c =
    let text = c.args.text.now.text in
    let lines = c.args.lines.now in
    found_next text lines (is_of Demands) (Both (is_of Emitters) from_links) c.judge_demands-demands.result.found
    c.least.result c.least-2.result c.least-2.ensures c.judge_demands-demands.ensures
    (found_next text lines (is_of Emitters) from_links c.judge_emitters-emitters.result c.in_ok-behind.behind.found
    c.least.result c.least.ensures c.judge_emitters-emitters.ensures c.in_ok-behind.ensures.found)
