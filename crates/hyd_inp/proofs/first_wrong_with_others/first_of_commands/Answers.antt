use Rattle.hyd_spec_lines.specs.declared.section.Section.TheVariants.{Status, Controls, Rules}
use Rattle.hyd_spec_input.specs.SectionsAndTables.{is_of}
use Rattle.hyd_inp.specs.SectionsInJudgingOrder.{Both}
use Rattle.hyd_inp.proofs.FirstWrongAmongSections.{found_next}
use Rattle.hyd_inp.proofs.first_wrong_with_others.first_of_commands.Goals as goal

pub returns : goal.returns
returns c =
    let text = c.args.text.now.text in
    let lines = c.args.lines.now in
    found_next text lines (is_of Status) (Both (is_of Controls) (is_of Rules)) c.judge_status-status.result
    c.least.result c.least-2.result c.least-2.ensures c.judge_status-status.ensures
    (found_next text lines (is_of Controls) (is_of Rules) c.judge_controls-controls.result c.in_ok-rules.rules
    c.least.result c.least.ensures c.judge_controls-controls.ensures c.in_ok-rules.ensures)
