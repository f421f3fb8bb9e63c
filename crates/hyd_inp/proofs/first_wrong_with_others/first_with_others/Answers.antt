use Rattle.std.proofs.Common.{length}
use Rattle.hyd_spec_lines.specs.declared.section.Section.TheVariants.{Options, Patterns}
use Rattle.hyd_spec_input.specs.SectionsAndTables.{is_of}
use Rattle.hyd_rows_and_tables.specs.RowsOfLines.{rows_at}
use Rattle.hyd_inp.specs.SectionsInJudgingOrder.{Both, from_curves}
use Rattle.hyd_inp.proofs.FirstWrongAmongSections.{found_next, found_all}
use Rattle.hyd_inp.proofs.first_wrong_with_others.first_with_others.Goals as goal

pub returns-clause-found : goal.returns-clause-found
returns-clause-found c =
    let text = c.args.text.now.text in
    let lines = c.args.lines.now in
    found_all (rows_at text lines) (length lines) c.least-2.result
    (found_next text lines (is_of Options) (Both (is_of Patterns) from_curves) c.judge_options-options.result
    c.least.result c.least-2.result c.least-2.ensures c.judge_options-options.ensures
    (found_next text lines (is_of Patterns) from_curves c.in_ok-patterns.patterns.found c.in_ok-behind.behind.found
    c.least.result c.least.ensures c.in_ok-patterns.ensures.found c.in_ok-behind.ensures.found))
