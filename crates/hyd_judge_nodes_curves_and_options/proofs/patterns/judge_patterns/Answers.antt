use Rattle.std.proofs.Common.{arith, length, sym}
use Rattle.hyd_rows_and_tables.specs.RowsOfLines.{rows_at}
use Rattle.hyd_rows_and_tables.proofs.WrongInSectionLemmas.{all_rows}
use Rattle.hyd_judge_nodes_curves_and_options.proofs.ExtremeLemmas.{patterns_of}
use Rattle.hyd_judge_nodes_curves_and_options.proofs.patterns.judge_patterns.Goals as goal

pub returns-clause-patterns : goal.returns-clause-patterns
returns-clause-patterns c =
    let text = c.args.text.now.text in
    let lines = c.args.lines.now in
    patterns_of text (rows_at text lines) (length lines) _ (sym (all_rows text lines (length lines) (omega arith)))
    c.in_ok-table.ensures.table c.in_ok-extremes.ensures
