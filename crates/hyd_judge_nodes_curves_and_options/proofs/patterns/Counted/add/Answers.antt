use Rattle.std.proofs.Common.{List, [], ◌∷◌, length, take, sym, ap, ◌∙◌}
use Rattle.hyd_spec_lines.specs.declared.line.Line.{Line}
use Rattle.hyd_spec_lines.specs.declared.section.Section.TheVariants.{Junctions, Patterns as InPatterns}
use Rattle.hyd_spec_input.specs.Columns.{first}
use Rattle.hyd_spec_input.specs.SectionsAndTables.{rows_of}
use Rattle.hyd_spec_input.specs.FaultsWithOtherRows.{passes}
use Rattle.hyd_rows_and_tables.specs.RowsOfLines.{rows_at}
use Rattle.hyd_rows_and_tables.proofs.FirstWrongRowLemmas.{row_at}
use Rattle.hyd_judge_nodes_curves_and_options.proofs.PatternLemmas.{skip_row, add_row}
use Rattle.hyd_judge_nodes_curves_and_options.proofs.patterns.Counted.add.Goals as goal

nothing : Line
nothing = record { number = 0; section = Junctions; from = 0; to = 0 }

pub returns-then-not-is_patterns : goal.returns-then-not-is_patterns
unfolding nothing
returns-then-not-is_patterns c =
    let text = c.args.text.now.text in
    let lines = c.args.lines.now in
    skip_row text (rows_at text lines) c.args.place _ c.args.self.now c.requires.judged
    (row_at text lines c.args.place nothing c.requires.within) (sym c.is_patterns.ensures ∙ c.if-not-is_patterns.true)

pub returns : goal.returns
unfolding nothing
returns c =
    let text = c.args.text.now.text in
    let lines = c.args.lines.now in
    let rows = rows_at text lines in
    let done = rows_of InPatterns (take c.args.place rows) in
    add_row text rows c.args.place _ c.args.self.now _ _ c.multipliers.result c.fault-cause.result c.requires.judged
    (row_at text lines c.args.place nothing c.requires.within) (sym c.is_patterns.ensures ∙ c.if-not-is_patterns.false)
    (c.in_ok-add.ensures.table done c.requires.judged.table) (c.in_ok-add.ensures.new done c.requires.judged.table)
    c.in_ok-add.ensures.count c.in_ok-add.ensures.longer c.multipliers.ensures c.sum_counted-self.ensures
    (c.fault-cause.ensures
    ∙ ap (λ (xs : List Line). first (passes 1000 8 (length xs) ∷ passes 1000000 8 c.sum_counted-self.result ∷ []))
    c.as_slice.ensures.value)
    c.kept-self.ensures
