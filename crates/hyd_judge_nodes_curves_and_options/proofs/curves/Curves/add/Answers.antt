use Rattle.std.proofs.Common.{◌+◌, List, [], ◌∷◌, length, take, sym, ap, ◌∙◌, arith, refl}
use Rattle.hyd_spec_lines.specs.declared.line.Line.{Line}
use Rattle.hyd_spec_lines.specs.declared.section.Section.TheVariants.{Junctions, Curves as InCurves}
use Rattle.hyd_spec_input.specs.Columns.{first}
use Rattle.hyd_spec_input.specs.SectionsAndTables.{rows_of}
use Rattle.hyd_spec_input.specs.FaultsWithOtherRows.{passes}
use Rattle.hyd_rows_and_tables.specs.RowsOfLines.{rows_at}
use Rattle.hyd_rows_and_tables.proofs.FirstWrongRowLemmas.{row_at}
use Rattle.hyd_judge_nodes_curves_and_options.proofs.CurveLemmas.{skip_row, add_row}
use Rattle.hyd_judge_nodes_curves_and_options.proofs.curves.Curves.add.Goals as goal

nothing : Line
nothing = record { number = 0; section = Junctions; from = 0; to = 0 }

pub returns-then-not-is_curves : goal.returns-then-not-is_curves
unfolding nothing
returns-then-not-is_curves c =
    let text = c.args.text.now.text in
    let lines = c.args.lines.now in
    skip_row text (rows_at text lines) c.args.place _ c.args.self.now c.requires.judged
    (row_at text lines c.args.place nothing c.requires.within) (sym c.is_curves.ensures ∙ c.if-not-is_curves.true)

pub overflow_add-self : goal.overflow_add-self
overflow_add-self c = omega (arith, c.requires.judged.small, c.requires.within, c.requires.few)

pub returns : goal.returns
unfolding nothing
returns c =
    let text = c.args.text.now.text in
    let lines = c.args.lines.now in
    let rows = rows_at text lines in
    let done = rows_of InCurves (take c.args.place rows) in
    add_row text rows c.args.place _ c.args.self.now _ _ c.fault-cause.result c.requires.judged
    (row_at text lines c.args.place nothing c.requires.within) (sym c.is_curves.ensures ∙ c.if-not-is_curves.false)
    (c.in_ok-add.ensures.table done c.requires.judged.table) (c.in_ok-add.ensures.new done c.requires.judged.table)
    c.in_ok-add.ensures.count c.in_ok-add.ensures.longer refl
    (c.fault-cause.ensures
    ∙ ap (λ (xs : List Line). first (passes 1000 9 (length xs) ∷ passes 100000 9 (c.args.self.now.count + 1) ∷ []))
    c.as_slice.ensures.value)
    c.kept-self.ensures
