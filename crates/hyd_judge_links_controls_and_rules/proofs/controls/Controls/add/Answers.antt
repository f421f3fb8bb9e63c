use Rattle.std.proofs.Common.{◌≡◌, get_or, true, refl, sym, ◌∙◌, subst}
use Rattle.hyd_spec_lines.specs.Lines.{Row, row_of}
use Rattle.hyd_spec_lines.specs.declared.line.Line.{Line}
use Rattle.hyd_spec_lines.specs.declared.section.Section.TheVariants.{Junctions, Controls}
use Rattle.hyd_spec_input.specs.SectionsAndTables.{is_of}
use Rattle.hyd_rows_and_tables.specs.RowsOfLines.{rows_at}
use Rattle.hyd_rows_and_tables.proofs.FirstWrongRowLemmas.{row_at}
use Rattle.hyd_judge_links_controls_and_rules.proofs.ControlLemmas.{skip_row, add_row}
use Rattle.hyd_judge_links_controls_and_rules.proofs.controls.Controls.add.Goals as goal

nothing : Line
nothing = record { number = 0; section = Junctions; from = 0; to = 0 }

pub returns-then-not-is_controls : goal.returns-then-not-is_controls
unfolding nothing
returns-then-not-is_controls c =
    let text = c.args.text.now.text in
    let lines = c.args.lines.now in
    skip_row (rows_at text lines) c.args.place _ c.args.self.now c.requires.judged
    (row_at text lines c.args.place nothing c.requires.within) (sym c.is_controls.ensures ∙ c.if-not-is_controls.true)

pub control_fault-cause-requires-clause-member : goal.control_fault-cause-requires-clause-member
unfolding nothing
control_fault-cause-requires-clause-member c = λ row is.
    let text = c.args.text.now.text in
    let lines = c.args.lines.now in
    let here = row_of text (get_or lines c.args.place nothing) in
    let at = row_at text lines c.args.place nothing c.requires.within in
    let same : here ≡ row = cc in
    let P : Row → Type 0 = λ r. is_of Controls r ≡ true in
    subst P same (sym c.is_controls.ensures ∙ c.if-not-is_controls.false)

pub returns : goal.returns
unfolding nothing
returns c =
    let text = c.args.text.now.text in
    let lines = c.args.lines.now in
    let at = row_at text lines c.args.place nothing c.requires.within in
    add_row (rows_at text lines) c.args.place _ c.args.self.now _ c.control_fault-cause.result c.requires.judged at
    (sym c.is_controls.ensures ∙ c.if-not-is_controls.false) refl (c.control_fault-cause.ensures _ at)
    c.kept-self.ensures
