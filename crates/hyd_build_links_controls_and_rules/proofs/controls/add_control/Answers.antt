use Rattle.std.proofs.Common.{◌≡◌, true, get_or, sym, ◌∙◌, subst}
use Rattle.hyd_spec_lines.specs.Lines.{Row, row_of}
use Rattle.hyd_spec_lines.specs.declared.line.Line.{Line}
use Rattle.hyd_spec_lines.specs.declared.section.Section.TheVariants.{Junctions, Controls}
use Rattle.hyd_spec_input.specs.SectionsAndTables.{is_of}
use Rattle.hyd_rows_and_tables.specs.RowsOfLines.{rows_at}
use Rattle.hyd_rows_and_tables.proofs.FirstWrongRowLemmas.{row_at}
use Rattle.hyd_build_links_controls_and_rules.proofs.ControlLemmas.{built_same, built_more}
use Rattle.hyd_build_links_controls_and_rules.proofs.controls.add_control.Goals as goal

nothing : Line
nothing = record { number = 0; section = Junctions; from = 0; to = 0 }

pub returns-then-not-is_controls : goal.returns-then-not-is_controls
unfolding nothing
returns-then-not-is_controls c =
    let text = c.args.text.now.text in
    let lines = c.args.lines.now in
    built_same (rows_at text lines) c.args.place _ c.args.list.now.list c.requires.built
    (row_at text lines c.args.place nothing c.requires.within) (sym c.is_controls.ensures ∙ c.if-not-is_controls.true)

pub control_of-requires-clause-member : goal.control_of-requires-clause-member
unfolding nothing
control_of-requires-clause-member c = λ row is.
    let text = c.args.text.now.text in
    let lines = c.args.lines.now in
    let here = row_of text (get_or lines c.args.place nothing) in
    let at = row_at text lines c.args.place nothing c.requires.within in
    let same : here ≡ row = cc in
    let P : Row → Type 0 = λ r. is_of Controls r ≡ true in
    subst P same (sym c.is_controls.ensures ∙ c.if-not-is_controls.false)

pub returns : goal.returns
unfolding nothing
returns c =
    let text = c.args.text.now.text in
    let lines = c.args.lines.now in
    let here = row_of text (get_or lines c.args.place nothing) in
    let at = row_at text lines c.args.place nothing c.requires.within in
    built_more (rows_at text lines) c.args.place here c.args.list.now.list c.push.new.self.list c.control_of.result
    c.requires.built at (sym c.is_controls.ensures ∙ c.if-not-is_controls.false) (c.control_of.ensures here at)
    c.in_ok-push.ensures.ok
