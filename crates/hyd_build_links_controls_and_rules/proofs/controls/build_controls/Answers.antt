use Rattle.std.proofs.Common.{List, subst}
use Rattle.hyd_spec_lines.specs.Lines.{Row}
use Rattle.hyd_spec_lines.specs.declared.section.Section.TheVariants.{Controls}
use Rattle.hyd_spec_input.specs.Project.{Match, IsControl}
use Rattle.hyd_spec_input.specs.SectionsAndTables.{words_of}
use Rattle.hyd_rows_and_tables.specs.RowsOfLines.{rows_at}
use Rattle.hyd_rows_and_tables.proofs.WrongInSectionLemmas.{all_rows}
use Rattle.hyd_build_links_controls_and_rules.proofs.controls.build_controls.Goals as goal

pub returns : goal.returns
returns c =
    let text = c.args.text.now.text in
    let lines = c.args.lines.now in
    let rows = rows_at text lines in
    let P : List Row → Type 0 = λ rs. Match (IsControl rows) (words_of Controls rs) c.loop-place.list.list in
    subst P (all_rows text lines c.loop-place.place c.loop-place-test.false) c.loop-place.invariant
