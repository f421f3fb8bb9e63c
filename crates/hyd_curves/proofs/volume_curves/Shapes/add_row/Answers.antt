use Rattle.std.proofs.Common.{◌≡◌, Some, None, All, get_or, sym, ap, ◌∙◌, subst, refl}
use Rattle.hyd_spec_lines.specs.WordsOfLines.{text_of}
use Rattle.hyd_spec_lines.specs.Lines.{row_of}
use Rattle.hyd_spec_lines.specs.declared.line.Line.{Line}
use Rattle.hyd_spec_lines.specs.declared.section.Section.TheVariants.{Junctions}
use Rattle.hyd_spec_input.specs.Curves.{volume_points}
use Rattle.hyd_spec_input.specs.Project.{shape_points}
use Rattle.hyd_rows_and_tables.specs.RowsOfLines.{rows_at}
use Rattle.hyd_rows_and_tables.proofs.FirstWrongRowLemmas.{row_at}
use Rattle.hyd_curves.specs.NamedVolumeCurves.{IsSmallVolume}
use Rattle.hyd_curves.specs.Points.{points_in}
use Rattle.hyd_curves.proofs.VolumeCurveLemmas.{skip_row, none_row, named_row, named_small, tank_is_right}
use Rattle.hyd_curves.proofs.volume_curves.Shapes.add_row.Goals as goal

nothing : Line
nothing = record { number = 0; section = Junctions; from = 0; to = 0 }

pub returns-then-not-is_tanks : goal.returns-then-not-is_tanks
unfolding nothing
returns-then-not-is_tanks c =
    let text = c.args.text.now.text in
    let lines = c.args.lines.now in
    skip_row (rows_at text lines) c.args.place _ c.args.self.now c.requires.shapes
    (row_at text lines c.args.place nothing c.requires.within) (sym c.is_tanks.ensures ∙ c.if-not-is_tanks.true)

pub returns-in_default : goal.returns-in_default
unfolding nothing
returns-in_default c =
    let text = c.args.text.now.text in
    let lines = c.args.lines.now in
    let right = tank_is_right (rows_at text lines) c.args.place _ c.requires.right
    (row_at text lines c.args.place nothing c.requires.within) (sym c.is_tanks.ensures ∙ c.if-not-is_tanks.false) in
    let e : None ≡ Some c.in_default.field-0 = sym right ∙ c.in_default.ensures in
    absurd (let x : ⊥ = cc in x)

pub returns-in_default-curve : goal.returns-in_default-curve
unfolding nothing
returns-in_default-curve c =
    let text = c.args.text.now.text in
    let lines = c.args.lines.now in
    let row = row_of text (get_or lines c.args.place nothing) in
    none_row (rows_at text lines) c.args.place row c.args.self.now c.requires.shapes
    (row_at text lines c.args.place nothing c.requires.within) (sym c.is_tanks.ensures ∙ c.if-not-is_tanks.false)
    (sym c.in-Ok.ensures.1.curve ∙ ap text_of c.in_default-curve.is)

pub add-requires-clause-small : goal.add-requires-clause-small
unfolding nothing
add-requires-clause-small c =
    let text = c.args.text.now.text in
    let lines = c.args.lines.now in
    let rows = rows_at text lines in
    let row = row_of text (get_or lines c.args.place nothing) in
    let small : All IsSmallVolume (shape_points rows c.in-Some.name.now) =
    named_small rows c.args.place row c.in-Some.name.now c.requires.with_others
    (row_at text lines c.args.place nothing c.requires.within) (sym c.is_tanks.ensures ∙ c.if-not-is_tanks.false)
    (sym c.in-Ok.ensures.1.curve ∙ ap text_of c.in-Some.is) in
    let same : volume_points c.is_us.result (points_in c.named.result.now) ≡ shape_points rows c.in-Some.name.now =
    rw (c.is_us.ensures, c.requires.unit, c.named.ensures rows c.requires.points) refl in
    subst (All IsSmallVolume) (sym same) small

pub returns : goal.returns
unfolding nothing
returns c =
    let text = c.args.text.now.text in
    let lines = c.args.lines.now in
    let rows = rows_at text lines in
    let row = row_of text (get_or lines c.args.place nothing) in
    let same : volume_points c.is_us.result (points_in c.named.result.now) ≡ shape_points rows c.in-Some.name.now =
    rw (c.is_us.ensures, c.requires.unit, c.named.ensures rows c.requires.points) refl in
    named_row rows c.args.place row c.in-Some.name.now c.args.self.now c.add.new.self c.requires.shapes
    (row_at text lines c.args.place nothing c.requires.within) (sym c.is_tanks.ensures ∙ c.if-not-is_tanks.false)
    (sym c.in-Ok.ensures.1.curve ∙ ap text_of c.in-Some.is) c.in_ok-add.ensures.names
    (c.in_ok-add.ensures.lists rows c.requires.shapes.lists same)
