use Rattle.std.proofs.Common.{◌≡◌, Some, None, All, get_or, take, true, false, sym, ◌∙◌, subst, refl, append-nil}
use Rattle.hyd_num.specs.FileQuantity.{is_us_unit}
use Rattle.hyd_spec_lines.specs.Lines.{row_of}
use Rattle.hyd_spec_lines.specs.declared.line.Line.{Line}
use Rattle.hyd_spec_lines.specs.declared.section.Section.TheVariants.{Junctions}
use Rattle.hyd_spec_input.specs.Curves.{head_points}
use Rattle.hyd_spec_input.specs.Project.{bend_points}
use Rattle.hyd_spec_input.specs.SectionsAndTables.{curve_named}
use Rattle.hyd_rows_and_tables.specs.RowsOfLines.{rows_at}
use Rattle.hyd_rows_and_tables.proofs.FirstWrongRowLemmas.{row_at}
use Rattle.hyd_curves.specs.NamedStraightLineCurves.{IsSmallHead, pump_names}
use Rattle.hyd_curves.specs.Points.{points_in}
use Rattle.hyd_curves.proofs.StraightLineCurveLemmas.{other_pump, next_pump, as_before, with_one, pump_small}
use Rattle.hyd_curves.proofs.StraightLineCurveLemmas.{pump_is_right}
use Rattle.hyd_curves.proofs.StraightLineCurveLemmas.{many_points, few}
use Rattle.hyd_curves.proofs.straight_line_curves.Bends.add_pump.Goals as goal

nothing : Line
nothing = record { number = 0; section = Junctions; from = 0; to = 0 }

pub returns-then-not-is_pumps : goal.returns-then-not-is_pumps
unfolding nothing
returns-then-not-is_pumps c =
    let text = c.args.text.now.text in
    let lines = c.args.lines.now in
    let rows = rows_at text lines in
    as_before rows (pump_names rows (take c.args.place rows)) _ c.args.place c.args.self.now c.requires.bends
    (other_pump rows c.args.place (row_of text (get_or lines c.args.place nothing))
    (row_at text lines c.args.place nothing c.requires.within) (sym c.is_pumps.ensures ∙ c.if-not-is_pumps.true))

pub returns-in_default : goal.returns-in_default
unfolding nothing
returns-in_default c =
    let text = c.args.text.now.text in
    let lines = c.args.lines.now in
    let right = pump_is_right (rows_at text lines) c.args.place _ c.requires.right
    (row_at text lines c.args.place nothing c.requires.within) (sym c.is_pumps.ensures ∙ c.if-not-is_pumps.false) in
    let e : None ≡ Some c.in_default.field-0 = sym right ∙ c.in_default.ensures in
    absurd (let x : ⊥ = cc in x)

pub returns-then-points-lt4 : goal.returns-then-points-lt4
unfolding nothing
returns-then-points-lt4 c =
    let text = c.args.text.now.text in
    let lines = c.args.lines.now in
    let rows = rows_at text lines in
    as_before rows (pump_names rows (take c.args.place rows)) _ c.args.place c.args.self.now c.requires.bends
    (next_pump rows c.args.place (row_of text (get_or lines c.args.place nothing)) c.in-Ok.row.curve.now false
    (row_at text lines c.args.place nothing c.requires.within) (sym c.is_pumps.ensures ∙ c.if-not-is_pumps.false)
    c.in-Ok.ensures.1.curve
    (few c.named-points.result.now (curve_named rows c.in-Ok.row.curve.now)
    (c.named-points.ensures rows c.requires.points) c.if-points-lt4.true)
    ∙ append-nil (pump_names rows (take c.args.place rows)))

pub add-requires-clause-small : goal.add-requires-clause-small
unfolding nothing
add-requires-clause-small c =
    let text = c.args.text.now.text in
    let lines = c.args.lines.now in
    let rows = rows_at text lines in
    let row = row_of text (get_or lines c.args.place nothing) in
    let named = c.named-points.ensures rows c.requires.points in
    let small : All IsSmallHead (bend_points rows c.in-Ok.row.curve.now) =
    pump_small rows c.args.place row c.in-Ok.row.curve.now c.requires.with_others
    (row_at text lines c.args.place nothing c.requires.within) (sym c.is_pumps.ensures ∙ c.if-not-is_pumps.false)
    c.in-Ok.ensures.1.curve
    (many_points c.named-points.result.now (curve_named rows c.in-Ok.row.curve.now) named c.if-points-lt4.false) in
    let same : head_points c.args.unit (is_us_unit c.args.unit) (points_in c.named-points.result.now)
    ≡ bend_points rows c.in-Ok.row.curve.now = rw (c.requires.unit, named) refl in
    subst (All IsSmallHead) (sym same) small

pub returns : goal.returns
unfolding nothing
returns c =
    let text = c.args.text.now.text in
    let lines = c.args.lines.now in
    let rows = rows_at text lines in
    let row = row_of text (get_or lines c.args.place nothing) in
    let named = c.named-points.ensures rows c.requires.points in
    let same : head_points c.args.unit (is_us_unit c.args.unit) (points_in c.named-points.result.now)
    ≡ bend_points rows c.in-Ok.row.curve.now = rw (c.requires.unit, named) refl in
    with_one rows (pump_names rows (take c.args.place rows)) _ c.args.place c.args.self.now c.add.new.self
    c.in-Ok.row.curve.now c.requires.bends
    (next_pump rows c.args.place row c.in-Ok.row.curve.now true
    (row_at text lines c.args.place nothing c.requires.within) (sym c.is_pumps.ensures ∙ c.if-not-is_pumps.false)
    c.in-Ok.ensures.1.curve
    (many_points c.named-points.result.now (curve_named rows c.in-Ok.row.curve.now) named c.if-points-lt4.false))
    c.in_ok-add.ensures.names (c.in_ok-add.ensures.lists rows c.requires.bends.lists same)
