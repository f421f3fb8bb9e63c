use Rattle.std.proofs.Common.{◌≡◌, ◌∷◌, [], All, get_or, take, sym, ap, ◌∙◌, subst, refl, append-nil}
use Rattle.hyd_num.specs.FileQuantity.{is_us_unit}
use Rattle.hyd_spec_lines.specs.WordsOfLines.{text_of}
use Rattle.hyd_spec_lines.specs.Lines.{row_of}
use Rattle.hyd_spec_lines.specs.declared.line.Line.{Line}
use Rattle.hyd_spec_lines.specs.declared.section.Section.TheVariants.{Junctions}
use Rattle.hyd_spec_input.specs.Curves.{head_points}
use Rattle.hyd_spec_input.specs.MeaningsAcrossRows.{as_list}
use Rattle.hyd_spec_input.specs.Project.{bend_points}
use Rattle.hyd_rows_and_tables.specs.RowsOfLines.{rows_at}
use Rattle.hyd_rows_and_tables.proofs.FirstWrongRowLemmas.{row_at}
use Rattle.hyd_curves.specs.NamedStraightLineCurves.{IsSmallHead, valve_names}
use Rattle.hyd_curves.specs.Points.{points_in}
use Rattle.hyd_curves.proofs.StraightLineCurveLemmas.{other_valve, next_valve, valve_as_before, valve_with_one}
use Rattle.hyd_curves.proofs.StraightLineCurveLemmas.{valve_small}
use Rattle.hyd_curves.proofs.straight_line_curves.Bends.add_valve.Goals as goal

nothing : Line
nothing = record { number = 0; section = Junctions; from = 0; to = 0 }

pub returns-then-not-is_valves : goal.returns-then-not-is_valves
unfolding nothing
returns-then-not-is_valves c =
    let text = c.args.text.now.text in
    let lines = c.args.lines.now in
    let rows = rows_at text lines in
    valve_as_before rows c.args.place c.args.self.now c.requires.bends
    (other_valve rows c.args.place (row_of text (get_or lines c.args.place nothing))
    (row_at text lines c.args.place nothing c.requires.within) (sym c.is_valves.ensures ∙ c.if-not-is_valves.true))

pub returns-in_default : goal.returns-in_default
unfolding nothing
returns-in_default c =
    let text = c.args.text.now.text in
    let lines = c.args.lines.now in
    let rows = rows_at text lines in
    valve_as_before rows c.args.place c.args.self.now c.requires.bends
    (next_valve rows c.args.place (row_of text (get_or lines c.args.place nothing)) []
    (row_at text lines c.args.place nothing c.requires.within) (sym c.is_valves.ensures ∙ c.if-not-is_valves.false)
    (ap as_list (sym c.valve_curve.ensures ∙ ap text_of c.in_default.is))
    ∙ append-nil (valve_names (take c.args.place rows)))

pub add-requires-clause-small : goal.add-requires-clause-small
unfolding nothing
add-requires-clause-small c =
    let text = c.args.text.now.text in
    let lines = c.args.lines.now in
    let rows = rows_at text lines in
    let small : All IsSmallHead (bend_points rows c.in-Some.name.now) =
    valve_small rows c.args.place (row_of text (get_or lines c.args.place nothing)) c.in-Some.name.now
    c.requires.with_others (row_at text lines c.args.place nothing c.requires.within)
    (sym c.is_valves.ensures ∙ c.if-not-is_valves.false) (sym c.valve_curve.ensures ∙ ap text_of c.in-Some.is) in
    let same : head_points c.args.unit (is_us_unit c.args.unit) (points_in c.named.result.now)
    ≡ bend_points rows c.in-Some.name.now = rw (c.requires.unit, c.named.ensures rows c.requires.points) refl in
    subst (All IsSmallHead) (sym same) small

pub returns : goal.returns
unfolding nothing
returns c =
    let text = c.args.text.now.text in
    let lines = c.args.lines.now in
    let rows = rows_at text lines in
    let same : head_points c.args.unit (is_us_unit c.args.unit) (points_in c.named.result.now)
    ≡ bend_points rows c.in-Some.name.now = rw (c.requires.unit, c.named.ensures rows c.requires.points) refl in
    valve_with_one rows c.args.place c.args.self.now c.add.new.self c.in-Some.name.now c.requires.bends
    (next_valve rows c.args.place (row_of text (get_or lines c.args.place nothing)) (c.in-Some.name.now ∷ [])
    (row_at text lines c.args.place nothing c.requires.within) (sym c.is_valves.ensures ∙ c.if-not-is_valves.false)
    (ap as_list (sym c.valve_curve.ensures ∙ ap text_of c.in-Some.is)))
    c.in_ok-add.ensures.names (c.in_ok-add.ensures.lists rows c.requires.bends.lists same)
