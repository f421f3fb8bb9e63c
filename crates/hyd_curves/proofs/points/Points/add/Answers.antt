use Rattle.std.proofs.Common.{◌≡◌, ℕ, List, Some, None, position, get_or, sym, ap, ◌∙◌, refl}
use Rattle.std.specs.Str.{bytes_eq}
use Rattle.hyd_spec_lines.specs.Lines.{row_of}
use Rattle.hyd_spec_lines.specs.declared.line.Line.{Line}
use Rattle.hyd_spec_lines.specs.declared.section.Section.TheVariants.{Junctions}
use Rattle.hyd_rows_and_tables.specs.RowsOfLines.{rows_at}
use Rattle.hyd_rows_and_tables.proofs.FirstWrongRowLemmas.{row_at}
use Rattle.hyd_curves.proofs.PointLemmas.{skip_row, add_row, curve_is_right, number_is_there, id_is, point_is}
use Rattle.hyd_curves.proofs.points.Points.add.Goals as goal

nothing : Line
nothing = record { number = 0; section = Junctions; from = 0; to = 0 }

pub returns-then-not-is_curves : goal.returns-then-not-is_curves
unfolding nothing
returns-then-not-is_curves c =
    let text = c.args.text.now.text in
    let lines = c.args.lines.now in
    skip_row (rows_at text lines) c.args.place _ c.args.curves.now.names c.args.self.now c.requires.gathered
    (row_at text lines c.args.place nothing c.requires.within) (sym c.is_curves.ensures ∙ c.if-not-is_curves.true)

pub returns-in_default : goal.returns-in_default
unfolding nothing
returns-in_default c =
    let text = c.args.text.now.text in
    let lines = c.args.lines.now in
    let right = curve_is_right (rows_at text lines) c.args.place _ c.requires.right
    (row_at text lines c.args.place nothing c.requires.within) (sym c.is_curves.ensures ∙ c.if-not-is_curves.false) in
    let e : None ≡ Some c.in_default.field-0 = sym right ∙ c.in_default.ensures in
    absurd (let x : ⊥ = cc in x)

pub returns-in_default-number : goal.returns-in_default-number
unfolding nothing
returns-in_default-number c =
    let text = c.args.text.now.text in
    let lines = c.args.lines.now in
    let names = c.args.curves.now.names in
    absurd (number_is_there text (rows_at text lines) c.args.place _ names c.args.curves.now.firsts.items
    c.requires.table (row_at text lines c.args.place nothing c.requires.within)
    (sym c.is_curves.ensures ∙ c.if-not-is_curves.false)
    (ap (λ (id : List ℕ). position (bytes_eq id) names) (id_is _ c.in-Ok.row c.in-Ok.ensures.1)
    ∙ sym c.number.ensures.value ∙ c.in_default-number.is))

pub returns : goal.returns
unfolding nothing
returns c =
    let text = c.args.text.now.text in
    let lines = c.args.lines.now in
    let names = c.args.curves.now.names in
    add_row (rows_at text lines) c.args.place _ names c.args.self.now _ c.in-Some.number _ c.requires.gathered
    (row_at text lines c.args.place nothing c.requires.within) (sym c.is_curves.ensures ∙ c.if-not-is_curves.false)
    (ap (λ (id : List ℕ). position (bytes_eq id) names) (id_is _ c.in-Ok.row c.in-Ok.ensures.1)
    ∙ sym c.number.ensures.value ∙ c.in-Some.is)
    (point_is _ c.in-Ok.row (row_of text (get_or lines c.args.place nothing)) refl c.in-Ok.ensures.1)
    c.in_ok-push_at.ensures
