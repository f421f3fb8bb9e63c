use Rattle.std.proofs.Common.{◌≡◌, ℕ, List, Some, None, position, get_or, arith, sym, ap, ◌∙◌}
use Rattle.std.specs.Str.{bytes_eq}
use Rattle.hyd_spec_lines.specs.Lines.{row_of}
use Rattle.hyd_spec_lines.specs.declared.line.Line.{Line}
use Rattle.hyd_spec_lines.specs.declared.section.Section.TheVariants.{Junctions, Emitters}
use Rattle.hyd_theorems_on_input.proofs.OccurrencesOfNames.{number_inside}
use Rattle.hyd_rows_and_tables.specs.RowsOfLines.{rows_at}
use Rattle.hyd_rows_and_tables.proofs.FirstWrongRowLemmas.{row_at}
use Rattle.hyd_build_nodes_patterns_and_options.proofs.RowsWithoutFault.{alone}
use Rattle.hyd_build_nodes_patterns_and_options.proofs.EmitterLemmas.{skip_row, add_row, id_is, junction_there, not_negative, at_most}
use Rattle.hyd_build_nodes_patterns_and_options.proofs.EmitterLemmas.{accepted, emitter_is}
use Rattle.hyd_build_nodes_patterns_and_options.proofs.emitters.add_row.Goals as goal

nothing : Line
nothing = record { number = 0; section = Junctions; from = 0; to = 0 }

pub returns-then-not-is_emitters : goal.returns-then-not-is_emitters
unfolding nothing
returns-then-not-is_emitters c =
    let rows = rows_at c.args.text.now.text c.args.lines.now in
    skip_row rows c.args.place _ c.args.nodes.now.names c.args.emitters.now.items c.requires.gathered
    (row_at c.args.text.now.text c.args.lines.now c.args.place nothing c.requires.within)
    (sym c.is_emitters.ensures ∙ c.if-not-is_emitters.true)

pub returns-in_default : goal.returns-in_default
unfolding nothing
returns-in_default c =
    let rows = rows_at c.args.text.now.text c.args.lines.now in
    let right = alone Emitters rows c.args.place _ c.requires.by_itself
    (row_at c.args.text.now.text c.args.lines.now c.args.place nothing c.requires.within)
    (sym c.is_emitters.ensures ∙ c.if-not-is_emitters.false) in
    let e : None ≡ Some c.in_default.field-0 = sym right ∙ c.in_default.ensures in
    absurd (let x : ⊥ = cc in x)

pub returns-in_default-number : goal.returns-in_default-number
unfolding nothing
returns-in_default-number c =
    let text = c.args.text.now.text in
    let rows = rows_at text c.args.lines.now in
    absurd (junction_there text rows c.args.place _ c.in-Ok.row c.args.nodes.now.names c.args.nodes.now.firsts.items
    c.requires.with_others (row_at text c.args.lines.now c.args.place nothing c.requires.within)
    (sym c.is_emitters.ensures ∙ c.if-not-is_emitters.false) c.requires.nodes c.in-Ok.ensures.1
    (sym c.number.ensures.value ∙ c.in_default-number.is))

pub emitter_of-requires-clause-not_negative : goal.emitter_of-requires-clause-not_negative
unfolding nothing
emitter_of-requires-clause-not_negative c =
    let text = c.args.text.now.text in
    not_negative (rows_at text c.args.lines.now) c.args.place _ c.in-Ok.row c.requires.by_itself
    (row_at text c.args.lines.now c.args.place nothing c.requires.within)
    (sym c.is_emitters.ensures ∙ c.if-not-is_emitters.false) c.in-Ok.ensures.1

pub emitter_of-requires-clause-at_most : goal.emitter_of-requires-clause-at_most
unfolding nothing
emitter_of-requires-clause-at_most c =
    let text = c.args.text.now.text in
    at_most (rows_at text c.args.lines.now) c.args.place _ c.in-Ok.row c.requires.by_itself
    (row_at text c.args.lines.now c.args.place nothing c.requires.within)
    (sym c.is_emitters.ensures ∙ c.if-not-is_emitters.false) c.in-Ok.ensures.1

pub emitter_of-requires-clause-accepted : goal.emitter_of-requires-clause-accepted
unfolding nothing
emitter_of-requires-clause-accepted c =
    let text = c.args.text.now.text in
    accepted (rows_at text c.args.lines.now) c.args.place _ c.in-Ok.row c.args.unit c.requires.with_others
    (row_at text c.args.lines.now c.args.place nothing c.requires.within)
    (sym c.is_emitters.ensures ∙ c.if-not-is_emitters.false) c.requires.unit c.in-Ok.ensures.1

pub returns : goal.returns
unfolding nothing
returns c =
    let text = c.args.text.now.text in
    let rows = rows_at text c.args.lines.now in
    let names = c.args.nodes.now.names in
    let there = sym c.number.ensures.value ∙ c.in-Some.is in
    add_row rows c.args.place _ names c.args.emitters.now.items c.in-Some.number c.emitter_of.result
    c.requires.gathered (row_at text c.args.lines.now c.args.place nothing c.requires.within)
    (sym c.is_emitters.ensures ∙ c.if-not-is_emitters.false)
    (ap (λ (id : List ℕ). position (bytes_eq id) names) (id_is _ c.in-Ok.row c.in-Ok.ensures.1) ∙ there)
    (omega (arith, number_inside names c.in-Ok.row.junction.now c.in-Some.number there, c.requires.gathered.even))
    (emitter_is rows (row_of text (get_or c.args.lines.now c.args.place nothing)) c.in-Ok.row c.args.unit
    c.emitter_of.result c.requires.unit c.in-Ok.ensures.1 c.emitter_of.ensures)
