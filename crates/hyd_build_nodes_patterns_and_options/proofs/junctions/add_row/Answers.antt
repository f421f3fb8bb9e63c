use Rattle.std.proofs.Common.{◌≡◌, ℕ, List, Some, None, position, sym, ap, subst, ◌∙◌}
use Rattle.std.specs.Str.{bytes_eq}
use Rattle.std.proofs.lemmas.List.{length-map}
use Rattle.hyd_spec_lines.specs.Lines.{row_of}
use Rattle.hyd_spec_lines.specs.declared.line.Line.{Line}
use Rattle.hyd_spec_lines.specs.declared.section.Section.TheVariants.{Junctions}
use Rattle.hyd_spec_input.specs.Project.{IsJunction}
use Rattle.hyd_theorems_on_input.proofs.OccurrencesOfNames.{number_inside}
use Rattle.hyd_rows_and_tables.specs.RowsOfLines.{rows_at}
use Rattle.hyd_rows_and_tables.proofs.FirstWrongRowLemmas.{row_at}
use Rattle.hyd_build_nodes_patterns_and_options.specs.WholeJunctions.{AreParts}
use Rattle.hyd_build_nodes_patterns_and_options.proofs.RowsWithoutFault.{alone, built_same}
use Rattle.hyd_build_nodes_patterns_and_options.proofs.JunctionLemmas.{id_is, id_there, elevation_is_small, base_is_small, junction_more}
use Rattle.hyd_build_nodes_patterns_and_options.proofs.junctions.add_row.Goals as goal

nothing : Line
nothing = record { number = 0; section = Junctions; from = 0; to = 0 }

pub returns-then-not-is_junctions : goal.returns-then-not-is_junctions
unfolding nothing
returns-then-not-is_junctions c =
    let rows = rows_at c.args.text.now.text c.args.lines.now in
    built_same Junctions (IsJunction rows) rows c.args.place _ c.args.list.now.list c.requires.built
    (row_at c.args.text.now.text c.args.lines.now c.args.place nothing c.requires.within)
    (sym c.is_junctions.ensures ∙ c.if-not-is_junctions.true)

pub returns-in_default : goal.returns-in_default
unfolding nothing
returns-in_default c =
    let rows = rows_at c.args.text.now.text c.args.lines.now in
    let right = alone Junctions rows c.args.place _ c.requires.by_itself
    (row_at c.args.text.now.text c.args.lines.now c.args.place nothing c.requires.within)
    (sym c.is_junctions.ensures ∙ c.if-not-is_junctions.false) in
    let e : None ≡ Some c.in_default.field-0 = sym right ∙ c.in_default.ensures in
    absurd (let x : ⊥ = cc in x)

pub returns-in_default-number : goal.returns-in_default-number
unfolding nothing
returns-in_default-number c =
    let text = c.args.text.now.text in
    let rows = rows_at text c.args.lines.now in
    let nodes = c.args.parts.now.nodes.now in
    absurd (id_there text rows c.args.place _ c.in-Ok.row nodes.names nodes.firsts.items
    (row_at text c.args.lines.now c.args.place nothing c.requires.within)
    (sym c.is_junctions.ensures ∙ c.if-not-is_junctions.false) c.requires.parts.nodes c.in-Ok.ensures.1
    (sym c.number.ensures.value ∙ c.in_default-number.is))

pub junction_by-requires-clause-elevation : goal.junction_by-requires-clause-elevation
unfolding nothing
junction_by-requires-clause-elevation c =
    let text = c.args.text.now.text in
    let rows = rows_at text c.args.lines.now in
    elevation_is_small rows c.args.place _ c.in-Ok.row c.args.parts.now.unit c.requires.with_others
    (row_at text c.args.lines.now c.args.place nothing c.requires.within)
    (sym c.is_junctions.ensures ∙ c.if-not-is_junctions.false) c.requires.parts.unit_is c.in-Ok.ensures.1

pub junction_by-requires-clause-base : goal.junction_by-requires-clause-base
unfolding nothing
junction_by-requires-clause-base c =
    let text = c.args.text.now.text in
    let rows = rows_at text c.args.lines.now in
    base_is_small rows c.args.place _ c.in-Ok.row c.args.parts.now.unit c.requires.with_others
    (row_at text c.args.lines.now c.args.place nothing c.requires.within)
    (sym c.is_junctions.ensures ∙ c.if-not-is_junctions.false) c.requires.parts.unit_is c.in-Ok.ensures.1

pub returns : goal.returns
unfolding nothing
returns c =
    let text = c.args.text.now.text in
    let lines = c.args.lines.now in
    let rows = rows_at text lines in
    let own = c.args.parts.now in
    let names = own.nodes.now.names in
    let there = sym c.number.ensures.value ∙ c.in-Some.is in
    let P : ℕ → Type 0 = λ n. AreParts text rows n own in
    junction_more text rows c.args.place _ c.in-Ok.row own c.in-Some.number c.index-parts-number.result
    c.index-parts-number-2.result c.args.list.now.list _ c.in_ok-junction.junction c.requires.built
    (row_at text lines c.args.place nothing c.requires.within)
    (sym c.is_junctions.ensures ∙ c.if-not-is_junctions.false)
    (subst P (sym (length-map lines (row_of text))) c.requires.parts) c.in-Ok.ensures.1
    (ap (λ (id : List ℕ). position (bytes_eq id) names) (id_is _ c.in-Ok.row c.in-Ok.ensures.1) ∙ there)
    (number_inside names c.in-Ok.row.id.now c.in-Some.number there) c.index-parts-number.is c.index-parts-number-2.is
    c.in_ok-junction.ensures c.in_ok-push.ensures.ok
