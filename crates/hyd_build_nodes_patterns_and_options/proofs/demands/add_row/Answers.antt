use Rattle.std.proofs.Common.{◌≡◌, ℕ, List, Some, None, position, get_or, arith, sym, ap, ◌∙◌}
use Rattle.std.specs.Str.{bytes_eq}
use Rattle.std.proofs.lemmas.List.{length-map}
use Rattle.hyd_spec_lines.specs.Lines.{row_of}
use Rattle.hyd_spec_lines.specs.declared.line.Line.{Line}
use Rattle.hyd_spec_lines.specs.declared.section.Section.TheVariants.{Junctions, Demands}
use Rattle.hyd_net.specs.ListView.{ListView}
use Rattle.hyd_net.specs.declared.nodes.Demand.{Demand}
use Rattle.hyd_theorems_on_input.proofs.OccurrencesOfNames.{number_inside}
use Rattle.hyd_rows_and_tables.specs.RowsOfLines.{rows_at}
use Rattle.hyd_rows_and_tables.proofs.FirstWrongRowLemmas.{row_at}
use Rattle.hyd_build_nodes_patterns_and_options.specs.DemandsAndEmitters.{each}
use Rattle.hyd_build_nodes_patterns_and_options.proofs.RowsWithoutFault.{alone}
use Rattle.hyd_build_nodes_patterns_and_options.proofs.DemandLemmas.{skip_row, add_row, id_is, base_is_small, junction_there, demand_is}
use Rattle.hyd_build_nodes_patterns_and_options.proofs.demands.add_row.Goals as goal

nothing : Line
nothing = record { number = 0; section = Junctions; from = 0; to = 0 }

pub returns-then-not-is_demands : goal.returns-then-not-is_demands
unfolding nothing
returns-then-not-is_demands c =
    let rows = rows_at c.args.text.now.text c.args.lines.now in
    skip_row rows c.args.place _ c.args.nodes.now.names (each c.args.lists.now.items) c.requires.gathered
    (row_at c.args.text.now.text c.args.lines.now c.args.place nothing c.requires.within)
    (sym c.is_demands.ensures ∙ c.if-not-is_demands.true)

pub returns-in_default : goal.returns-in_default
unfolding nothing
returns-in_default c =
    let rows = rows_at c.args.text.now.text c.args.lines.now in
    let right = alone Demands rows c.args.place _ c.requires.by_itself
    (row_at c.args.text.now.text c.args.lines.now c.args.place nothing c.requires.within)
    (sym c.is_demands.ensures ∙ c.if-not-is_demands.false) in
    let e : None ≡ Some c.in_default.field-0 = sym right ∙ c.in_default.ensures in
    absurd (let x : ⊥ = cc in x)

pub returns-in_default-number : goal.returns-in_default-number
unfolding nothing
returns-in_default-number c =
    let text = c.args.text.now.text in
    let rows = rows_at text c.args.lines.now in
    absurd (junction_there text rows c.args.place _ c.in-Ok.row c.args.nodes.now.names c.args.nodes.now.firsts.items
    c.requires.with_others (row_at text c.args.lines.now c.args.place nothing c.requires.within)
    (sym c.is_demands.ensures ∙ c.if-not-is_demands.false) c.requires.nodes c.in-Ok.ensures.1
    (sym c.number.ensures.value ∙ c.in_default-number.is))

pub demand_by-demand-requires : goal.demand_by-demand-requires
unfolding nothing
demand_by-demand-requires c =
    let text = c.args.text.now.text in
    let rows = rows_at text c.args.lines.now in
    base_is_small rows c.args.place _ c.in-Ok.row c.args.unit c.requires.with_others
    (row_at text c.args.lines.now c.args.place nothing c.requires.within)
    (sym c.is_demands.ensures ∙ c.if-not-is_demands.false) c.requires.unit c.in-Ok.ensures.1

pub push_at-requires : goal.push_at-requires
push_at-requires c =
    let there = sym c.number.ensures.value ∙ c.in-Some.is in
    omega (
      arith,
      number_inside c.args.nodes.now.names c.in-Ok.row.junction.now c.in-Some.number there,
      c.requires.gathered.even,
      length-map c.args.lists.now.items (λ (list : ListView Demand). list.list),
    )

pub returns : goal.returns
unfolding nothing
returns c =
    let text = c.args.text.now.text in
    let rows = rows_at text c.args.lines.now in
    let names = c.args.nodes.now.names in
    add_row rows c.args.place _ names (each c.args.lists.now.items) _ c.in-Some.number c.demand_by-demand.result
    c.requires.gathered (row_at text c.args.lines.now c.args.place nothing c.requires.within)
    (sym c.is_demands.ensures ∙ c.if-not-is_demands.false)
    (ap (λ (id : List ℕ). position (bytes_eq id) names) (id_is _ c.in-Ok.row c.in-Ok.ensures.1)
    ∙ sym c.number.ensures.value ∙ c.in-Some.is)
    (c.demand_by-demand.ensures
    ∙ demand_is rows (row_of text
    (get_or c.args.lines.now c.args.place nothing)) c.in-Ok.row c.args.unit c.args.patterns.now c.requires.unit
    c.requires.patterns c.in-Ok.ensures.1)
    c.in_ok-push_at.ensures
