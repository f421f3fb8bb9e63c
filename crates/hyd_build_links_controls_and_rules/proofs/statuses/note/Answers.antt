use Rattle.std.proofs.Common.{arith, ℕ, List, position, sym, ap, ◌∙◌}
use Rattle.std.specs.Str.{bytes_eq}
use Rattle.hyd_spec_lines.specs.declared.line.Line.{Line}
use Rattle.hyd_spec_lines.specs.declared.section.Section.TheVariants.{Junctions}
use Rattle.hyd_rows_and_tables.specs.RowsOfLines.{rows_at}
use Rattle.hyd_rows_and_tables.proofs.FirstWrongRowLemmas.{row_at}
use Rattle.hyd_theorems_on_input.proofs.OccurrencesOfNames.{number_inside}
use Rattle.hyd_build_links_controls_and_rules.proofs.StatusLemmas.{skip_row, unknown_row, add_row}
use Rattle.hyd_build_links_controls_and_rules.proofs.statuses.note.Goals as goal

nothing : Line
nothing = record { number = 0; section = Junctions; from = 0; to = 0 }

pub returns-then-not-is_status : goal.returns-then-not-is_status
unfolding nothing
returns-then-not-is_status c =
    let text = c.args.text.now.text in
    let lines = c.args.lines.now in
    skip_row text (rows_at text lines) c.args.place _ c.args.links.now.names c.args.last.now.items c.requires.noted
    (row_at text lines c.args.place nothing c.requires.within) (sym c.is_status.ensures ∙ c.if-not-is_status.true)

pub returns-in_default : goal.returns-in_default
unfolding nothing
returns-in_default c =
    let text = c.args.text.now.text in
    let lines = c.args.lines.now in
    let names = c.args.links.now.names in
    unknown_row text (rows_at text lines) c.args.place _ names c.args.last.now.items c.requires.noted
    (row_at text lines c.args.place nothing c.requires.within) (sym c.is_status.ensures ∙ c.if-not-is_status.false)
    (ap (λ (id : List ℕ). position (bytes_eq id) names) (sym c.own_id.ensures) ∙ sym c.number.ensures.value
    ∙ c.in_default.is)

pub returns : goal.returns
unfolding nothing
returns c =
    let text = c.args.text.now.text in
    let lines = c.args.lines.now in
    let names = c.args.links.now.names in
    let there = ap (λ (id : List ℕ). position (bytes_eq id) names) (sym c.own_id.ensures)
    ∙ sym c.number.ensures.value ∙ c.in-Some.is in
    add_row text (rows_at text lines) c.args.place _ names c.args.last.now.items c.in-Some.number c.requires.noted
    (row_at text lines c.args.place nothing c.requires.within) (sym c.is_status.ensures ∙ c.if-not-is_status.false)
    (c.requires.lie c.args.place nothing c.requires.within)
    there (omega (arith, number_inside names _ c.in-Some.number there, c.requires.noted.even))
