use Rattle.std.proofs.Common.{arith, ℕ, List, position, sym, ap, ◌∙◌}
use Rattle.std.specs.Str.{bytes_eq}
use Rattle.hyd_spec_lines.specs.declared.line.Line.{Line}
use Rattle.hyd_spec_lines.specs.declared.section.Section.TheVariants.{Junctions}
use Rattle.hyd_rows_and_tables.specs.RowsOfLines.{rows_at}
use Rattle.hyd_rows_and_tables.proofs.FirstWrongRowLemmas.{row_at}
use Rattle.hyd_theorems_on_input.proofs.OccurrencesOfNames.{number_inside}
use Rattle.hyd_judge_nodes_curves_and_options.proofs.ExtremeLemmas.{skip_row, add_row, pattern_is_right}
use Rattle.hyd_judge_nodes_curves_and_options.proofs.ExtremeLemmas.{number_is_there}
use Rattle.hyd_judge_nodes_curves_and_options.proofs.pattern_extremes.widen.Goals as goal

nothing : Line
nothing = record { number = 0; section = Junctions; from = 0; to = 0 }

pub returns-then-not-is_patterns : goal.returns-then-not-is_patterns
unfolding nothing
returns-then-not-is_patterns c =
    let text = c.args.text.now.text in
    let lines = c.args.lines.now in
    skip_row (rows_at text lines) c.args.place _ c.args.patterns.now.names c.args.each.now.items c.requires.widened
    (row_at text lines c.args.place nothing c.requires.within) (sym c.is_patterns.ensures ∙ c.if-not-is_patterns.true)

pub returns-in_default : goal.returns-in_default
unfolding nothing
returns-in_default c =
    let text = c.args.text.now.text in
    let lines = c.args.lines.now in
    let names = c.args.patterns.now.names in
    absurd (number_is_there text (rows_at text lines) c.args.place _ names c.args.patterns.now.firsts.items
    c.requires.table (row_at text lines c.args.place nothing c.requires.within)
    (sym c.is_patterns.ensures ∙ c.if-not-is_patterns.false)
    (ap (λ (id : List ℕ). position (bytes_eq id) names) (sym c.own_id.ensures) ∙ sym c.number.ensures.value
    ∙ c.in_default.is))

pub row_widened-requires-clause-right : goal.row_widened-requires-clause-right
unfolding nothing
row_widened-requires-clause-right c =
    let text = c.args.text.now.text in
    let lines = c.args.lines.now in
    pattern_is_right (rows_at text lines) c.args.place _ c.requires.right
    (row_at text lines c.args.place nothing c.requires.within) (sym c.is_patterns.ensures ∙ c.if-not-is_patterns.false)

pub returns : goal.returns
unfolding nothing
returns c =
    let text = c.args.text.now.text in
    let lines = c.args.lines.now in
    let names = c.args.patterns.now.names in
    let there = ap (λ (id : List ℕ). position (bytes_eq id) names) (sym c.own_id.ensures)
    ∙ sym c.number.ensures.value ∙ c.in-Some.is in
    add_row (rows_at text lines) c.args.place _ names c.args.each.now.items c.in-Some.number _ c.row_widened.result
    c.requires.widened (row_at text lines c.args.place nothing c.requires.within)
    (sym c.is_patterns.ensures ∙ c.if-not-is_patterns.false)
    there (omega (arith, number_inside names _ c.in-Some.number there, c.requires.widened.even)) c.index.ensures
    c.row_widened.ensures
