use Rattle.std.proofs.Common.{sym, ◌∙◌, get_or}
use Rattle.hyd_spec_lines.specs.Lines.{row_of}
use Rattle.hyd_spec_lines.specs.declared.line.Line.{Line}
use Rattle.hyd_spec_lines.specs.declared.section.Section.TheVariants.{Junctions}
use Rattle.hyd_rows_and_tables.specs.RowsOfLines.{rows_at}
use Rattle.hyd_rows_and_tables.proofs.FirstWrongRowLemmas.{row_at}
use Rattle.hyd_build_nodes_patterns_and_options.specs.PatternsSoFar.{each}
use Rattle.hyd_build_nodes_patterns_and_options.proofs.PatternLemmas.{skip_row, add_pattern, inside_patterns, no_number}
use Rattle.hyd_build_nodes_patterns_and_options.proofs.PatternLemmas.{numbered}
use Rattle.hyd_build_nodes_patterns_and_options.proofs.PatternLemmas.{right_row}
use Rattle.hyd_build_nodes_patterns_and_options.proofs.patterns.add_row.Goals as goal

nothing : Line
nothing = record { number = 0; section = Junctions; from = 0; to = 0 }

pub returns-then-not-is_of : goal.returns-then-not-is_of
unfolding nothing
returns-then-not-is_of c =
    let text = c.args.text.now.text in
    let lines = c.args.lines.now in
    skip_row (rows_at text lines) c.args.place _ c.args.patterns.now.items
    (row_at text lines c.args.place nothing c.requires.within) (sym c.is_of.ensures ∙ c.if-not-is_of.true)
    c.requires.filled

pub returns-in_default : goal.returns-in_default
unfolding nothing
returns-in_default c =
    let text = c.args.text.now.text in
    let lines = c.args.lines.now in
    absurd (right_row (rows_at text lines) c.args.place _ c.in_default.field-0 c.requires.by_itself
    (row_at text lines c.args.place nothing c.requires.within) (sym c.is_of.ensures ∙ c.if-not-is_of.false)
    c.in_default.ensures)

pub returns-in_default-number : goal.returns-in_default-number
unfolding nothing
returns-in_default-number c =
    let text = c.args.text.now.text in
    let lines = c.args.lines.now in
    absurd (no_number (rows_at text lines) c.args.place _
    (row_at text lines c.args.place nothing c.requires.within) (sym c.is_of.ensures ∙ c.if-not-is_of.false)
    (numbered (rows_at text lines) c.args.ids.now
    (row_of text (get_or lines c.args.place nothing)) c.in-Ok.row.id.now _ c.requires.ids c.in-Ok.ensures.1.id
    c.in_default-number.ensures.value))

pub fill-requires-clause-within : goal.fill-requires-clause-within
unfolding nothing
fill-requires-clause-within c =
    let text = c.args.text.now.text in
    let lines = c.args.lines.now in
    inside_patterns (rows_at text lines) c.args.place c.in-Some.number _ c.args.patterns.now.items
    c.open.new.patterns.items
    (row_at text lines c.args.place nothing c.requires.within) (sym c.is_of.ensures ∙ c.if-not-is_of.false)
    (numbered (rows_at text lines) c.args.ids.now
    (row_of text (get_or lines c.args.place nothing)) c.in-Ok.row.id.now _ c.requires.ids c.in-Ok.ensures.1.id
    c.in-Some.ensures.value) c.requires.filled c.in_ok-open.ensures

pub returns : goal.returns
unfolding nothing
returns c =
    let text = c.args.text.now.text in
    let lines = c.args.lines.now in
    add_pattern (rows_at text lines) c.args.place c.in-Some.number _ c.args.patterns.now.items
    c.fill.new.patterns.items (each c.open.new.patterns.items)
    (row_at text lines c.args.place nothing c.requires.within) (sym c.is_of.ensures ∙ c.if-not-is_of.false)
    (numbered (rows_at text lines) c.args.ids.now
    (row_of text (get_or lines c.args.place nothing)) c.in-Ok.row.id.now _ c.requires.ids c.in-Ok.ensures.1.id
    c.in-Some.ensures.value) c.requires.filled c.in_ok-open.ensures
    (rw (← c.in-Ok.ensures.1.multipliers) c.in_ok-fill.ensures)
