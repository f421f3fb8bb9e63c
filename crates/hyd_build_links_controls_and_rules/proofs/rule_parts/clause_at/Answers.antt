use Rattle.std.proofs.Common.{◌≡◌, None, Some, false, get_or, subst}
use Rattle.hyd_spec_lines.specs.Lines.{Row, row_of}
use Rattle.hyd_spec_lines.specs.declared.line.Line.{Line}
use Rattle.hyd_spec_lines.specs.declared.section.Section.TheVariants.{Junctions}
use Rattle.hyd_spec_input.specs.Project.{IsClause}
use Rattle.hyd_spec_input.specs.RuleRows.{begins_with, words_of_rule_line}
use Rattle.hyd_rows_and_tables.specs.RowsOfLines.{rows_at}
use Rattle.hyd_rows_and_tables.proofs.FirstWrongRowLemmas.{row_at}
use Rattle.hyd_build_links_controls_and_rules.proofs.RightParts.{names_numbered, read_as_clause}
use Rattle.hyd_build_links_controls_and_rules.proofs.rule_parts.clause_at.Goals as goal

nothing : Line
nothing = record { number = 0; section = Junctions; from = 0; to = 0 }

pub returns-in_default : goal.returns-in_default
unfolding nothing
returns-in_default c =
    let text = c.args.text.now.text in
    let lines = c.args.lines.now in
    let here = row_of text (get_or lines c.args.place nothing) in
    let right = c.requires.right here (row_at text lines c.args.place nothing c.requires.within) in
    let none : words_of_rule_line false here.words ≡ None =
    read_as_clause (begins_with here.words) here.words right.begins right.by_itself in
    let wrong : words_of_rule_line false here.words ≡ Some c.in_default.field-0 = c.in_default.ensures in
    absurd (let x : ⊥ = cc in x)

pub returns-in_default-clause_said : goal.returns-in_default-clause_said
unfolding nothing
returns-in_default-clause_said c =
    let text = c.args.text.now.text in
    let lines = c.args.lines.now in
    let here = row_of text (get_or lines c.args.place nothing) in
    let right = c.requires.right here (row_at text lines c.args.place nothing c.requires.within) in
    absurd (c.in_default-clause_said.ensures.none here.words c.in-Ok.ensures.1 right.begins)

pub clause_of-requires-clause-numbered : goal.clause_of-requires-clause-numbered
unfolding nothing
clause_of-requires-clause-numbered c =
    let text = c.args.text.now.text in
    let lines = c.args.lines.now in
    let here = row_of text (get_or lines c.args.place nothing) in
    let right = c.requires.right here (row_at text lines c.args.place nothing c.requires.within) in
    let says = c.in-Some.ensures.some here.words c.in-Ok.ensures.1 in
    names_numbered (rows_at text lines) here.words c.in-Some.found.1 c.args.nodes.now c.args.tanks.now c.args.links.now
    c.requires.nodes c.requires.tanks c.requires.links right says.1

pub returns : goal.returns
unfolding nothing
returns c = λ row is.
    let text = c.args.text.now.text in
    let lines = c.args.lines.now in
    let rows = rows_at text lines in
    let here = row_of text (get_or lines c.args.place nothing) in
    let at = row_at text lines c.args.place nothing c.requires.within in
    let same : here ≡ row = cc in
    let says = c.in-Some.ensures.some here.words c.in-Ok.ensures.1 in
    subst (λ (r : Row). IsClause rows r.words c.clause_of.result) same
    (c.clause_of.ensures rows c.requires.nodes c.requires.tanks c.requires.links c.requires.unit says.1 says.0)
