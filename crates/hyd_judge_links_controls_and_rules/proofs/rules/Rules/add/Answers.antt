use Rattle.std.proofs.Common.{◌≡◌, None, true, get_or, ap, sym, ◌∙◌, subst}
use Rattle.std.specs.Prelude.{Bool}
use Rattle.hyd_spec_lines.specs.Lines.{Row, row_of}
use Rattle.hyd_spec_lines.specs.declared.line.Line.{Line}
use Rattle.hyd_spec_lines.specs.declared.section.Section.TheVariants.{Junctions, Rules}
use Rattle.hyd_spec_input.specs.RuleRows.{is_acting, words_of_rule_line}
use Rattle.hyd_spec_input.specs.SectionsAndTables.{is_of}
use Rattle.hyd_rows_and_tables.specs.RowsOfLines.{rows_at}
use Rattle.hyd_rows_and_tables.proofs.FirstWrongRowLemmas.{row_at}
use Rattle.hyd_judge_links_controls_and_rules.specs.Rules.{IsPart, acting_at}
use Rattle.hyd_judge_links_controls_and_rules.proofs.RuleLemmas.{line_is_right, rules_elsewhere, rules_further}
use Rattle.hyd_judge_links_controls_and_rules.proofs.rules.Rules.add.Goals as goal

nothing : Line
nothing = record { number = 0; section = Junctions; from = 0; to = 0 }

pub returns-then-not-is_rules : goal.returns-then-not-is_rules
unfolding nothing
returns-then-not-is_rules c =
    let text = c.args.text.now.text in
    let lines = c.args.lines.now in
    rules_elsewhere (rows_at text lines) c.args.place _ c.args.self.now c.requires.judged
    (row_at text lines c.args.place nothing c.requires.within) (sym c.is_rules.ensures ∙ c.if-not-is_rules.true)

pub read_part-part-requires-clause-right : goal.read_part-part-requires-clause-right
unfolding nothing
read_part-part-requires-clause-right c =
    let text = c.args.text.now.text in
    let lines = c.args.lines.now in
    let rows = rows_at text lines in
    let here = row_of text (get_or lines c.args.place nothing) in
    let at = row_at text lines c.args.place nothing c.requires.within in
    let acting : acting_at rows c.args.place ≡ c.is_acting.result =
    sym (c.is_acting.ensures ∙ ap is_acting c.requires.judged.stage) in
    let P : Bool → Type 0 = λ b. words_of_rule_line b here.words ≡ None in
    subst P acting (line_is_right rows c.args.place here c.requires.right at
    (sym c.is_rules.ensures ∙ c.if-not-is_rules.false))

pub add-requires-clause-part : goal.add-requires-clause-part
unfolding nothing
add-requires-clause-part c = λ row is.
    let text = c.args.text.now.text in
    let lines = c.args.lines.now in
    let rows = rows_at text lines in
    let here = row_of text (get_or lines c.args.place nothing) in
    let at = row_at text lines c.args.place nothing c.requires.within in
    let same : here ≡ row = cc in
    let acting : c.is_acting.result ≡ acting_at rows c.args.place =
    c.is_acting.ensures ∙ ap is_acting c.requires.judged.stage in
    let P : Bool → Type 0 = λ b. IsPart b here.words c.read_part-part.result in
    let Q : Row → Type 0 = λ r. (is_of Rules r ≡ true) × IsPart (acting_at rows c.args.place) r.words
    c.read_part-part.result in
    subst Q same (sym c.is_rules.ensures ∙ c.if-not-is_rules.false, subst P acting c.read_part-part.ensures)

pub part_fault-cause-requires-clause-part : goal.part_fault-cause-requires-clause-part
unfolding nothing
part_fault-cause-requires-clause-part c = λ row is.
    let text = c.args.text.now.text in
    let lines = c.args.lines.now in
    let rows = rows_at text lines in
    let here = row_of text (get_or lines c.args.place nothing) in
    let at = row_at text lines c.args.place nothing c.requires.within in
    let same : here ≡ row = cc in
    let acting : c.is_acting.result ≡ acting_at rows c.args.place =
    c.is_acting.ensures ∙ ap is_acting c.requires.judged.stage in
    let P : Bool → Type 0 = λ b. IsPart b here.words c.read_part-part.result in
    let Q : Row → Type 0 = λ r. (is_of Rules r ≡ true) × IsPart (acting_at rows c.args.place) r.words
    c.read_part-part.result in
    subst Q same (sym c.is_rules.ensures ∙ c.if-not-is_rules.false, subst P acting c.read_part-part.ensures)

pub returns : goal.returns
unfolding nothing
returns c =
    let text = c.args.text.now.text in
    let lines = c.args.lines.now in
    let rows = rows_at text lines in
    let here = row_of text (get_or lines c.args.place nothing) in
    let at = row_at text lines c.args.place nothing c.requires.within in
    rules_further rows c.args.place here c.args.self.now _ c.part_fault-cause.result c.requires.judged at
    (sym c.is_rules.ensures ∙ c.if-not-is_rules.false) c.in_ok-new.ensures.counted
    (c.part_fault-cause.ensures here at) c.kept-self.ensures c.next_stage-self.ensures
