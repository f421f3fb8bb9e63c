use Rattle.std.proofs.Common.{◌≡◌, get_or, sym, ap, ◌∙◌, subst}
use Rattle.hyd_spec_lines.specs.Lines.{row_of}
use Rattle.hyd_spec_lines.specs.declared.line.Line.{Line}
use Rattle.hyd_spec_lines.specs.declared.section.Section.TheVariants.{Junctions}
use Rattle.hyd_spec_input.specs.RuleRows.{is_rule}
use Rattle.hyd_rows_and_tables.specs.RowsOfLines.{rows_at}
use Rattle.hyd_rows_and_tables.proofs.FirstWrongRowLemmas.{row_at}
use Rattle.hyd_build_links_controls_and_rules.specs.Rules.{NamesRule}
use Rattle.hyd_build_links_controls_and_rules.proofs.RuleLists.{rules_skip, rules_less, rules_more}
use Rattle.hyd_build_links_controls_and_rules.proofs.rules.add_rule.Goals as goal

nothing : Line
nothing = record { number = 0; section = Junctions; from = 0; to = 0 }

pub returns-then-not-is_rules : goal.returns-then-not-is_rules
unfolding nothing
returns-then-not-is_rules c =
    let text = c.args.text.now.text in
    let lines = c.args.lines.now in
    rules_skip (rows_at text lines) c.args.place _ c.args.list.now.list c.requires.built
    (row_at text lines c.args.place nothing c.requires.within) (sym c.is_rules.ensures ∙ c.if-not-is_rules.true)

pub returns-then-not-is_rule : goal.returns-then-not-is_rule
unfolding nothing
returns-then-not-is_rule c =
    let text = c.args.text.now.text in
    let lines = c.args.lines.now in
    rules_less (rows_at text lines) c.args.place _ c.args.list.now.list c.requires.built
    (row_at text lines c.args.place nothing c.requires.within) (sym c.is_rules.ensures ∙ c.if-not-is_rules.false)
    (ap is_rule (sym c.first_word.ensures) ∙ sym c.is_rule.ensures ∙ c.if-not-is_rule.true)

pub rule_of-requires-clause-names : goal.rule_of-requires-clause-names
unfolding nothing
rule_of-requires-clause-names c = λ row is.
    let text = c.args.text.now.text in
    let lines = c.args.lines.now in
    let here = row_of text (get_or lines c.args.place nothing) in
    let at = row_at text lines c.args.place nothing c.requires.within in
    let same : here ≡ row = cc in
    subst NamesRule same (
      sym c.is_rules.ensures ∙ c.if-not-is_rules.false,
      ap is_rule (sym c.first_word.ensures) ∙ sym c.is_rule.ensures ∙ c.if-not-is_rule.false,
    )

pub returns : goal.returns
unfolding nothing
returns c =
    let text = c.args.text.now.text in
    let lines = c.args.lines.now in
    let here = row_of text (get_or lines c.args.place nothing) in
    let at = row_at text lines c.args.place nothing c.requires.within in
    rules_more (rows_at text lines) c.args.place here c.args.list.now.list c.push.new.self.list c.in_ok-rule.rule
    c.requires.built at
    (sym c.is_rules.ensures ∙ c.if-not-is_rules.false)
    (ap is_rule (sym c.first_word.ensures) ∙ sym c.is_rule.ensures ∙ c.if-not-is_rule.false)
    (c.in_ok-rule.ensures here at) c.in_ok-push.ensures.ok
