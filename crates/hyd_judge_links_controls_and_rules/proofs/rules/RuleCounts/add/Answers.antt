use Rattle.std.proofs.Common.{◌≡◌, get_or, ap, refl, ◌∙◌, subst, not}
use Rattle.hyd_spec_lines.specs.Lines.{Row, row_of}
use Rattle.hyd_spec_lines.specs.declared.line.Line.{Line}
use Rattle.hyd_spec_lines.specs.declared.section.Section.TheVariants.{Junctions}
use Rattle.hyd_spec_input.specs.Columns.{word}
use Rattle.hyd_spec_input.specs.FaultsWithOtherRows.{has_rule, rules_in}
use Rattle.std.specs.Prelude.{take}
use Rattle.hyd_rows_and_tables.specs.RowsOfLines.{rows_at}
use Rattle.hyd_rows_and_tables.proofs.FirstWrongRowLemmas.{row_at}
use Rattle.hyd_judge_links_controls_and_rules.specs.Rules.{IsPart, acting_at}
use Rattle.hyd_judge_links_controls_and_rules.specs.declared.rule_parts.Part.{Part}
use Rattle.hyd_judge_links_controls_and_rules.proofs.CountedRulesAndParts.{new_is, counted_rule, counted_part}
use Rattle.hyd_judge_links_controls_and_rules.proofs.CountedRulesAndParts.{counted_other}
use Rattle.hyd_judge_links_controls_and_rules.proofs.rules.RuleCounts.add.Goals as goal

nothing : Line
nothing = record { number = 0; section = Junctions; from = 0; to = 0 }

pub returns-in_ok-new-in-Name-clause-counted : goal.returns-in_ok-new-in-Name-clause-counted
unfolding nothing
returns-in_ok-new-in-Name-clause-counted c =
    let text = c.args.text.now.text in
    let lines = c.args.lines.now in
    let rows = rows_at text lines in
    let here = row_of text (get_or lines c.args.place nothing) in
    let at = row_at text lines c.args.place nothing c.requires.within in
    let is = c.requires.part here at in
    let part = subst (λ (p : Part). IsPart (acting_at rows c.args.place) here.words p) c.in-Name.is is.1 in
    counted_rule rows c.args.place here c.args.self.now _ c.or_empty.result.now c.in_ok-new-in-Name.new
    c.requires.counted at is.0 part c.or_empty.ensures c.in_ok-new-in-Name.ensures.present
    c.in_ok-new-in-Name.ensures.names refl refl

pub returns-in_ok-new-in-Name-clause-new : goal.returns-in_ok-new-in-Name-clause-new
unfolding nothing
returns-in_ok-new-in-Name-clause-new c = λ e row is.
    let text = c.args.text.now.text in
    let lines = c.args.lines.now in
    let rows = rows_at text lines in
    let here = row_of text (get_or lines c.args.place nothing) in
    let at = row_at text lines c.args.place nothing c.requires.within in
    let same : here ≡ row = cc in
    let earlier = rules_in (take c.args.place rows) in
    let new = new_is c.or_empty.result.now earlier c.args.self.now.names c.in_ok-new-in-Name.new
    c.requires.counted.named c.in_ok-new-in-Name.ensures.present in
    let P : Row → Type 0 = λ r. c.in_ok-new-in-Name.new ≡ not (has_rule (word 1 r.words) earlier) in
    subst P same (new ∙ ap (λ name. not (has_rule name earlier)) c.or_empty.ensures)

pub returns-in-Clause-clause-counted : goal.returns-in-Clause-clause-counted
unfolding nothing
returns-in-Clause-clause-counted c =
    let text = c.args.text.now.text in
    let lines = c.args.lines.now in
    let rows = rows_at text lines in
    let here = row_of text (get_or lines c.args.place nothing) in
    let at = row_at text lines c.args.place nothing c.requires.within in
    let is = c.requires.part here at in
    let part = subst (λ (p : Part). IsPart (acting_at rows c.args.place) here.words p) c.in-Clause.is is.1 in
    counted_part rows c.args.place here c.args.self.now _ c.requires.counted at is.0 part.0 part.1 refl refl refl

pub returns-in-Action-clause-counted : goal.returns-in-Action-clause-counted
unfolding nothing
returns-in-Action-clause-counted c =
    let text = c.args.text.now.text in
    let lines = c.args.lines.now in
    let rows = rows_at text lines in
    let here = row_of text (get_or lines c.args.place nothing) in
    let at = row_at text lines c.args.place nothing c.requires.within in
    let is = c.requires.part here at in
    let part = subst (λ (p : Part). IsPart (acting_at rows c.args.place) here.words p) c.in-Action.is is.1 in
    counted_part rows c.args.place here c.args.self.now _ c.requires.counted at is.0 part.0 part.1 refl refl refl

pub returns-in-Priority-clause-counted : goal.returns-in-Priority-clause-counted
unfolding nothing
returns-in-Priority-clause-counted c =
    let text = c.args.text.now.text in
    let lines = c.args.lines.now in
    let rows = rows_at text lines in
    let here = row_of text (get_or lines c.args.place nothing) in
    let at = row_at text lines c.args.place nothing c.requires.within in
    let is = c.requires.part here at in
    let part = subst (λ (p : Part). IsPart (acting_at rows c.args.place) here.words p) c.in-Priority.is is.1 in
    counted_other rows c.args.place here c.args.self.now c.requires.counted at is.0 part.0 part.1
