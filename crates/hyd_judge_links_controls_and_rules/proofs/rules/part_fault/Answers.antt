use Rattle.std.proofs.Common.{◌≡◌, get_or, ap, ◌∙◌, subst}
use Rattle.hyd_spec_lines.specs.Lines.{Row, row_of}
use Rattle.hyd_spec_lines.specs.declared.line.Line.{Line}
use Rattle.hyd_spec_lines.specs.declared.section.Section.TheVariants.{Junctions}
use Rattle.hyd_spec_input.specs.Columns.{or_else}
use Rattle.hyd_spec_input.specs.FaultsWithOtherRows as others
use Rattle.hyd_rows_and_tables.specs.RowsOfLines.{rows_at}
use Rattle.hyd_rows_and_tables.proofs.FirstWrongRowLemmas.{row_at}
use Rattle.hyd_judge_links_controls_and_rules.specs.Rules.{IsPart, IsRuleFault, acting_at}
use Rattle.hyd_judge_links_controls_and_rules.specs.declared.rule_parts.Part.{Part}
use Rattle.hyd_judge_links_controls_and_rules.proofs.RuleLemmas.{action_is_right, rule_fault_is, clause_fault_is}
use Rattle.hyd_judge_links_controls_and_rules.proofs.RuleLemmas.{action_fault_is}
use Rattle.hyd_judge_links_controls_and_rules.proofs.RuleLemmas.{nothing_is_wrong}
use Rattle.hyd_judge_links_controls_and_rules.proofs.rules.part_fault.Goals as goal

nothing : Line
nothing = record { number = 0; section = Junctions; from = 0; to = 0 }

pub clause_fault-requires-clause-says : goal.clause_fault-requires-clause-says
unfolding nothing
clause_fault-requires-clause-says c =
    let text = c.args.text.now.text in
    let lines = c.args.lines.now in
    let rows = rows_at text lines in
    let here = row_of text (get_or lines c.args.place nothing) in
    let at = row_at text lines c.args.place nothing c.requires.within in
    let part = subst (λ (p : Part). IsPart (acting_at rows c.args.place) here.words p) c.in-Clause.is
    (c.requires.part here at).1 in
    part.3

pub action_fault-requires-clause-by_itself : goal.action_fault-requires-clause-by_itself
action_fault-requires-clause-by_itself c = λ row is.
    let rows = rows_at c.args.text.now.text c.args.lines.now in
    let of = c.requires.part row is in
    let part = subst (λ (p : Part). IsPart (acting_at rows c.args.place) row.words p) c.in-Action.is of.1 in
    action_is_right rows c.args.place row c.requires.right is of.0 part.2

pub action_fault-requires-clause-says : goal.action_fault-requires-clause-says
action_fault-requires-clause-says c = λ row is.
    let rows = rows_at c.args.text.now.text c.args.lines.now in
    let part = subst (λ (p : Part). IsPart (acting_at rows c.args.place) row.words p) c.in-Action.is
    (c.requires.part row is).1 in
    part.3

pub returns-in-Name : goal.returns-in-Name
returns-in-Name c = λ row is.
    let rows = rows_at c.args.text.now.text c.args.lines.now in
    let part = subst (λ (p : Part). IsPart (acting_at rows c.args.place) row.words p) c.in-Name.is
    (c.requires.part row is).1 in
    rule_fault_is rows c.args.place row c.args.counts.now.rules c.args.new c.rule_fault.result part
    c.requires.counted.rules (c.requires.new c.in-Name.is row is) c.rule_fault.ensures

pub returns-in-Clause : goal.returns-in-Clause
unfolding nothing
returns-in-Clause c = λ row is.
    let text = c.args.text.now.text in
    let lines = c.args.lines.now in
    let rows = rows_at text lines in
    let here = row_of text (get_or lines c.args.place nothing) in
    let at = row_at text lines c.args.place nothing c.requires.within in
    let same : here ≡ row = cc in
    let part = subst (λ (p : Part). IsPart (acting_at rows c.args.place) here.words p) c.in-Clause.is
    (c.requires.part here at).1 in
    let P : Row → Type 0 = λ r. IsRuleFault rows c.args.place r c.first_of.result in
    let clause : c.clause_fault.result ≡ others.clause rows here.words =
    c.clause_fault.ensures rows c.requires.nodes c.requires.links c.requires.right in
    let fault : c.first_of.result
    ≡ or_else (others.passes 100000 12 c.args.counts.now.parts) (others.clause rows here.words) =
    c.first_of.ensures ∙ ap (λ f. or_else f c.clause_fault.result) c.limit.ensures
    ∙ ap (or_else (others.passes 100000 12 c.args.counts.now.parts)) clause in
    subst P same (clause_fault_is rows c.args.place here c.args.counts.now.parts c.first_of.result part.0 part.1 part.2
    c.requires.counted.parts fault)

pub returns-in-Action : goal.returns-in-Action
returns-in-Action c = λ row is.
    let rows = rows_at c.args.text.now.text c.args.lines.now in
    let part = subst (λ (p : Part). IsPart (acting_at rows c.args.place) row.words p) c.in-Action.is
    (c.requires.part row is).1 in
    let fault : c.first_of-in-Action.result
    ≡ or_else (others.passes 100000 12 c.args.counts.now.parts) c.action_fault.result =
    c.first_of-in-Action.ensures ∙ ap (λ f. or_else f c.action_fault.result) c.limit-in-Action.ensures in
    action_fault_is rows c.args.place row c.args.counts.now.parts c.action_fault.result c.first_of-in-Action.result
    part.0
    part.1 part.2 c.requires.counted.parts (c.action_fault.ensures row is) fault

pub returns-in-Priority : goal.returns-in-Priority
returns-in-Priority c = λ row is.
    let rows = rows_at c.args.text.now.text c.args.lines.now in
    let part = subst (λ (p : Part). IsPart (acting_at rows c.args.place) row.words p) c.in-Priority.is
    (c.requires.part row is).1 in
    nothing_is_wrong rows c.args.place row part.0 part.1
