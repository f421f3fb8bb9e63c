use Rattle.std.proofs.Common.{◌≡◌, ◌+◌, ◌∷◌, List, ℕ, get_or, ◌∙◌, refl, subst}
use Rattle.hyd_spec_lines.specs.Lines.{Row, row_of}
use Rattle.hyd_spec_lines.specs.declared.line.Line.{Line}
use Rattle.hyd_spec_lines.specs.declared.section.Section.TheVariants.{Junctions}
use Rattle.hyd_spec_input.specs.MeaningsAcrossRows.{is_asking, is_doing, is_otherwise, clause_lines, then_lines}
use Rattle.hyd_spec_input.specs.MeaningsAcrossRows.{else_lines}
use Rattle.hyd_spec_input.specs.Project.{Match, IsClause, IsAction, IsRule}
use Rattle.hyd_rows_and_tables.specs.RowsOfLines.{rows_at}
use Rattle.hyd_rows_and_tables.proofs.FirstWrongRowLemmas.{row_at}
use Rattle.hyd_build_links_controls_and_rules.specs.Rules.{rest_of_rule}
use Rattle.hyd_build_links_controls_and_rules.proofs.RuleLists.{named_after, lines_behind, priority_behind}
use Rattle.hyd_build_links_controls_and_rules.proofs.rules.rule_of.Goals as goal

nothing : Line
nothing = record { number = 0; section = Junctions; from = 0; to = 0 }

pub clauses_of-requires-clause-begun : goal.clauses_of-requires-clause-begun
unfolding nothing
clauses_of-requires-clause-begun c =
    let text = c.args.text.now.text in
    let lines = c.args.lines.now in
    let at = row_at text lines c.args.place nothing c.requires.within in
    let names = c.requires.names _ at in
    named_after (rows_at text lines) c.args.place _ at names.0 names.1

pub actions_of-requires-clause-begun : goal.actions_of-requires-clause-begun
unfolding nothing
actions_of-requires-clause-begun c =
    let text = c.args.text.now.text in
    let lines = c.args.lines.now in
    let at = row_at text lines c.args.place nothing c.requires.within in
    let names = c.requires.names _ at in
    named_after (rows_at text lines) c.args.place _ at names.0 names.1

pub actions_of-requires-2-clause-begun : goal.actions_of-requires-2-clause-begun
unfolding nothing
actions_of-requires-2-clause-begun c =
    let text = c.args.text.now.text in
    let lines = c.args.lines.now in
    let at = row_at text lines c.args.place nothing c.requires.within in
    let names = c.requires.names _ at in
    named_after (rows_at text lines) c.args.place _ at names.0 names.1

pub returns : goal.returns
unfolding nothing
returns c = λ row is.
    let text = c.args.text.now.text in
    let lines = c.args.lines.now in
    let rows = rows_at text lines in
    let here = row_of text (get_or lines c.args.place nothing) in
    let at = row_at text lines c.args.place nothing c.requires.within in
    let same : here ≡ row = cc in
    let names = c.requires.names here at in
    let rest = rest_of_rule rows (c.args.place + 1) in
    let clauses : Match (IsClause rows) (clause_lines (here.words ∷ rest)) c.in_ok-clauses.clauses.list =
    subst (λ (ls : List (List (List ℕ))). Match (IsClause rows) ls c.in_ok-clauses.clauses.list)
    (lines_behind is_asking here.words rest names.1 refl) c.in_ok-clauses.ensures in
    let yes : Match (IsAction rows) (then_lines (here.words ∷ rest)) c.in_ok-yes.yes.list =
    subst (λ (ls : List (List (List ℕ))). Match (IsAction rows) ls c.in_ok-yes.yes.list)
    (lines_behind is_doing here.words rest names.1 refl) c.in_ok-yes.ensures in
    let no : Match (IsAction rows) (else_lines (here.words ∷ rest)) c.in_ok-no.no.list =
    subst (λ (ls : List (List (List ℕ))). Match (IsAction rows) ls c.in_ok-no.no.list)
    (lines_behind is_otherwise here.words rest names.1 refl) c.in_ok-no.ensures in
    let P : Row → Type 0 = λ r. IsRule rows (r.words ∷ rest) (record {
      id = c.in_ok-id.id;
      clauses = c.in_ok-clauses.clauses;
      yes = c.in_ok-yes.yes;
      no = c.in_ok-no.no;
      priority = c.priority_of.result;
    }) in
    subst P same (record {
      id = c.in_ok-id.ensures ∙ c.or_empty.ensures;
      clauses = clauses;
      yes = yes;
      no = no;
      priority = c.priority_of.ensures ∙ priority_behind here.words rest names.1;
    })
