use Rattle.std.proofs.Common.{ℕ, sym, ap, ◌∙◌}
use Rattle.std.specs.Prelude.{Option}
use Rattle.std.proofs.lemmas.Option.{get_or_from_slice_get}
use Rattle.hyd_spec_lines.specs.Headings.{either}
use Rattle.hyd_spec_lines.specs.WordsOfLines.{text_lines}
use Rattle.hyd_spec_spread_rows.specs.TextsOfSpreads.{rows_of}
use Rattle.hyd_spread_rows.proofs.LineThatCountsLemmas.{line-for}
use Rattle.hyd_spread_rows.proofs.lines_that_count.line_for.Goals as goal

pub returns-in-Some : goal.returns-in-Some
returns-in-Some c =
    ap (λ (o : Option ℕ). either o c.last_lines-last.result.all) (sym c.in-Some.is)
    ∙ line-for c.args.project.now c.args.subject (rows_of (text_lines c.args.text.now)) c.args.node c.id.result.now
    c.last_lines-last.result
    (get_or_from_slice_get c.args.project.now.node_ids c.args.node c.id.result.now _ c.id.ensures)
    c.last_lines-last.ensures

pub returns-in-None : goal.returns-in-None
returns-in-None c =
    ap (λ (o : Option ℕ). either o c.last_lines-last.result.all) (sym c.in-None.is)
    ∙ line-for c.args.project.now c.args.subject (rows_of (text_lines c.args.text.now)) c.args.node c.id.result.now
    c.last_lines-last.result
    (get_or_from_slice_get c.args.project.now.node_ids c.args.node c.id.result.now _ c.id.ensures)
    c.last_lines-last.ensures
