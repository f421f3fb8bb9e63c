use Rattle.std.proofs.Common.{rules, sym, ◌∙◌}
use Rattle.hyd_spec_lines.specs.WordsOfLines.{text_of}
use Rattle.hyd_spec_lines.specs.declared.line.Line.{Line}
use Rattle.hyd_spec_lines.specs.declared.section.Section.TheVariants.{Junctions}
use Rattle.hyd_rows_and_tables.specs.RowsOfLines.{rows_at}
use Rattle.hyd_rows_and_tables.proofs.FirstWrongRowLemmas.{row_at}
use Rattle.hyd_build_nodes_patterns_and_options.specs.LinesInForce.{begins_with}
use Rattle.hyd_rows_and_tables.proofs.LastLines.{last_here, last_before, last_elsewhere}
use Rattle.hyd_build_nodes_patterns_and_options.proofs.last_lines.last_line.Goals as goal

nothing : Line
nothing = record { number = 0; section = Junctions; from = 0; to = 0 }

pub loop-line-preserved-then-not-is_of : goal.loop-line-preserved-then-not-is_of
unfolding nothing
loop-line-preserved-then-not-is_of c =
    let text = c.args.text.now.text in
    let lines = c.args.lines.now in record {
      last = c.loop-line.invariant.last
          ∙ last_elsewhere c.args.section (begins_with c.args.key.now (text_of c.args.second)) (rows_at text lines)
          c.loop-line.line-index _ (row_at text lines c.loop-line.line-index nothing c.loop-line-test.true)
          (sym c.is_of.ensures ∙ c.if-not-is_of.true);
      lies = c.loop-line.invariant.lies;
    }

pub loop-line-preserved-then-not-begins_with : goal.loop-line-preserved-then-not-begins_with
unfolding nothing
loop-line-preserved-then-not-begins_with c =
    let text = c.args.text.now.text in
    let lines = c.args.lines.now in record {
      last = c.loop-line.invariant.last
          ∙ last_before c.args.section (begins_with c.args.key.now (text_of c.args.second)) (rows_at text lines)
          c.loop-line.line-index _ (row_at text lines c.loop-line.line-index nothing c.loop-line-test.true)
          (sym c.is_of.ensures ∙ c.if-not-is_of.false)
          (sym c.begins_with.ensures ∙ c.if-not-begins_with.true);
      lies = c.loop-line.invariant.lies;
    }

pub loop-line-preserved : goal.loop-line-preserved
unfolding nothing
loop-line-preserved c =
    let text = c.args.text.now.text in
    let lines = c.args.lines.now in record {
      last = last_here c.args.section (begins_with c.args.key.now (text_of c.args.second)) (rows_at text lines)
          c.loop-line.line-index _ (row_at text lines c.loop-line.line-index nothing c.loop-line-test.true)
          (sym c.is_of.ensures ∙ c.if-not-is_of.false)
          (sym c.begins_with.ensures ∙ c.if-not-begins_with.false);
      lies = search rules;
    }
