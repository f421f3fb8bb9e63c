use Rattle.std.proofs.Common.{rules, sym, ◌∙◌}
use Rattle.hyd_spec_lines.specs.declared.line.Line.{Line}
use Rattle.hyd_spec_lines.specs.declared.section.Section.TheVariants.{Junctions, Options}
use Rattle.hyd_spec_input.specs.OptionsAndTimesInForce.{begins}
use Rattle.hyd_rows_and_tables.specs.RowsOfLines.{rows_at}
use Rattle.hyd_rows_and_tables.proofs.FirstWrongRowLemmas.{row_at}
use Rattle.hyd_rows_and_tables.proofs.LastLines.{last_here, last_before, last_elsewhere}
use Rattle.hyd_network_rows.proofs.last_lines_of_options.last_option.Goals as goal

nothing : Line
nothing = record { number = 0; section = Junctions; from = 0; to = 0 }

pub loop-place-preserved-then-not-is_options : goal.loop-place-preserved-then-not-is_options
unfolding nothing
loop-place-preserved-then-not-is_options c =
    let text = c.args.text.now.text in
    let lines = c.args.lines.now in record {
      last = c.loop-place.invariant.last
          ∙ last_elsewhere Options (begins c.args.key.now) (rows_at text lines) c.loop-place.place _
          (row_at text lines c.loop-place.place nothing c.loop-place-test.true)
          (sym c.is_options.ensures ∙ c.if-not-is_options.true);
      lies = c.loop-place.invariant.lies;
    }

pub loop-place-preserved-then-not-begins_with : goal.loop-place-preserved-then-not-begins_with
unfolding nothing
loop-place-preserved-then-not-begins_with c =
    let text = c.args.text.now.text in
    let lines = c.args.lines.now in record {
      last = c.loop-place.invariant.last
          ∙ last_before Options (begins c.args.key.now) (rows_at text lines) c.loop-place.place _
          (row_at text lines c.loop-place.place nothing c.loop-place-test.true)
          (sym c.is_options.ensures ∙ c.if-not-is_options.false)
          (sym c.begins_with.ensures ∙ c.if-not-begins_with.true);
      lies = c.loop-place.invariant.lies;
    }

pub loop-place-preserved : goal.loop-place-preserved
unfolding nothing
loop-place-preserved c =
    let text = c.args.text.now.text in
    let lines = c.args.lines.now in record {
      last = last_here Options (begins c.args.key.now) (rows_at text lines) c.loop-place.place _
          (row_at text lines c.loop-place.place nothing c.loop-place-test.true)
          (sym c.is_options.ensures ∙ c.if-not-is_options.false)
          (sym c.begins_with.ensures ∙ c.if-not-begins_with.false);
      lies = search rules;
    }
