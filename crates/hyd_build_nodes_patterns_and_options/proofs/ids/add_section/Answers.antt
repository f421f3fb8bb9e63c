use Rattle.std.proofs.Common.{sym, ◌∙◌, arith}
use Rattle.hyd_spec_lines.specs.declared.line.Line.{Line}
use Rattle.hyd_spec_lines.specs.declared.section.Section.TheVariants.{Junctions}
use Rattle.hyd_rows_and_tables.specs.RowsOfLines.{rows_at}
use Rattle.hyd_rows_and_tables.proofs.FirstWrongRowLemmas.{row_at}
use Rattle.hyd_build_nodes_patterns_and_options.proofs.NameLemmas.{section_more, section_same, one_longer}
use Rattle.hyd_build_nodes_patterns_and_options.proofs.ids.add_section.Goals as goal

nothing : Line
nothing = record { number = 0; section = Junctions; from = 0; to = 0 }

pub loop-line-preserved-then-not-is_of : goal.loop-line-preserved-then-not-is_of
unfolding nothing
loop-line-preserved-then-not-is_of c =
    let text = c.args.text.now.text in
    let lines = c.args.lines.now in record {
      names = section_same c.args.section (rows_at text lines) c.loop-line.line-index _ c.args.names.now
          c.loop-line.names
          (row_at text lines c.loop-line.line-index nothing c.loop-line-test.true)
          (sym c.is_of.ensures ∙ c.if-not-is_of.true) c.loop-line.invariant.names;
      few = omega (arith, c.loop-line.invariant.few);
    }

pub loop-line-preserved : goal.loop-line-preserved
unfolding nothing
loop-line-preserved c =
    let text = c.args.text.now.text in
    let lines = c.args.lines.now in record {
      names = section_more c.args.section (rows_at text lines) c.loop-line.line-index _ c.args.names.now
          c.loop-line.names
          c.add.new.self c.in_ok-add.field-0
          (row_at text lines c.loop-line.line-index nothing c.loop-line-test.true)
          (sym c.is_of.ensures ∙ c.if-not-is_of.false)
          (rw (← c.own_id.ensures) c.in_ok-add.ensures.present) c.loop-line.invariant.names
          (rw (← c.own_id.ensures) c.in_ok-add.ensures.names);
      few = omega (
        arith,
        c.loop-line.invariant.few,
        one_longer c.own_id.result.now c.loop-line.names c.add.new.self
            c.in_ok-add.field-0 c.in_ok-add.ensures.names,
      );
    }
