use Rattle.std.proofs.Common.{take, sym, ◌∙◌, arith}
use Rattle.std.proofs.lemmas.Option.{slice_get_within}
use Rattle.hyd_spec_lines.specs.declared.line.Line.{Line}
use Rattle.hyd_spec_lines.specs.declared.section.Section.TheVariants.{Junctions}
use Rattle.hyd_rows_and_tables.specs.RowsOfLines.{rows_at}
use Rattle.hyd_rows_and_tables.proofs.FirstWrongRowLemmas.{row_at}
use Rattle.hyd_inp.proofs.IdsInTheirOrder.{next_row, other_row, last_row}
use Rattle.hyd_inp.proofs.ids_in_order.count_behind.Goals as goal

nothing : Line
nothing = record { number = 0; section = Junctions; from = 0; to = 0 }

pub loop-line-preserved-then-not-is_of : goal.loop-line-preserved-then-not-is_of
unfolding nothing
loop-line-preserved-then-not-is_of c =
    let text = c.args.text.now.text in
    let lines = c.args.lines.now in
    let names = c.args.names.now in record {
      within = c.loop-line.invariant.within;
      ids = other_row c.args.section (rows_at text lines) c.loop-line.line-index _ names (take c.args.from names)
          c.loop-line.to
          (row_at text lines c.loop-line.line-index nothing c.loop-line-test.true)
          (sym c.is_of.ensures ∙ c.if-not-is_of.true) c.loop-line.invariant.ids;
    }

pub loop-line-preserved : goal.loop-line-preserved
unfolding nothing
loop-line-preserved c =
    let text = c.args.text.now.text in
    let lines = c.args.lines.now in
    let names = c.args.names.now in
    let at = c.in-Some.ensures.place in record {
      within = omega (arith, c.if-number-to.false, slice_get_within names c.in-Some.number _ at);
      ids = next_row c.args.section (rows_at text lines) c.loop-line.line-index _ names (take c.args.from names)
          c.loop-line.to
          (row_at text lines c.loop-line.line-index nothing c.loop-line-test.true)
          (sym c.is_of.ensures ∙ c.if-not-is_of.false)
          (rw (c.if-number-to.false, c.own_id.ensures) at at) c.loop-line.invariant.ids;
    }

pub returns-clause-ids : goal.returns-clause-ids
returns-clause-ids c =
    last_row c.args.section c.args.text.now.text c.args.lines.now c.loop-line.line-index c.args.names.now
    (take c.args.from c.args.names.now) c.loop-line.to c.loop-line-test.false c.loop-line.invariant.ids
