use Rattle.std.proofs.Common.{◌∙◌, None, length}
use Rattle.hyd_spec_lines.specs.declared.line.Line.{Line}
use Rattle.hyd_spec_lines.specs.declared.section.Section.TheVariants.{Junctions}
use Rattle.hyd_spec_input.specs.SingleRows.{IsWrongBy}
use Rattle.hyd_rows_and_tables.specs.RowsOfLines.{rows_at}
use Rattle.hyd_rows_and_tables.proofs.FirstWrongRowLemmas.{row_at}
use Rattle.hyd_rows_and_tables.proofs.WrongInSectionLemmas.{found_fewer}
use Rattle.hyd_network_rows.proofs.StageLemmas.{next_stage, row_fault_is, none_further, wrong_here}
use Rattle.hyd_network_rows.proofs.first_wrong_row.first_by_itself.Goals as goal

nothing : Line
nothing = record { number = 0; section = Junctions; from = 0; to = 0 }

pub returns-in-Some : goal.returns-in-Some
unfolding nothing
returns-in-Some c =
    let text = c.args.text.now.text in
    let lines = c.args.lines.now in
    wrong_here text lines c.args.by_power c.loop-place.place nothing c.in-Some.cause c.loop-place-test.true
    c.loop-place.invariant.none
    (row_fault_is text lines c.loop-place.place nothing c.args.by_power c.loop-place.stage c.row_fault.result
    c.loop-place.invariant.stage c.row_fault.ensures
    ∙ c.in-Some.is)

pub loop-place-preserved : goal.loop-place-preserved
unfolding nothing
loop-place-preserved c =
    let text = c.args.text.now.text in
    let lines = c.args.lines.now in record {
      none = none_further text lines c.args.by_power c.loop-place.place nothing c.loop-place-test.true
          c.loop-place.invariant.none
          (row_fault_is text lines c.loop-place.place nothing c.args.by_power c.loop-place.stage c.row_fault.result
          c.loop-place.invariant.stage c.row_fault.ensures
          ∙ c.in_default.is);
      stage = next_stage (rows_at text lines) c.loop-place.place _ c.loop-place.stage c.next_stage-stage.result
          (row_at text lines c.loop-place.place nothing c.loop-place-test.true) c.loop-place.invariant.stage
          c.next_stage-stage.ensures;
    }

pub returns : goal.returns
returns c = found_fewer (rows_at c.args.text.now.text c.args.lines.now)
    (IsWrongBy c.args.by_power (rows_at c.args.text.now.text c.args.lines.now)) c.loop-place.place (length c.args.lines.now) None
    c.loop-place.invariant.none c.loop-place-test.false
