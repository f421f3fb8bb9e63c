use Rattle.std.proofs.Common.{length, arith}
use Rattle.hyd_spec_lines.specs.declared.section.Section.TheVariants.{Options}
use Rattle.hyd_rows_and_tables.specs.RowsOfLines.{rows_at}
use Rattle.hyd_rows_and_tables.specs.WrongInSection.{IsWrongIn}
use Rattle.hyd_rows_and_tables.proofs.WrongInSectionLemmas.{found_fewer}
use Rattle.hyd_judge_nodes_curves_and_options.proofs.options.judge_options.Goals as goal

pub loop-place-init : goal.loop-place-init
loop-place-init c = λ k l. absurd (omega arith)

pub returns : goal.returns
returns c =
    let text = c.args.text.now.text in
    let lines = c.args.lines.now in
    found_fewer (rows_at text lines) (IsWrongIn Options (rows_at text lines)) c.loop-place.place (length lines)
    c.loop-place.found c.loop-place.invariant c.loop-place-test.false
