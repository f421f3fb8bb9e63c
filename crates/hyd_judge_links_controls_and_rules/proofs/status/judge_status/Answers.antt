use Rattle.std.proofs.Common.{length, arith}
use Rattle.hyd_spec_lines.specs.declared.line.Line.{Line}
use Rattle.hyd_spec_lines.specs.declared.section.Section.TheVariants.{Junctions, Status}
use Rattle.hyd_rows_and_tables.specs.RowsOfLines.{rows_at}
use Rattle.hyd_rows_and_tables.specs.WrongInSection.{IsWrongIn}
use Rattle.hyd_rows_and_tables.proofs.FirstWrongRowLemmas.{row_at, found_kept}
use Rattle.hyd_rows_and_tables.proofs.WrongInSectionLemmas.{found_fewer}
use Rattle.hyd_judge_links_controls_and_rules.proofs.status.judge_status.Goals as goal

nothing : Line
nothing = record { number = 0; section = Junctions; from = 0; to = 0 }

pub loop-place-init : goal.loop-place-init
loop-place-init c = λ k l. absurd (omega arith)

pub loop-place-preserved : goal.loop-place-preserved
unfolding nothing
loop-place-preserved c =
    let text = c.args.text.now.text in
    let lines = c.args.lines.now in
    rw c.kept-found.ensures
    (found_kept (rows_at text lines) (IsWrongIn Status (rows_at text lines)) c.loop-place.place _ c.loop-place.found
    c.status_fault-cause.result c.loop-place.invariant (row_at text lines c.loop-place.place nothing
    c.loop-place-test.true)
    c.status_fault-cause.ensures)

pub returns : goal.returns
returns c =
    let text = c.args.text.now.text in
    let lines = c.args.lines.now in
    found_fewer (rows_at text lines) (IsWrongIn Status (rows_at text lines)) c.loop-place.place (length lines)
    c.loop-place.found c.loop-place.invariant c.loop-place-test.false
