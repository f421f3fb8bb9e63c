-- One line more, or a line that is cut off.
use Rattle.std.proofs.lemmas.Result.{err_from_is_err_and}
use Rattle.std.proofs.Common.{ℕ, List, ap}
use Rattle.hyd_spec.specs.declared.Change.{Change}
use Rattle.hyd_spec_reports.specs.Report.{change_line}
use Rattle.hyd_spec_open_reports.specs.OpenReportLine.{open_line_text}
use Rattle.hyd_open_lines.proofs.JoinedPieces.{joined-more, joined-split}
use Rattle.hyd_io.proofs.PutLemmas.{puts_then, puts_cut_off, puts_same}
use Rattle.hyd_open_lines.proofs.changes.put_open_changes.Goals as goal

pub returns-in_err-put_change : goal.returns-in_err-put_change
returns-in_err-put_change g c =
    let p = err_from_is_err_and c.from_residual.result c.from_residual.ensures.1 in
    rw (p.1, p.2) (let text : Change → List ℕ = λ change. open_line_text c.args.project.now
    (record { line = change_line c.args.at.first change; late = c.args.at.late }) in
    puts_same _ _ _ _ _ _ _ (joined-split text c.args.changes.now c.loop-i.i c.index-changes-i.result
    c.loop-i-test.true)
    (puts_cut_off _ _ c.in_err-put_change.field-0.0 _ _ _ _ (puts_then _ _ _ _ _ _ _ _ _ c.loop-i.invariant
    (puts_same _ _ _ _ _ _ _ (ap text c.index-changes-i.is) c.in_err-put_change.ensures))))

pub loop-i-preserved : goal.loop-i-preserved
loop-i-preserved g c =
    let text : Change → List ℕ = λ change. open_line_text c.args.project.now
    (record { line = change_line c.args.at.first change; late = c.args.at.late }) in
    puts_same _ _ _ _ _ _ _ (joined-more text c.args.changes.now c.loop-i.i c.index-changes-i.result c.loop-i-test.true)
    (puts_then _ _ _ _ _ _ _ _ _ c.loop-i.invariant
    (puts_same _ _ _ _ _ _ _ (ap text c.index-changes-i.is) c.in_ok-put_change.ensures))
