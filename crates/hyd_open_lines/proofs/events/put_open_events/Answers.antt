-- One line more, or a line that is cut off.
use Rattle.std.proofs.lemmas.Result.{err_from_is_err_and}
use Rattle.std.proofs.Common.{ℕ, List}
use Rattle.hyd_spec_certificates.specs.declared.Event.{Event}
use Rattle.hyd_spec_reports.specs.Report.{event_line}
use Rattle.hyd_spec_open_reports.specs.OpenReportLine.{open_line_text}
use Rattle.hyd_open_lines.proofs.JoinedPieces.{joined-more, joined-split}
use Rattle.hyd_io.proofs.PutLemmas.{puts_then, puts_cut_off, puts_same}
use Rattle.hyd_open_lines.proofs.events.put_open_events.Goals as goal

pub returns-in_err-put_event : goal.returns-in_err-put_event
returns-in_err-put_event g c =
    let p = err_from_is_err_and c.from_residual.result c.from_residual.ensures.1 in
    rw (p.1, p.2) (let text : Event → List ℕ = λ event. open_line_text c.args.project.now
    (record { line = event_line c.args.at.first event; late = c.args.at.late }) in
    puts_same _ _ _ _ _ _ _ (joined-split text c.args.events.now c.loop-i.i _ c.loop-i-test.true)
    (puts_cut_off _ _ c.in_err-put_event.field-0.0 _ _ _ _ (puts_then _ _ _ _ _ _ _ _ _ c.loop-i.invariant c.in_err-put_event.ensures)))

pub loop-i-preserved : goal.loop-i-preserved
loop-i-preserved g c =
    let text : Event → List ℕ = λ event. open_line_text c.args.project.now
    (record { line = event_line c.args.at.first event; late = c.args.at.late }) in
    puts_same _ _ _ _ _ _ _ (joined-more text c.args.events.now c.loop-i.i _ c.loop-i-test.true)
    (puts_then _ _ _ _ _ _ _ _ _ c.loop-i.invariant c.in_ok-put_event.ensures)
