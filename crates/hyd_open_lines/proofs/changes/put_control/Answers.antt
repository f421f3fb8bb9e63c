-- Its pieces are the line.
use Rattle.std.proofs.Common.{ℕ, ◌+◌, ap, ◌∙◌}
use Rattle.std.specs.Fmt.{decimal}
use Rattle.hyd_spec_reports.specs.ReportLine.{link_id}
use Rattle.hyd_io.proofs.PutLemmas.{puts_same}
use Rattle.hyd_open_lines.proofs.ClockWords.{control_pieces}
use Rattle.hyd_open_lines.proofs.changes.put_control.Goals as goal

pub returns : goal.returns
returns g c =
    puts_same _ _ _ _ _ _ _
    (control_pieces c.args.control c.args.at.first c.args.at.late c.args.to.now
    (link_id c.args.project.now c.args.link) c.as_slice.ensures
    (c.bytes.ensures ∙ (c.number-control.ensures.text ∙ ap (λ (n : ℕ). decimal (n + 1)) c.from.ensures))
    (c.bytes-2.ensures ∙ c.clock-first.ensures.text) (c.bytes-3.ensures ∙ c.last_of-last.ensures) c.link_id.ensures
    (c.bytes-4.ensures ∙ c.state_text-state.ensures))
    c.put_pieces.ensures
