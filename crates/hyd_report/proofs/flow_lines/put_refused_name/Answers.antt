use Rattle.std.proofs.Common.{◌∙◌, ap}
use Rattle.std.specs.Fmt.{decimal}
use Rattle.hyd_io.proofs.PutLemmas.{puts_same}
use Rattle.hyd_report.proofs.FlowPieces.{name_pieces}
use Rattle.hyd_report.proofs.flow_lines.put_refused_name.Goals as goal

pub returns : goal.returns
returns g c = λ project.
    puts_same _ _ _ _ _ _ _ (name_pieces _ _ _ _ _ c.as_slice.ensures
    (c.bytes.ensures ∙ (c.number-period.ensures.text ∙ ap decimal c.from.ensures))
    (c.bytes-2.ensures ∙ (c.number-link.ensures.text ∙ ap decimal c.from-2.ensures))) c.put_pieces.ensures
