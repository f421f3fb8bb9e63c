use Rattle.std.proofs.Common.{◌∙◌, ap}
use Rattle.std.specs.Fmt.{decimal}
use Rattle.hyd_io.proofs.PutLemmas.{puts_same}
use Rattle.hyd_report.proofs.FlowPieces.{vector_pieces}
use Rattle.hyd_report.proofs.flow_lines.put_refused_vector.Goals as goal

pub returns : goal.returns
returns g c =
    puts_same _ _ _ _ _ _ _ (vector_pieces _ _ _ _ _ _ _ _ _ c.as_slice.ensures
    (c.bytes.ensures ∙ (c.number-period.ensures.text ∙ ap decimal c.from.ensures))
    (c.bytes-2.ensures ∙ (c.number-link.ensures.text ∙ ap decimal c.from-2.ensures))
    (c.bytes-3.ensures ∙ c.side_word-side.ensures) c.node_id.ensures) c.put_pieces.ensures
