-- The line that a line can't be so.
use Rattle.std.proofs.Common.{ℕ, List, ◌∙◌}
use Rattle.hyd_io.specs.TextPutIn.{Puts}
use Rattle.hyd_witness_commands.proofs.LinesPutInPieces.{bad_line_put}
use Rattle.hyd_witness_commands.proofs.lines.put_bad_line.Goals as goal

pub returns : goal.returns
returns g c =
    bad_line_put
    (λ (text : List ℕ). Puts g.D.Desk.files g.D.Desk.rest g.D.Desk.written g.D.Desk.printed g.D.Desk.target
    g.D.Desk.ready g.D.Desk.counts g.D.Desk.openings
    text c.put_pieces.result c.args.pen.now c.put_pieces.new.pen c.args.desk.now c.put_pieces.new.desk)
    c.args.number c.as_slice.result.now c.as_bytes.result.now c.as_slice.ensures
    (c.as_bytes.ensures.value ∙ c.format.ensures.text) c.put_pieces.ensures
