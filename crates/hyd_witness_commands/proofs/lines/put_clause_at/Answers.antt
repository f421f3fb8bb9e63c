-- The line of a clause at a place.
use Rattle.std.proofs.Common.{ℕ, List, ◌∙◌}
use Rattle.hyd_io.specs.TextPutIn.{Puts}
use Rattle.hyd_witness_commands.proofs.LinesPutInPieces.{clause_at_put}
use Rattle.hyd_witness_commands.proofs.lines.put_clause_at.Goals as goal

pub returns : goal.returns
returns g c =
    clause_at_put
    (λ (text : List ℕ). Puts g.D.Desk.files g.D.Desk.rest g.D.Desk.written g.D.Desk.printed g.D.Desk.target
    g.D.Desk.ready g.D.Desk.counts g.D.Desk.openings
    text c.put_pieces.result c.args.pen.now c.put_pieces.new.pen c.args.desk.now c.put_pieces.new.desk)
    c.args.period c.as_slice.result.now c.as_bytes.result.now c.args.clause.now c.args.id.now c.as_slice.ensures
    (c.as_bytes.ensures.value ∙ c.format.ensures.text) c.put_pieces.ensures
