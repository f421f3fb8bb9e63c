use Rattle.std.proofs.Common.{map, take}
use Rattle.std.specs.Prelude.{Ok}
use Rattle.hyd_spec.specs.Lists.{joined}
use Rattle.hyd_io.specs.TextPutIn.{Puts}
use Rattle.hyd_open_lines.proofs.line_pieces.put_pieces.Given as goal

-- the pieces so far were put
abbrev pub invariant-loop-piece : goal.invariant-loop-piece
invariant-loop-piece g l = Puts g.D.Desk.files g.D.Desk.rest g.D.Desk.written g.D.Desk.printed g.D.Desk.target
    g.D.Desk.ready g.D.Desk.counts g.D.Desk.openings
    (joined (map (λ p. p.now) (take l.piece-index l.pieces))) (Ok tt) l.fn.pen l.pen l.fn.desk l.desk
