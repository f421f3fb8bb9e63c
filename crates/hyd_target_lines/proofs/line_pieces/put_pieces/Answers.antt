-- One text follows another.
use Rattle.std.proofs.lemmas.Result.{err_from_is_err_and}
use Rattle.std.proofs.Common.{ℕ, List, Bor}
use Rattle.hyd_target_lines.proofs.JoinedPieces.{joined-more, joined-split}
use Rattle.hyd_io.proofs.PutLemmas.{puts_then, puts_cut_off, puts_same}
use Rattle.hyd_target_lines.proofs.line_pieces.put_pieces.Goals as goal

pub returns-in_err-put_piece : goal.returns-in_err-put_piece
returns-in_err-put_piece g c =
    let p = err_from_is_err_and c.from_residual.result c.from_residual.ensures.1 in
    rw (p.1, p.2) (puts_cut_off _ _ c.in_err-put_piece.field-0.0 _ _ _ _ c.in_err-put_piece.ensures)

pub returns-in_err-put_piece-2 : goal.returns-in_err-put_piece-2
returns-in_err-put_piece-2 g c =
    let out = err_from_is_err_and c.from_residual-in_err-put_piece-2.result c.from_residual-in_err-put_piece-2.ensures.1 in
    rw (out.1, out.2) (let now : Bor (List ℕ) → List ℕ = λ p. p.now in
    puts_same _ _ _ _ _ _ _ (joined-split now c.args.pieces.now c.loop-piece.piece-index _ c.loop-piece-test.true)
    (puts_cut_off _ _ c.in_err-put_piece-2.field-0.0 _ _ _ _ (puts_then _ _ _ _ _ _ _ _ _ c.loop-piece.invariant
    c.in_err-put_piece-2.ensures)))

pub loop-piece-preserved : goal.loop-piece-preserved
loop-piece-preserved g c =
    let now : Bor (List ℕ) → List ℕ = λ p. p.now in
    puts_same _ _ _ _ _ _ _ (joined-more now c.args.pieces.now c.loop-piece.piece-index _ c.loop-piece-test.true)
    (puts_then _ _ _ _ _ _ _ _ _ c.loop-piece.invariant c.in_ok-put_piece-2.ensures)
