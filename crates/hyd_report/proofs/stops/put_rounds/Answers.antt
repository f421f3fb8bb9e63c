-- One part after another.
use Rattle.std.proofs.lemmas.Result.{err_from_is_err_and}
use Rattle.std.proofs.Common.{codes, ◌∙◌, ap}
use Rattle.std.specs.Fmt.{decimal}
use Rattle.hyd_report.proofs.StopLemmas.{three_pieces}
use Rattle.hyd_io.proofs.PutLemmas.{puts_then, puts_cut_off, puts_same}
use Rattle.hyd_report.proofs.stops.put_rounds.Goals as goal

pub returns-in_err-put_piece : goal.returns-in_err-put_piece
returns-in_err-put_piece g c =
    let p = err_from_is_err_and c.from_residual.result c.from_residual.ensures.1 in
    rw (p.1, p.2) (puts_cut_off _ _ c.in_err-put_piece.field-0.0 _ _ _ _ c.in_err-put_piece.ensures)

pub returns-in_err-put_problem : goal.returns-in_err-put_problem
returns-in_err-put_problem g c =
    let p = err_from_is_err_and c.from_residual-in_err-put_problem.result c.from_residual-in_err-put_problem.ensures.1 in
    rw (p.1, p.2) (puts_then _ _ _ _ _ _ _ _ _ c.in_ok-put_piece.ensures (puts_cut_off _ _ c.in_err-put_problem.field-0.0 _ _ _ _
    c.in_err-put_problem.ensures))

pub returns : goal.returns
returns g c =
    puts_then _ _ _ _ _ _ _ _ _ c.in_ok-put_piece.ensures (puts_then _ _ _ _ _ _ _ _ _ c.in_ok-put_problem.ensures
    (puts_same _ _ _ _ _ _ _ (three_pieces _ _ (codes "\n") (codes " ") _ c.as_slice.ensures (c.bytes.ensures ∙
    (c.number-rounds.ensures.text ∙ ap decimal c.from.ensures))) c.put_pieces.ensures))
