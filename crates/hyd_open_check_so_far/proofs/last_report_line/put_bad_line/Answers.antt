-- One part after another.
use Rattle.std.proofs.lemmas.Result.{err_from_is_err_and}
use Rattle.hyd_io.proofs.PutLemmas.{puts_then, puts_cut_off, puts_ready}
use Rattle.hyd_open_check_so_far.proofs.last_report_line.put_bad_line.Goals as goal

pub put_number-requires : goal.put_number-requires
put_number-requires g c = puts_ready _ _ _ _ _ _ c.in_ok-put.ensures c.requires

pub put-requires-2 : goal.put-requires-2
put-requires-2 g c = puts_ready _ _ _ _ _ _ c.in_ok-put_number.ensures (puts_ready _ _ _ _ _ _ c.in_ok-put.ensures
    c.requires)

pub returns-in_err-put : goal.returns-in_err-put
returns-in_err-put g c =
    let p = err_from_is_err_and c.from_residual.result c.from_residual.ensures.1 in
    rw (p.1, p.2) (puts_cut_off _ _ c.in_err-put.field-0.0 _ _ _ _ c.in_err-put.ensures)

pub returns-in_err-put_number : goal.returns-in_err-put_number
returns-in_err-put_number g c =
    let p = err_from_is_err_and c.from_residual-in_err-put_number.result c.from_residual-in_err-put_number.ensures.1 in
    rw (p.1, p.2) (puts_then _ _ _ _ _ _ _ _ _ c.in_ok-put.ensures (puts_cut_off _ _ c.in_err-put_number.field-0.0 _ _ _ _
    (rw c.from.ensures at c.in_err-put_number.ensures)))

pub returns : goal.returns
returns g c =
    puts_then _ _ _ _ _ _ _ _ _ c.in_ok-put.ensures (puts_then _ _ _ _ _ _ _ _ _
    (rw c.from.ensures at c.in_ok-put_number.ensures) c.put-2.ensures)
