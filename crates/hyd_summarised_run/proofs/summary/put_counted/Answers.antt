-- The text, and then the number.
use Rattle.std.proofs.lemmas.Result.{err_from_is_err_and}
use Rattle.hyd_io.proofs.PutLemmas.{puts_then, puts_cut_off, puts_ready}
use Rattle.hyd_summarised_run.proofs.summary.put_counted.Goals as goal

pub put_number-requires : goal.put_number-requires
put_number-requires g c = puts_ready _ _ _ _ _ _ c.in_ok-put.ensures c.requires

pub returns-in_err-put : goal.returns-in_err-put
returns-in_err-put g c =
    let p = err_from_is_err_and c.from_residual.result c.from_residual.ensures.1 in
    rw (p.1, p.2) (puts_cut_off _ _ c.in_err-put.field-0.0 _ _ _ _ c.in_err-put.ensures)

pub returns : goal.returns
returns g c = puts_then _ _ _ _ _ _ _ _ _ c.in_ok-put.ensures c.put_number.ensures
