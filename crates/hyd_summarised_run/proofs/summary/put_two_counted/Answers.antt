-- One, and then the other.
use Rattle.std.proofs.lemmas.Result.{err_from_is_err_and}
use Rattle.hyd_io.proofs.PutLemmas.{puts_then, puts_cut_off, puts_ready}
use Rattle.hyd_summarised_run.proofs.summary.put_two_counted.Goals as goal

pub put_counted-requires-2 : goal.put_counted-requires-2
put_counted-requires-2 g c = puts_ready _ _ _ _ _ _ c.in_ok-put_counted.ensures c.requires

pub returns-in_err-put_counted : goal.returns-in_err-put_counted
returns-in_err-put_counted g c =
    let p = err_from_is_err_and c.from_residual.result c.from_residual.ensures.1 in
    rw (p.1, p.2) (puts_cut_off _ _ c.in_err-put_counted.field-0.0 _ _ _ _ c.in_err-put_counted.ensures)

pub returns : goal.returns
returns g c = puts_then _ _ _ _ _ _ _ _ _ c.in_ok-put_counted.ensures c.put_counted-2.ensures
