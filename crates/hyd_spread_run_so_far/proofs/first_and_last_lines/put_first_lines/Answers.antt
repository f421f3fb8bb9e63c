-- The first line, and then that of the spread.
use Rattle.std.proofs.lemmas.Result.{err_from_is_err_and}
use Rattle.hyd_io.proofs.PutLemmas.{puts_then, puts_cut_off, puts_ready}
use Rattle.hyd_spread_run_so_far.proofs.first_and_last_lines.put_first_lines.Goals as goal

pub put_second_line-requires-clause-ready : goal.put_second_line-requires-clause-ready
put_second_line-requires-clause-ready g c = puts_ready _ _ _ _ _ _ c.in_ok-put_first.ensures c.requires.ready

pub put_second_line-requires-clause-unbroken : goal.put_second_line-requires-clause-unbroken
put_second_line-requires-clause-unbroken g c = c.in_ok-put_first.ensures.no_fault

pub returns-in_err-put_first : goal.returns-in_err-put_first
returns-in_err-put_first g c =
    let p = err_from_is_err_and c.from_residual.result c.from_residual.ensures.1 in
    rw (p.1, p.2) (puts_cut_off _ _ c.in_err-put_first.field-0.0 _ _ _ _ c.in_err-put_first.ensures)

pub returns : goal.returns
returns g c = puts_then _ _ _ _ _ _ _ _ _ c.in_ok-put_first.ensures c.put_second_line.ensures
