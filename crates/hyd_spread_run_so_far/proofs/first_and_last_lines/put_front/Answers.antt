-- The header, and then the first lines.
use Rattle.std.proofs.lemmas.Result.{err_from_is_err_and}
use Rattle.std.proofs.Common.{subst, sym}
use Rattle.std.specs.Prelude.{IsTrue}
use Rattle.hyd_run.proofs.PenLemmas.{on_any, both-put-in-order, cut-off-in-order}
use Rattle.hyd_spread_run_so_far.proofs.first_and_last_lines.put_front.Goals as goal

pub put_open_header-requires : goal.put_open_header-requires
put_open_header-requires g c = on_any _ _ c.requires.unbroken.ready

pub put_first_lines-requires-clause-ready : goal.put_first_lines-requires-clause-ready
put_first_lines-requires-clause-ready g c =
    on_any _ _ (subst IsTrue (sym c.in_ok-put_open_header.ensures.ready_stays) c.requires.unbroken.ready)

pub returns-in_err-put_open_header : goal.returns-in_err-put_open_header
returns-in_err-put_open_header g c =
    let p = err_from_is_err_and c.from_residual.result c.from_residual.ensures.1 in
    rw (p.1, p.2) (cut-off-in-order _ _ c.in_err-put_open_header.field-0.0 _ _ _ _ _ c.requires.unbroken c.in_err-put_open_header.ensures)

pub returns : goal.returns
returns g c =
    both-put-in-order _ _ _ _ _ _ _ _ _ _ c.requires.unbroken c.in_ok-put_open_header.ensures c.put_first_lines.ensures
