-- The header, and then the first line.
use Rattle.std.proofs.lemmas.Result.{err_from_is_err_and}
use Rattle.std.proofs.Common.{subst, sym}
use Rattle.std.specs.Prelude.{IsTrue}
use Rattle.hyd_run.proofs.PenLemmas.{on_any, both-put-in-order, cut-off-in-order}
use Rattle.hyd_run.proofs.first_lines_and_emptied_pens.put_front.Goals as goal

pub put_header-requires : goal.put_header-requires
put_header-requires g c = on_any _ _ c.requires.ready

pub put_first-requires : goal.put_first-requires
put_first-requires g c = on_any _ _ (subst IsTrue (sym c.in_ok-put_header.ensures.ready_stays) c.requires.ready)

pub returns-in_err-put_header : goal.returns-in_err-put_header
returns-in_err-put_header g c =
    let p = err_from_is_err_and c.from_residual.result c.from_residual.ensures.1 in
    rw (p.1, p.2) (cut-off-in-order _ _ c.in_err-put_header.field-0.0 _ _ _ _ _ c.requires c.in_err-put_header.ensures)

pub returns : goal.returns
returns g c = both-put-in-order _ _ _ _ _ _ _ _ _ _ c.requires c.in_ok-put_header.ensures c.put_first.ensures
