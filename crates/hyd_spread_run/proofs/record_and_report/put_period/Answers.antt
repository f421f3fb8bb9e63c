-- The record, and then the report.
use Rattle.std.proofs.lemmas.Result.{err_from_is_err_and}
use Rattle.std.proofs.Common.{subst, sym}
use Rattle.std.specs.Prelude.{IsTrue}
use Rattle.hyd_run.proofs.PenLemmas.{on_any, both-put-in-order, cut-off-in-order}
use Rattle.hyd_spread_run.proofs.record_and_report.put_period.Goals as goal

pub put_open_record-requires : goal.put_open_record-requires
put_open_record-requires g c = on_any _ _ c.requires.unbroken.ready

pub put_lines-requires-clause-ready : goal.put_lines-requires-clause-ready
put_lines-requires-clause-ready g c = on_any _ _ (subst IsTrue (sym c.in_ok-put_open_record.ensures.ready_stays)
    c.requires.unbroken.ready)

pub returns-in_err-put_open_record : goal.returns-in_err-put_open_record
returns-in_err-put_open_record g c =
    let p = err_from_is_err_and c.from_residual.result c.from_residual.ensures.1 in
    rw (p.1, p.2) (cut-off-in-order _ _ c.in_err-put_open_record.field-0.0 _ _ _ _ _ c.requires.unbroken
    (rw c.found.ensures at c.in_err-put_open_record.ensures))

pub returns : goal.returns
returns g c =
    both-put-in-order _ _ _ _ _ _ _ _ _ _ c.requires.unbroken (rw c.found.ensures at c.in_ok-put_open_record.ensures)
    c.put_lines.ensures
