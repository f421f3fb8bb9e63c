-- The record, and then the report.
use Rattle.std.proofs.lemmas.Result.{err_from_is_err_and}
use Rattle.std.proofs.Common.{subst, sym}
use Rattle.std.specs.Prelude.{IsTrue}
use Rattle.hyd_cert.specs.RecordView.{row_of}
use Rattle.hyd_run.proofs.PenLemmas.{on_any, both-put-in-order, cut-off-in-order}
use Rattle.hyd_run.proofs.PeriodLemmas.{bounds-of}
use Rattle.hyd_run.proofs.period_and_last_lines.put_period.Goals as goal

pub put_record-requires : goal.put_record-requires
put_record-requires g c = on_any _ _ c.requires.unbroken.ready

pub put_lines-requires-clause-bounds : goal.put_lines-requires-clause-bounds
put_lines-requires-clause-bounds g c =
    bounds-of c.args.project.now c.args.net.now (row_of c.args.row.now) c.requires.of
    c.junctions-junctions.ensures.steady c.requires.order
    c.requires.certificates

pub put_lines-requires-clause-ready : goal.put_lines-requires-clause-ready
put_lines-requires-clause-ready g c = on_any _ _ (subst IsTrue (sym c.in_ok-put_record.ensures.ready_stays)
    c.requires.unbroken.ready)

pub returns-in_err-put_record : goal.returns-in_err-put_record
returns-in_err-put_record g c =
    let p = err_from_is_err_and c.from_residual.result c.from_residual.ensures.1 in
    rw (p.1, p.2) (cut-off-in-order _ _ c.in_err-put_record.field-0.0 _ _ _ _ _ c.requires.unbroken c.in_err-put_record.ensures)

pub returns : goal.returns
returns g c =
    both-put-in-order _ _ _ _ _ _ _ _ _ _ c.requires.unbroken c.in_ok-put_record.ensures c.put_lines.ensures
