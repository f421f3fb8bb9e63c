-- A new pen holds nothing and is on standard output.
use Rattle.std.proofs.Common.{◌≡◌, subst}
use Rattle.std.specs.Prelude.{OnOk, OnErr}
use Rattle.hyd_io.specs.DeskBytes.{append_known, PutOut}
use Rattle.hyd_spec_certificates.specs.declared.StopCause.{StopCause}
use Rattle.hyd_spec_reports.specs.ReportLine.{stop_line}
use Rattle.std.proofs.lemmas.Result.{err_from_is_err_and, on_ok_weaker, on_err_weaker}
use Rattle.hyd_target_commands.proofs.TextsPrinted.{whole-of-flush, front-of-flush, cause-of-flush, steady-by-flush}
use Rattle.hyd_target_commands.proofs.TextsPrinted.{openings-by-flush, files-by-flush, front-of-put, written-by-flush}
use Rattle.hyd_target_commands.proofs.printed_demand.print_demand.Goals as goal

-- the put failed
pub returns-in_err-put_stop-clause-front : goal.returns-in_err-put_stop-clause-front
returns-in_err-put_stop-clause-front g c =
    let p = err_from_is_err_and c.from_residual.result c.from_residual.ensures.1 in
    rw p.1 (subst (λ (cause : StopCause). PutOut (g.D.Desk.printed c.args.desk.now)
    (g.D.Desk.printed c.put_stop.new.desk) (stop_line c.args.project.now 0 cause)) c.demand_cause-cause.ensures
    (front-of-put _ _ _ _ _ c.new-pen.ensures c.in_err-put_stop.field-0.0 c.in_err-put_stop.ensures).printed)

-- ---- the pen was flushed

pub returns-clause-whole : goal.returns-clause-whole
returns-clause-whole g c =
    subst (λ (cause : StopCause). OnOk c.flush.result (g.D.Desk.printed c.flush.new.desk
    ≡ append_known (g.D.Desk.printed c.args.desk.now) (stop_line c.args.project.now 0 cause))) c.demand_cause-cause.ensures
    (on_ok_weaker c.flush.result (λ w. w.printed)
    (whole-of-flush _ _ _ _ _ c.new-pen.ensures _ _ c.flush.result c.in_ok-put_stop.ensures c.flush.ensures))

pub returns-clause-front : goal.returns-clause-front
returns-clause-front g c =
    subst (λ (cause : StopCause). OnErr c.flush.result (PutOut (g.D.Desk.printed c.args.desk.now)
    (g.D.Desk.printed c.flush.new.desk) (stop_line c.args.project.now 0 cause))) c.demand_cause-cause.ensures
    (on_err_weaker c.flush.result (λ w. w.printed)
    (front-of-flush _ _ _ _ _ c.new-pen.ensures _ _ c.flush.result c.in_ok-put_stop.ensures c.flush.ensures))

pub returns-clause-cause : goal.returns-clause-cause
returns-clause-cause g c =
    cause-of-flush _ _ _ _ _ c.new-pen.ensures _ _ c.flush.result c.in_ok-put_stop.ensures c.flush.ensures

pub returns-clause-steady : goal.returns-clause-steady
returns-clause-steady g c =
    steady-by-flush _ _ _ _ _ c.new-pen.ensures _ _ c.flush.result c.in_ok-put_stop.ensures c.flush.ensures

pub returns-clause-files_stay : goal.returns-clause-files_stay
returns-clause-files_stay g c =
    files-by-flush _ _ _ _ _ c.new-pen.ensures _ _ c.flush.result c.in_ok-put_stop.ensures c.flush.ensures

pub returns-clause-written_stays : goal.returns-clause-written_stays
returns-clause-written_stays g c =
    written-by-flush _ _ _ _ _ c.new-pen.ensures _ _ c.flush.result c.in_ok-put_stop.ensures c.flush.ensures

pub returns-clause-openings_stay : goal.returns-clause-openings_stay
returns-clause-openings_stay g c =
    openings-by-flush _ _ _ _ _ c.new-pen.ensures _ _ c.flush.result c.in_ok-put_stop.ensures c.flush.ensures
