-- What hyd_report puts and the events of an open end, or the start and the end.
use Rattle.std.proofs.lemmas.Result.{err_from_is_err_and}
use Rattle.hyd_cert.specs.RecordView.{row_of}
use Rattle.hyd_period_network.specs.NetAsPeriodNetwork.{grid_of, states_of}
use Rattle.hyd_io.proofs.PutLemmas.{puts_then, puts_cut_off, puts_same}
use Rattle.hyd_open_report.proofs.PutLines.{known_report, open_report}
use Rattle.hyd_open_report.proofs.OpenReports.{is_report}
use Rattle.hyd_open_report.proofs.open_report.put_open_report.Goals as goal

pub returns-in_err-put_report-clause-report : goal.returns-in_err-put_report-clause-report
returns-in_err-put_report-clause-report g c =
    is_report c.args.project.now c.args.net.now (row_of c.args.row.now) c.args.facts.now c.args.late
    c.args.events.now c.requires.of c.requires.tanks c.requires.links

pub returns-in_err-put_report-clause-puts : goal.returns-in_err-put_report-clause-puts
returns-in_err-put_report-clause-puts g c =
    let p = err_from_is_err_and c.from_residual.result c.from_residual.ensures.1 in
    rw (p.1, p.2) (puts_same _ _ _ _ _ _ _
    (known_report c.args.project.now (grid_of c.args.net.now) (states_of c.args.net.now) (row_of c.args.row.now)
    c.args.facts.now c.args.late c.args.events.now c.if-late-eq0.true)
    (puts_cut_off _ _ c.in_err-put_report.field-0.0 _ _ _ _ c.in_err-put_report.ensures.puts))

pub returns-then-late-eq0-clause-report : goal.returns-then-late-eq0-clause-report
returns-then-late-eq0-clause-report g c =
    is_report c.args.project.now c.args.net.now (row_of c.args.row.now) c.args.facts.now c.args.late
    c.args.events.now c.requires.of c.requires.tanks c.requires.links

pub returns-then-late-eq0-clause-puts : goal.returns-then-late-eq0-clause-puts
returns-then-late-eq0-clause-puts g c =
    puts_same _ _ _ _ _ _ _
    (known_report c.args.project.now (grid_of c.args.net.now) (states_of c.args.net.now) (row_of c.args.row.now)
    c.args.facts.now c.args.late c.args.events.now c.if-late-eq0.true)
    (puts_then _ _ _ _ _ _ _ _ _ c.in_ok-put_report.ensures.puts c.put_opened.ensures)

pub returns-in_err-put_start-clause-report : goal.returns-in_err-put_start-clause-report
returns-in_err-put_start-clause-report g c =
    is_report c.args.project.now c.args.net.now (row_of c.args.row.now) c.args.facts.now c.args.late
    c.args.events.now c.requires.of c.requires.tanks c.requires.links

pub returns-in_err-put_start-clause-puts : goal.returns-in_err-put_start-clause-puts
returns-in_err-put_start-clause-puts g c =
    let p = err_from_is_err_and c.from_residual-in_err-put_start.result c.from_residual-in_err-put_start.ensures.1 in
    rw (p.1, p.2) (puts_same _ _ _ _ _ _ _
    (open_report c.args.project.now (grid_of c.args.net.now) (states_of c.args.net.now) (row_of c.args.row.now)
    c.args.facts.now c.args.late c.args.events.now c.if-late-eq0.false)
    (puts_cut_off _ _ c.in_err-put_start.field-0.0 _ _ _ _ c.in_err-put_start.ensures))

pub returns-clause-report : goal.returns-clause-report
returns-clause-report g c =
    is_report c.args.project.now c.args.net.now (row_of c.args.row.now) c.args.facts.now c.args.late
    c.args.events.now c.requires.of c.requires.tanks c.requires.links

pub returns-clause-puts : goal.returns-clause-puts
returns-clause-puts g c =
    puts_same _ _ _ _ _ _ _
    (open_report c.args.project.now (grid_of c.args.net.now) (states_of c.args.net.now) (row_of c.args.row.now)
    c.args.facts.now c.args.late c.args.events.now c.if-late-eq0.false)
    (puts_then _ _ _ _ _ _ _ _ _ c.in_ok-put_start.ensures c.put_end.ensures)
