-- The start, what is told of a report time, and the end.
use Rattle.std.proofs.lemmas.Result.{err_from_is_err_and}
use Rattle.hyd_spec_certificates.specs.declared.Side.TheVariants.{Upper}
use Rattle.hyd_cert.specs.RecordView.{row_of}
use Rattle.hyd_period_network.specs.NetAsPeriodNetwork.{states_of}
use Rattle.hyd_open_report.specs.OpenPeriodLines.{open_start_lines, open_end_lines}
use Rattle.hyd_io.proofs.PutLemmas.{puts_then, puts_cut_off, puts_same}
use Rattle.hyd_spread_networks.specs.NetsOfSpreads.{pair_of}
use Rattle.hyd_spread_report.specs.LinesOverBothSides.{middle_lines_over}
use Rattle.hyd_spread_report.proofs.PartsPut.{parts_text}
use Rattle.hyd_spread_report.proofs.SpreadReports.{is_report}
use Rattle.hyd_spread_report.proofs.spread_report.put_spread_report.Goals as goal

pub returns-in_err-put_start-clause-report : goal.returns-in_err-put_start-clause-report
returns-in_err-put_start-clause-report g c =
    is_report c.args.project.now c.args.nets.now.upper c.args.nets.now.lower (row_of c.args.row.now)
    c.args.facts.now c.args.late c.args.events.now (c.requires.of.each Upper) c.requires.pair c.requires.tanks
    c.requires.links

pub returns-in_err-put_told-clause-report : goal.returns-in_err-put_told-clause-report
returns-in_err-put_told-clause-report g c =
    is_report c.args.project.now c.args.nets.now.upper c.args.nets.now.lower (row_of c.args.row.now)
    c.args.facts.now c.args.late c.args.events.now (c.requires.of.each Upper) c.requires.pair c.requires.tanks
    c.requires.links

pub returns-clause-report : goal.returns-clause-report
returns-clause-report g c =
    is_report c.args.project.now c.args.nets.now.upper c.args.nets.now.lower (row_of c.args.row.now)
    c.args.facts.now c.args.late c.args.events.now (c.requires.of.each Upper) c.requires.pair c.requires.tanks
    c.requires.links

pub returns-in_err-put_start-clause-puts : goal.returns-in_err-put_start-clause-puts
returns-in_err-put_start-clause-puts g c =
    let p = err_from_is_err_and c.from_residual.result c.from_residual.ensures.1 in
    rw (p.1, p.2) (let facts = c.args.facts.now in
    puts_same _ _ _ _ _ _ _
    (parts_text c.args.project.now (open_start_lines facts c.args.late.start)
    (middle_lines_over c.args.project.now (pair_of c.args.nets.now) (states_of c.args.nets.now.upper)
    (row_of c.args.row.now) facts c.args.late.start) (open_end_lines facts c.args.late.end c.args.events.now))
    (puts_cut_off _ _ c.in_err-put_start.field-0.0 _ _ _ _ c.in_err-put_start.ensures))

pub returns-in_err-put_told-clause-puts : goal.returns-in_err-put_told-clause-puts
returns-in_err-put_told-clause-puts g c =
    let p = err_from_is_err_and c.from_residual-in_err-put_told.result c.from_residual-in_err-put_told.ensures.1 in
    rw (p.1, p.2) (let facts = c.args.facts.now in
    puts_same _ _ _ _ _ _ _
    (parts_text c.args.project.now (open_start_lines facts c.args.late.start)
    (middle_lines_over c.args.project.now (pair_of c.args.nets.now) (states_of c.args.nets.now.upper)
    (row_of c.args.row.now) facts c.args.late.start) (open_end_lines facts c.args.late.end c.args.events.now))
    (puts_then _ _ _ _ _ _ _ _ _ c.in_ok-put_start.ensures (puts_cut_off _ _ c.in_err-put_told.field-0.0 _ _ _ _
    c.in_err-put_told.ensures)))

pub returns-clause-puts : goal.returns-clause-puts
returns-clause-puts g c =
    let facts = c.args.facts.now in
    puts_same _ _ _ _ _ _ _
    (parts_text c.args.project.now (open_start_lines facts c.args.late.start)
    (middle_lines_over c.args.project.now (pair_of c.args.nets.now) (states_of c.args.nets.now.upper)
    (row_of c.args.row.now) facts c.args.late.start) (open_end_lines facts c.args.late.end c.args.events.now))
    (puts_then _ _ _ _ _ _ _ _ _ c.in_ok-put_start.ensures (puts_then _ _ _ _ _ _ _ _ _ c.in_ok-put_told.ensures
    c.put_end.ensures))
