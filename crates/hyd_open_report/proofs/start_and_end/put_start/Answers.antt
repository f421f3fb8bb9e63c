-- The changes by controls alone.
use Rattle.std.proofs.lemmas.Result.{err_from_is_err_and}
use Rattle.std.proofs.Common.{take}
use Rattle.hyd_spec_reports.specs.Report.{change_line}
use Rattle.hyd_report.specs.EventTextsAndChangesByRules.{before_rules}
use Rattle.hyd_io.proofs.PutLemmas.{puts_then, puts_cut_off, puts_same}
use Rattle.hyd_open_report.proofs.PutLines.{items_texts}
use Rattle.hyd_open_report.proofs.start_and_end.put_start.Goals as goal

pub returns-in_err-put : goal.returns-in_err-put
returns-in_err-put g c =
    let p = err_from_is_err_and c.from_residual.result c.from_residual.ensures.1 in
    rw (p.1, p.2) (puts_cut_off _ _ c.in_err-put.field-0.0 _ _ _ _ c.in_err-put.ensures)

pub returns : goal.returns
returns g c =
    let facts = c.args.facts.now in
    puts_same _ _ _ _ _ _ _
    (items_texts c.args.project.now change_line c.from.result facts.time c.args.late c.by_controls.result.now
    (take (before_rules facts.changes.list) facts.changes.list) c.from.ensures c.by_controls.ensures)
    (puts_then _ _ _ _ _ _ _ _ _ c.in_ok-put.ensures c.put_open_changes.ensures)
