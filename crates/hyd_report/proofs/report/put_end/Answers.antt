-- Events, and then the changes by rules.
use Rattle.std.proofs.lemmas.Result.{err_from_is_err_and}
use Rattle.std.proofs.Common.{◌+◌, drop, refl}
use Rattle.hyd_spec_reports.specs.Report.{event_line}
use Rattle.hyd_spec_reports.specs.Report.{change_line}
use Rattle.hyd_report.specs.EventTextsAndChangesByRules.{before_rules}
use Rattle.hyd_report.proofs.LineLemmas.{end_text}
use Rattle.hyd_io.proofs.PutLemmas.{puts_then, puts_cut_off, puts_same}
use Rattle.hyd_report.proofs.report.put_end.Goals as goal

pub returns-in_err-put_events : goal.returns-in_err-put_events
returns-in_err-put_events g c =
    let p = err_from_is_err_and c.from_residual.result c.from_residual.ensures.1 in
    rw (p.1, p.2) (let facts = c.args.facts.now in
    let end = facts.time + facts.length in
    puts_same _ _ _ _ _ _ _
    (end_text c.args.project.now event_line change_line c.end_of-time.result end c.as_slice.result.now facts.events.list
    (drop (before_rules facts.changes.list) facts.changes.list) (drop (before_rules facts.changes.list)
    facts.changes.list) c.end_of-time.ensures c.as_slice.ensures refl)
    (puts_cut_off _ _ c.in_err-put_events.field-0.0 _ _ _ _ c.in_err-put_events.ensures))

pub returns : goal.returns
returns g c =
    let facts = c.args.facts.now in
    let end = facts.time + facts.length in
    puts_same _ _ _ _ _ _ _
    (end_text c.args.project.now event_line change_line c.end_of-time.result end c.as_slice.result.now facts.events.list
    c.by_rules.result.now (drop (before_rules facts.changes.list) facts.changes.list) c.end_of-time.ensures
    c.as_slice.ensures c.by_rules.ensures)
    (puts_then _ _ _ _ _ _ _ _ _ c.in_ok-put_events.ensures c.put_changes.ensures)
