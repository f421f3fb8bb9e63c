-- Events, then the changes by rules, then the events of an open end.
use Rattle.std.proofs.lemmas.Result.{err_from_is_err_and}
use Rattle.std.proofs.Common.{◌+◌, drop, refl}
use Rattle.hyd_spec_reports.specs.Report.{event_line, change_line}
use Rattle.hyd_report.specs.EventTextsAndChangesByRules.{before_rules}
use Rattle.hyd_io.proofs.PutLemmas.{puts_then, puts_cut_off, puts_same}
use Rattle.hyd_open_report.specs.OpenPeriodLines.{opened_lines}
use Rattle.hyd_open_report.proofs.PutLines.{end_texts}
use Rattle.hyd_open_report.proofs.start_and_end.put_end.Goals as goal

pub returns-in_err-put_open_events : goal.returns-in_err-put_open_events
returns-in_err-put_open_events g c =
    let p = err_from_is_err_and c.from_residual.result c.from_residual.ensures.1 in
    rw (p.1, p.2) (let facts = c.args.facts.now in
    let rules = drop (before_rules facts.changes.list) facts.changes.list in
    puts_same _ _ _ _ _ _ _
    (end_texts c.args.project.now event_line change_line c.first_end.result (facts.time + facts.length)
    c.as_slice.result.now facts.events.list rules rules (opened_lines facts c.args.late c.args.events.now)
    c.first_end.ensures.value c.as_slice.ensures refl)
    (puts_cut_off _ _ c.in_err-put_open_events.field-0.0 _ _ _ _ c.in_err-put_open_events.ensures))

pub returns-in_err-put_open_changes : goal.returns-in_err-put_open_changes
returns-in_err-put_open_changes g c =
    let p = err_from_is_err_and c.from_residual-in_err-put_open_changes.result c.from_residual-in_err-put_open_changes.ensures.1 in
    rw (p.1, p.2) (let facts = c.args.facts.now in
    let rules = drop (before_rules facts.changes.list) facts.changes.list in
    puts_same _ _ _ _ _ _ _
    (end_texts c.args.project.now event_line change_line c.first_end.result (facts.time + facts.length)
    c.as_slice.result.now facts.events.list c.by_rules.result.now rules
    (opened_lines facts c.args.late c.args.events.now) c.first_end.ensures.value c.as_slice.ensures c.by_rules.ensures)
    (puts_then _ _ _ _ _ _ _ _ _ c.in_ok-put_open_events.ensures (puts_cut_off _ _ c.in_err-put_open_changes.field-0.0 _ _ _ _
    c.in_err-put_open_changes.ensures)))

pub returns : goal.returns
returns g c =
    let facts = c.args.facts.now in
    let rules = drop (before_rules facts.changes.list) facts.changes.list in
    puts_same _ _ _ _ _ _ _
    (end_texts c.args.project.now event_line change_line c.first_end.result (facts.time + facts.length)
    c.as_slice.result.now facts.events.list c.by_rules.result.now rules
    (opened_lines facts c.args.late c.args.events.now) c.first_end.ensures.value c.as_slice.ensures c.by_rules.ensures)
    (puts_then _ _ _ _ _ _ _ _ _ c.in_ok-put_open_events.ensures (puts_then _ _ _ _ _ _ _ _ _ c.in_ok-put_open_changes.ensures
    c.put_opened.ensures))
