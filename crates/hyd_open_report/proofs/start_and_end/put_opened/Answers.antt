-- The events alone.
use Rattle.std.proofs.Common.{◌+◌, refl}
use Rattle.hyd_spec_reports.specs.Report.{event_line}
use Rattle.hyd_io.proofs.PutLemmas.{puts_same}
use Rattle.hyd_open_report.proofs.PutLines.{items_texts}
use Rattle.hyd_open_report.proofs.start_and_end.put_opened.Goals as goal

pub returns : goal.returns
returns g c =
    let facts = c.args.facts.now in
    puts_same _ _ _ _ _ _ _
    (items_texts c.args.project.now event_line c.first_end.result (facts.time + facts.length) c.args.late
    c.args.events.now c.args.events.now c.first_end.ensures.value refl)
    c.put_open_events.ensures
