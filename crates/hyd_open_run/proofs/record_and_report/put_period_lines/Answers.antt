-- What a report asks of a period.
use Rattle.std.proofs.Common.{ap}
use Rattle.hyd_open_certificates.specs.declared.open_row.OpenRow.{OpenRow}
use Rattle.hyd_open_run.proofs.OpenPeriodLemmas.{sound-there, net-there, states-there, bounds-there, tanks-there}
use Rattle.hyd_open_run.proofs.OpenPeriodLemmas.{links-there}
use Rattle.hyd_open_run.proofs.record_and_report.put_period_lines.Goals as goal

pub put_open_report-requires : goal.put_open_report-requires
put_open_report-requires g c =
    let is = c.project-project.ensures.is_sim in
    let p = c.project-project.ensures.project in
    let n = c.net-net.ensures in
    let r = ap (λ (f : OpenRow). f.row) c.found-found.ensures in
    let f = c.facts.ensures in
    record {
      sound = sound-there _ is c.requires.period _ _ _ _ p n r f;
      of = net-there _ is c.requires.period _ _ _ _ p n r f;
      states = states-there _ is c.requires.period _ _ _ _ p n r f;
      bounds = bounds-there _ is c.requires.period _ _ _ _ p n r f c.junctions-junctions.ensures.steady;
      tanks = tanks-there _ is c.requires.period _ _ _ _ p n r f;
      links = links-there _ is c.requires.period _ _ _ _ p n r f;
      ready = c.requires.ready;
    }

pub returns : goal.returns
returns g c =
    rw (
      c.project-project.ensures.project,
      c.net-net.ensures,
      c.found-found.ensures,
      c.facts.ensures,
      c.late_at_end.ensures,
      c.opened.ensures,
    ) at c.put_open_report.ensures.puts
