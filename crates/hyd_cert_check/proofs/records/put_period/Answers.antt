-- What a report asks of a period, and its two parts.
use Rattle.std.proofs.Common.{sym, ap, refl, ◌∙◌}
use Rattle.hyd_cert.specs.declared.record.Record.{Record as Row}
use Rattle.hyd_io.proofs.PutLemmas.{puts_then, puts_cut_off, puts_ready}
use Rattle.hyd_flow.proofs.LinesOfFlows.{lines_there}
use Rattle.hyd_cert_check.proofs.RecordLemmas.{sound-there, net-there, states-there, bounds-there, tanks-there}
use Rattle.hyd_cert_check.proofs.RecordLemmas.{links-there, given-there}
use Rattle.hyd_cert_check.proofs.records.put_period.Goals as goal

pub put_report-requires : goal.put_report-requires
put_report-requires g c =
    let is = c.project-project.ensures.is_sim in
    let p = c.project-project.ensures.project in
    record {
      sound = sound-there _ is c.requires.period _ _ _ _ p c.net-net.ensures c.row-row.ensures c.facts.ensures;
      of = net-there _ is c.requires.period _ _ _ _ p c.net-net.ensures c.row-row.ensures c.facts.ensures;
      states = states-there _ is c.requires.period _ _ _ _ p c.net-net.ensures c.row-row.ensures c.facts.ensures;
      bounds = bounds-there _ is c.requires.period _ _ _ _ p c.net-net.ensures c.row-row.ensures c.facts.ensures
          c.junctions-junctions.ensures.steady;
      tanks = tanks-there _ is c.requires.period _ _ _ _ p c.net-net.ensures c.row-row.ensures c.facts.ensures;
      links = links-there _ is c.requires.period _ _ _ _ p c.net-net.ensures c.row-row.ensures c.facts.ensures;
      ready = c.requires.ready;
    }

pub put_flow_lines-requires : goal.put_flow_lines-requires
put_flow_lines-requires g c =
    let is = c.project-project.ensures.is_sim in
    let p = c.project-project.ensures.project in
    record {
      sound = sound-there _ is c.requires.period _ _ _ _ p c.net-net.ensures c.row-row.ensures refl;
      given = given-there _ is c.requires.period _ _ _ _ p c.net-net.ensures c.row-row.ensures refl
          c.junctions-junctions.ensures.steady;
      part = rw (c.net-net.ensures, c.row-row.ensures) c.requires.part;
      ready = puts_ready _ _ _ _ _ _ c.in-Ok.ensures.puts c.requires.ready;
    }

pub returns-in-Err : goal.returns-in-Err
returns-in-Err g c standing begins =
    let there = lines_there c.args.sim.now.project _ standing _ c.requires.part.joins in (
      there.0,
      (
        there.1,
        puts_cut_off _ _ c.in-Err.fault _ _ _ _
            (rw (c.project-project.ensures.project, c.net-net.ensures, c.row-row.ensures, c.facts.ensures)
            at c.in-Err.ensures.puts),
      ),
    )

pub returns-in-Ok : goal.returns-in-Ok
returns-in-Ok g c standing begins =
    let put = rw (c.project-project.ensures.project, c.net-net.ensures)
    at (c.put_flow_lines.ensures standing (begins ∙ ap (λ (r : Row). r.time) (sym c.row-row.ensures))) in (
      put.0,
      (
        put.1.0,
        puts_then _ _ _ _ _ _ _ _ _
            (rw (c.project-project.ensures.project, c.net-net.ensures, c.row-row.ensures, c.facts.ensures)
            at c.in-Ok.ensures.puts) put.1.1,
      ),
    )
