use Rattle.std.proofs.lemmas.Result.{err_from_is_err_and}
-- The report, then the FLOW lines, and then nothing but what is held.
use Rattle.std.proofs.Common.{◌∙◌, sym, ap, append-nil, map}
use Rattle.hyd_cert.specs.FlowPartView.{part_of}
use Rattle.hyd_cert.specs.declared.record.Record.{Record as Row}
use Rattle.hyd_flow.proofs.LinesOfFlows.{lines_there}
use Rattle.hyd_io.proofs.PutLemmas.{puts_then, puts_cut_off, puts_same, puts_ready}
use Rattle.hyd_period_network.specs.NetAsPeriodNetwork.{grid_of}
use Rattle.hyd_run.proofs.PeriodLemmas.{bounds-of}
use Rattle.hyd_run.proofs.StepLemmas.{sound-there, net-there, states-there, certificates-there, order-there}
use Rattle.hyd_run.proofs.StepLemmas.{tanks-there, links-there}
use Rattle.hyd_sim.specs.RunView.{standing_of}
use Rattle.hyd_spec.specs.Lists.{joined}
use Rattle.hyd_spec.specs.ProgramTypes.{Project}
use Rattle.hyd_spec_reports_with_flows.specs.FlowLines.{flow_line_text}
use Rattle.hyd_run_naming_flows.proofs.StepLemmas.{report-there, given-there, part-there, lines-now}
use Rattle.hyd_run_naming_flows.proofs.periods.put_lines.Goals as goal

pub put_report-requires : goal.put_report-requires
put_report-requires g c =
    let is = c.project-project.ensures.is_sim in
    let period = c.requires.period.1 in
    let p = c.project-project.ensures.project in
    let n = c.net-net.ensures in
    let r = c.row-row.ensures in
    let f = c.facts.ensures in
    record {
      sound = sound-there _ _ is period _ _ _ _ p n r f;
      of = net-there _ _ is period _ _ _ _ p n r f;
      states = states-there _ _ is period _ _ _ _ p n r f;
      bounds = bounds-of _ _ _ (net-there _ _ is period _ _ _ _ p n r f) c.junctions-junctions.ensures.steady
          (order-there _ _ is period _ _ _ _ p n r f) (certificates-there _ _ is period _ _ _ _ p n r f);
      tanks = tanks-there _ _ is period _ _ _ _ p n r f;
      links = links-there _ _ is period _ _ _ _ p n r f;
      ready = c.requires.ready;
    }

pub put_flow_lines-requires : goal.put_flow_lines-requires
put_flow_lines-requires g c =
    let is = c.project-project.ensures.is_sim in
    let period = c.requires.period.1 in
    let n = c.net-net.ensures in
    let r = c.row-row.ensures in
    record {
      sound = sound-there _ _ is period _ _ _ _ c.project-project.ensures.project n r c.facts.ensures;
      given = given-there _ _ is period _ _ n r c.junctions-junctions.ensures.steady;
      part = part-there _ _ is period _ _ n r _ c.requires.part;
      ready = puts_ready _ _ _ _ _ _ c.in_ok-put_report.ensures.puts c.requires.ready;
    }

pub returns-in_err-put_report : goal.returns-in_err-put_report
returns-in_err-put_report g c =
    let p = err_from_is_err_and c.from_residual.result c.from_residual.ensures.1 in
    rw (p.1, p.2) (λ standing at. let is = c.project-project.ensures.is_sim in
    let there = lines_there c.args.sim.now.project (grid_of c.args.sim.now.net) standing (part_of c.args.part.now)
    c.requires.part.joins in (
      there.0,
      (
        there.1,
        puts_cut_off _ _ c.in_err-put_report.field-0.0 _ _ _ _ (puts_same _ _ _ _ _ _ _ (report-there _ _ is c.requires.period.1 _ _ _
            _ c.project-project.ensures.project c.net-net.ensures c.row-row.ensures c.facts.ensures)
            c.in_err-put_report.ensures.puts),
      ),
    ))

pub empty_when_due-requires : goal.empty_when_due-requires
empty_when_due-requires g c =
    let put = c.in-Ok.ensures (standing_of c.requires.period.0)
    (sym c.requires.period.1.valid.time ∙ sym (ap (λ (row : Row). row.time) c.row-row.ensures)) in
    record {
      ready = puts_ready _ _ _ _ _ _ put.1.1 (puts_ready _ _ _ _ _ _ c.in_ok-put_report.ensures.puts c.requires.ready);
      unbroken = put.1.1.no_fault;
    }

pub returns-in-Err : goal.returns-in-Err
returns-in-Err g c standing at =
    let is = c.project-project.ensures.is_sim in
    let p = c.project-project.ensures.project in
    let n = c.net-net.ensures in
    let r = c.row-row.ensures in
    let put = c.in-Err.ensures standing (at ∙ sym (ap (λ (row : Row). row.time) r)) in (
      put.0,
      (
        lines-now _ _ is c.requires.period.1 _ _ n r _ standing _ put.0 p put.1.0,
        puts_then _ _ _ _ _ _ _ _ _ (puts_same _ _ _ _ _ _ _ (report-there _ _ is c.requires.period.1 _ _ _ _ p n r
            c.facts.ensures) c.in_ok-put_report.ensures.puts)
            (puts_same _ _ _ _ _ _ _ (ap (λ (q : Project). joined (map (flow_line_text q) put.0)) p) put.1.1),
      ),
    )

pub returns-in-Ok : goal.returns-in-Ok
returns-in-Ok g c standing at =
    let is = c.project-project.ensures.is_sim in
    let p = c.project-project.ensures.project in
    let n = c.net-net.ensures in
    let r = c.row-row.ensures in
    let put = c.in-Ok.ensures standing (at ∙ sym (ap (λ (row : Row). row.time) r)) in (
      put.0,
      (
        lines-now _ _ is c.requires.period.1 _ _ n r _ standing _ put.0 p put.1.0,
        puts_same _ _ _ _ _ _ _ (append-nil _) (puts_then _ _ _ _ _ _ _ _ _
            (puts_then _ _ _ _ _ _ _ _ _ (puts_same _ _ _ _ _ _ _ (report-there _ _ is c.requires.period.1 _ _ _ _ p n
            r c.facts.ensures) c.in_ok-put_report.ensures.puts)
            (puts_same _ _ _ _ _ _ _ (ap (λ (q : Project). joined (map (flow_line_text q) put.0)) p) put.1.1))
            c.empty_when_due.ensures),
      ),
    )
