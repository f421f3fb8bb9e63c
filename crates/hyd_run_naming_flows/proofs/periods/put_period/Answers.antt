-- The record with its part, and then the report with its FLOW lines.
use Rattle.std.proofs.Common.{subst, sym, ap}
use Rattle.std.specs.Prelude.{IsTrue}
use Rattle.hyd_cert.specs.FlowPartView.{part_of}
use Rattle.hyd_cert.specs.RecordView.{row_of}
use Rattle.hyd_cert.specs.declared.record.Record.{Record as Row}
use Rattle.hyd_flow.proofs.LinesOfFlows.{lines_there}
use Rattle.hyd_io.proofs.PutLemmas.{puts_same}
use Rattle.hyd_period_network.specs.NetAsPeriodNetwork.{grid_of}
use Rattle.hyd_run.proofs.PenLemmas.{on_any, both-put-in-order, cut-off-in-order}
use Rattle.hyd_spec_flows.specs.FlowTexts.{entry_text}
use Rattle.hyd_run_naming_flows.proofs.periods.put_period.Goals as goal

pub put_entry-requires : goal.put_entry-requires
put_entry-requires g c = on_any _ _ c.requires.unbroken.ready

pub put_lines-requires-clause-ready : goal.put_lines-requires-clause-ready
put_lines-requires-clause-ready g c = on_any _ _ (subst IsTrue (sym c.in-Ok.ensures.ready_stays)
    c.requires.unbroken.ready)

pub returns-in-Err : goal.returns-in-Err
returns-in-Err g c standing at =
    let part = part_of c.args.part.now in
    let there = lines_there c.args.sim.now.project (grid_of c.args.sim.now.net) standing part c.requires.part.joins in (
      there.0,
      (
        there.1,
        cut-off-in-order _ _ c.in-Err.fault _ _ _ _ _ c.requires.unbroken (puts_same _ _ _ _ _ _ _
            (ap (λ (row : Row). entry_text (record { row = row_of row; part = part })) c.row.ensures)
            c.in-Err.ensures),
      ),
    )

pub returns-in-Ok : goal.returns-in-Ok
returns-in-Ok g c standing at =
    let part = part_of c.args.part.now in
    let put = c.put_lines.ensures standing at in (
      put.0,
      (
        put.1.0,
        both-put-in-order _ _ _ _ _ _ _ _ _ _ c.requires.unbroken (puts_same _ _ _ _ _ _ _
            (ap (λ (row : Row). entry_text (record { row = row_of row; part = part })) c.row.ensures) c.in-Ok.ensures)
            put.1.1,
      ),
    )
