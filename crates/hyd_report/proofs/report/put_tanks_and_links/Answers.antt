-- One part after another.
use Rattle.std.proofs.lemmas.Result.{err_from_is_err_and}
use Rattle.std.proofs.Common.{refl}
use Rattle.hyd_cert.specs.RecordView.{row_of}
use Rattle.hyd_period_network.specs.NetAsPeriodNetwork.{grid_of, states_of}
use Rattle.hyd_report.proofs.LineLemmas.{tanks_text}
use Rattle.hyd_io.proofs.PutLemmas.{puts_then, puts_cut_off, puts_same}
use Rattle.hyd_report.proofs.report.put_tanks_and_links.Goals as goal

pub returns-in_err-put_tanks : goal.returns-in_err-put_tanks
returns-in_err-put_tanks g c =
    let p = err_from_is_err_and c.from_residual.result c.from_residual.ensures.1 in
    rw (p.1, p.2) (let net = c.args.net.now in
    let row = row_of c.args.row.now in
    let facts = c.args.facts.now in
    puts_same _ _ _ _ _ _ _
    (tanks_text c.args.project.now (grid_of net) (states_of net) c.as_slice.result.now facts.levels.list
    c.as_slice-2.result.now facts.inflows.list
    c.as_slice-3.result.now facts.tanks.list row.main.lower row.main.lower row.main.upper row.main.upper
    c.as_slice.ensures c.as_slice-2.ensures c.as_slice-3.ensures refl refl)
    (puts_cut_off _ _ c.in_err-put_tanks.field-0.0 _ _ _ _ c.in_err-put_tanks.ensures))

pub returns : goal.returns
returns g c =
    let net = c.args.net.now in
    let row = row_of c.args.row.now in
    let facts = c.args.facts.now in
    puts_same _ _ _ _ _ _ _
    (tanks_text c.args.project.now (grid_of net) (states_of net) c.as_slice.result.now facts.levels.list
    c.as_slice-2.result.now facts.inflows.list
    c.as_slice-3.result.now facts.tanks.list c.vector-lower.result.now row.main.lower c.vector-upper.result.now
    row.main.upper
    c.as_slice.ensures c.as_slice-2.ensures c.as_slice-3.ensures c.vector-lower.ensures c.vector-upper.ensures)
    (puts_then _ _ _ _ _ _ _ _ _ c.in_ok-put_tanks.ensures c.put_links.ensures)
