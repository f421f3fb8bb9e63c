-- One part after another.
use Rattle.std.proofs.lemmas.Result.{err_from_is_err_and}
use Rattle.std.proofs.Common.{◌++◌, ◌∙◌, List, ℤ, pos, sym, subst}
use Rattle.hyd_spec.specs.Lists.{map_from}
use Rattle.hyd_spec_certificates.specs.Decided.{heads_below, heads_above}
use Rattle.hyd_spec_certificates.specs.PeriodNetwork.{fixed_heads}
use Rattle.hyd_spec_certificates.specs.declared.Problem.TheVariants.{Main}
use Rattle.hyd_spec_certificates.specs.declared.Side.TheVariants.{Upper, Lower}
use Rattle.hyd_spec_reports.specs.ReportLine.{TimeLine}
use Rattle.hyd_cert.specs.RecordView.{row_of}
use Rattle.hyd_period_network.specs.NetAsPeriodNetwork.{grid_of, states_of}
use Rattle.hyd_bounds.specs.VectorsInOrder.{AreInOrder}
use Rattle.hyd_report.specs.NodeAndLinkLines.{texts, reservoir_line, tank_line, link_line}
use Rattle.hyd_report.proofs.LineLemmas.{in_order, state_text}
use Rattle.hyd_io.proofs.PutLemmas.{puts_then, puts_cut_off, puts_same, puts_ready}
use Rattle.hyd_report.proofs.report.put_state.Goals as goal

pub put_junctions-requires-clause-ordered : goal.put_junctions-requires-clause-ordered
put_junctions-requires-clause-ordered g c =
    let grid = grid_of c.args.net.now in
    let row = row_of c.args.row.now in
    let bounds = c.requires.bounds in
    subst (λ (l : List ℤ). AreInOrder (pos 0) l c.vector-upper.result.now) (sym c.vector-lower.ensures)
    (subst (λ (u : List ℤ). AreInOrder (pos 0) row.main.lower u) (sym c.vector-upper.ensures)
    (in_order row.main.lower row.main.upper (fixed_heads grid Main Lower) (fixed_heads grid Main Upper)
    (bounds.lower.one_each ∙ sym bounds.upper.one_each) bounds.ordered))

pub put_junctions-requires-clause-ready : goal.put_junctions-requires-clause-ready
put_junctions-requires-clause-ready g c = puts_ready _ _ _ _ _ _ (c.in_ok-put_time.ensures c.args.project.now) c.requires.ready

pub put_junctions-requires-clause-unbroken : goal.put_junctions-requires-clause-unbroken
put_junctions-requires-clause-unbroken g c = (c.in_ok-put_time.ensures c.args.project.now).no_fault

pub put_reservoirs-requires-clause-ready : goal.put_reservoirs-requires-clause-ready
put_reservoirs-requires-clause-ready g c =
    puts_ready _ _ _ _ _ _ c.in_ok-put_junctions.ensures (puts_ready _ _ _ _ _ _
    (c.in_ok-put_time.ensures c.args.project.now) c.requires.ready)

pub put_tanks_and_links-requires-clause-ready : goal.put_tanks_and_links-requires-clause-ready
put_tanks_and_links-requires-clause-ready g c =
    puts_ready _ _ _ _ _ _ c.in_ok-put_reservoirs.ensures (puts_ready _ _ _ _ _ _ c.in_ok-put_junctions.ensures
    (puts_ready _ _ _ _ _ _ (c.in_ok-put_time.ensures c.args.project.now) c.requires.ready))

pub returns-in_err-put_time : goal.returns-in_err-put_time
returns-in_err-put_time g c =
    let p = err_from_is_err_and c.from_residual.result c.from_residual.ensures.1 in
    rw (p.1, p.2) (puts_cut_off _ _ c.in_err-put_time.field-0.0 _ _ _ _ (c.in_err-put_time.ensures c.args.project.now))

pub returns-in_err-put_junctions : goal.returns-in_err-put_junctions
returns-in_err-put_junctions g c =
    let p = err_from_is_err_and c.from_residual-in_err-put_junctions.result c.from_residual-in_err-put_junctions.ensures.1 in
    rw (p.1, p.2) (let net = c.args.net.now in
    let project = c.args.project.now in
    let row = row_of c.args.row.now in
    let facts = c.args.facts.now in
    let rs = map_from (reservoir_line project) 0 (grid_of net).reservoirs in
    let tls = map_from (tank_line project facts.levels.list facts.inflows.list facts.tanks.list) 0 project.tanks.list
    ++ map_from (link_line project (grid_of net) (heads_below (grid_of net) row) (heads_above (grid_of net) row)
    (states_of net)) 0 project.links.list in
    puts_same _ _ _ _ _ _ _
    (state_text project (TimeLine facts.time) c.vector-lower.result.now row.main.lower c.vector-upper.result.now
    row.main.upper (grid_of net).junctions rs tls
    c.vector-lower.ensures c.vector-upper.ensures)
    (puts_then _ _ _ _ _ _ _ _ _ (c.in_ok-put_time.ensures project)
    (puts_cut_off _ (texts project rs ++ texts project tls) c.in_err-put_junctions.field-0.0 _ _ _ _
    c.in_err-put_junctions.ensures)))

pub returns-in_err-put_reservoirs : goal.returns-in_err-put_reservoirs
returns-in_err-put_reservoirs g c =
    let p = err_from_is_err_and c.from_residual-in_err-put_reservoirs.result c.from_residual-in_err-put_reservoirs.ensures.1 in
    rw (p.1, p.2) (let net = c.args.net.now in
    let project = c.args.project.now in
    let row = row_of c.args.row.now in
    let facts = c.args.facts.now in
    let rs = map_from (reservoir_line project) 0 (grid_of net).reservoirs in
    let tls = map_from (tank_line project facts.levels.list facts.inflows.list facts.tanks.list) 0 project.tanks.list
    ++ map_from (link_line project (grid_of net) (heads_below (grid_of net) row) (heads_above (grid_of net) row)
    (states_of net)) 0 project.links.list in
    puts_same _ _ _ _ _ _ _
    (state_text project (TimeLine facts.time) c.vector-lower.result.now row.main.lower c.vector-upper.result.now
    row.main.upper (grid_of net).junctions rs tls
    c.vector-lower.ensures c.vector-upper.ensures)
    (puts_then _ _ _ _ _ _ _ _ _ (c.in_ok-put_time.ensures project)
    (puts_then _ _ _ _ _ _ _ _ _ c.in_ok-put_junctions.ensures
    (puts_cut_off _ (texts project tls) c.in_err-put_reservoirs.field-0.0 _ _ _ _ c.in_err-put_reservoirs.ensures))))

pub returns : goal.returns
returns g c =
    let net = c.args.net.now in
    let project = c.args.project.now in
    let row = row_of c.args.row.now in
    let facts = c.args.facts.now in
    let rs = map_from (reservoir_line project) 0 (grid_of net).reservoirs in
    let tls = map_from (tank_line project facts.levels.list facts.inflows.list facts.tanks.list) 0 project.tanks.list
    ++ map_from (link_line project (grid_of net) (heads_below (grid_of net) row) (heads_above (grid_of net) row)
    (states_of net)) 0 project.links.list in
    puts_same _ _ _ _ _ _ _
    (state_text project (TimeLine facts.time) c.vector-lower.result.now row.main.lower c.vector-upper.result.now
    row.main.upper (grid_of net).junctions rs tls
    c.vector-lower.ensures c.vector-upper.ensures)
    (puts_then _ _ _ _ _ _ _ _ _ (c.in_ok-put_time.ensures project)
    (puts_then _ _ _ _ _ _ _ _ _ c.in_ok-put_junctions.ensures
    (puts_then _ _ _ _ _ _ _ _ _ c.in_ok-put_reservoirs.ensures c.put_tanks_and_links.ensures)))
