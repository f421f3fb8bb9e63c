-- One part after another.
use Rattle.std.proofs.lemmas.Result.{err_from_is_err_and}
use Rattle.std.proofs.Common.{◌++◌, ℤ, pos, List, sym, subst}
use Rattle.hyd_spec.specs.Lists.{map_from}
use Rattle.hyd_spec_certificates.specs.PeriodNetwork.{fixed_heads}
use Rattle.hyd_spec_certificates.specs.declared.Problem.TheVariants.{Main}
use Rattle.hyd_spec_certificates.specs.declared.Side.TheVariants.{Upper, Lower}
use Rattle.hyd_spec_reports.specs.ReportLine.{TimeLine}
use Rattle.hyd_cert.specs.RecordView.{row_of}
use Rattle.hyd_spec_spread_runs.specs.OutermostPairs.{spanned}
use Rattle.hyd_period_network.specs.NetAsPeriodNetwork.{states_of}
use Rattle.hyd_bounds.specs.VectorsInOrder.{AreInOrder}
use Rattle.hyd_spread_bounds.specs.BothSides.{pair_of}
use Rattle.hyd_report.specs.NodeAndLinkLines.{texts}
use Rattle.hyd_io.proofs.PutLemmas.{puts_then, puts_cut_off, puts_same, puts_ready}
use Rattle.hyd_spread_report.specs.LinesOverBothSides.{reservoir_line_over, tank_lines_by, link_lines_over}
use Rattle.hyd_spread_report.proofs.PartsPut.{front_in_order, vectors-alike, state_text}
use Rattle.hyd_spread_report.proofs.state.put_state.Goals as goal

pub put_junctions-requires-clause-ordered : goal.put_junctions-requires-clause-ordered
put_junctions-requires-clause-ordered g c =
    let row = row_of c.args.row.now in
    let pair = pair_of c.args.upper.now c.args.lower.now in
    let bounds = c.requires.bounds in
    let alike = vectors-alike c.args.upper.now c.args.lower.now row c.requires.pair bounds
    c.junctions-above.ensures.each c.junctions-below.ensures.each in
    subst (λ (l : List ℤ). AreInOrder (pos 0) l c.vector-high.result.now) (sym c.vector-low.ensures)
    (subst (λ (u : List ℤ). AreInOrder (pos 0) row.main.lower u) (sym c.vector-high.ensures)
    (front_in_order row.main.lower row.main.upper pair.lower.reservoirs pair.upper.reservoirs
    (fixed_heads (spanned pair) Main Lower) (fixed_heads (spanned pair) Main Upper) alike.0 alike.1 bounds.ordered))

pub put_junctions-requires-clause-ready : goal.put_junctions-requires-clause-ready
put_junctions-requires-clause-ready g c = puts_ready _ _ _ _ _ _ (c.in_ok-put_time.ensures c.args.project.now) c.requires.ready

pub put_junctions-requires-clause-unbroken : goal.put_junctions-requires-clause-unbroken
put_junctions-requires-clause-unbroken g c = (c.in_ok-put_time.ensures c.args.project.now).no_fault

pub put_reservoirs-requires-clause-ready : goal.put_reservoirs-requires-clause-ready
put_reservoirs-requires-clause-ready g c =
    puts_ready _ _ _ _ _ _ c.in_ok-put_junctions.ensures (puts_ready _ _ _ _ _ _
    (c.in_ok-put_time.ensures c.args.project.now) c.requires.ready)

pub put_tanks_and_links-requires-clause-ready : goal.put_tanks_and_links-requires-clause-ready
put_tanks_and_links-requires-clause-ready g c =
    puts_ready _ _ _ _ _ _ c.in_ok-put_reservoirs.ensures (puts_ready _ _ _ _ _ _ c.in_ok-put_junctions.ensures
    (puts_ready _ _ _ _ _ _ (c.in_ok-put_time.ensures c.args.project.now) c.requires.ready))

pub returns-in_err-put_time : goal.returns-in_err-put_time
returns-in_err-put_time g c =
    let p = err_from_is_err_and c.from_residual.result c.from_residual.ensures.1 in
    rw (p.1, p.2) (puts_cut_off _ _ c.in_err-put_time.field-0.0 _ _ _ _ (c.in_err-put_time.ensures c.args.project.now))

pub returns-in_err-put_junctions : goal.returns-in_err-put_junctions
returns-in_err-put_junctions g c =
    let p = err_from_is_err_and c.from_residual-in_err-put_junctions.result c.from_residual-in_err-put_junctions.ensures.1 in
    rw (p.1, p.2) (let project = c.args.project.now in
    let row = row_of c.args.row.now in
    let pair = pair_of c.args.upper.now c.args.lower.now in
    let reservoirs = map_from (reservoir_line_over project pair) 0 pair.upper.reservoirs in
    let rest = tank_lines_by project c.args.facts.now
    ++ link_lines_over project pair (states_of c.args.upper.now) row in
    puts_same _ _ _ _ _ _ _
    (state_text project pair (TimeLine c.args.facts.now.time) c.vector-low.result.now row.main.lower
    c.vector-high.result.now row.main.upper pair.upper.junctions reservoirs rest c.vector-low.ensures
    c.vector-high.ensures)
    (puts_then _ _ _ _ _ _ _ _ _ (c.in_ok-put_time.ensures project)
    (puts_cut_off _ (texts project reservoirs ++ texts project rest) c.in_err-put_junctions.field-0.0 _ _ _ _
    c.in_err-put_junctions.ensures)))

pub returns-in_err-put_reservoirs : goal.returns-in_err-put_reservoirs
returns-in_err-put_reservoirs g c =
    let p = err_from_is_err_and c.from_residual-in_err-put_reservoirs.result c.from_residual-in_err-put_reservoirs.ensures.1 in
    rw (p.1, p.2) (let project = c.args.project.now in
    let row = row_of c.args.row.now in
    let pair = pair_of c.args.upper.now c.args.lower.now in
    let reservoirs = map_from (reservoir_line_over project pair) 0 pair.upper.reservoirs in
    let rest = tank_lines_by project c.args.facts.now
    ++ link_lines_over project pair (states_of c.args.upper.now) row in
    puts_same _ _ _ _ _ _ _
    (state_text project pair (TimeLine c.args.facts.now.time) c.vector-low.result.now row.main.lower
    c.vector-high.result.now row.main.upper pair.upper.junctions reservoirs rest c.vector-low.ensures
    c.vector-high.ensures)
    (puts_then _ _ _ _ _ _ _ _ _ (c.in_ok-put_time.ensures project)
    (puts_then _ _ _ _ _ _ _ _ _ c.in_ok-put_junctions.ensures
    (puts_cut_off _ (texts project rest) c.in_err-put_reservoirs.field-0.0 _ _ _ _ c.in_err-put_reservoirs.ensures))))

pub returns : goal.returns
returns g c =
    let project = c.args.project.now in
    let row = row_of c.args.row.now in
    let pair = pair_of c.args.upper.now c.args.lower.now in
    let reservoirs = map_from (reservoir_line_over project pair) 0 pair.upper.reservoirs in
    let rest = tank_lines_by project c.args.facts.now
    ++ link_lines_over project pair (states_of c.args.upper.now) row in
    puts_same _ _ _ _ _ _ _
    (state_text project pair (TimeLine c.args.facts.now.time) c.vector-low.result.now row.main.lower
    c.vector-high.result.now row.main.upper pair.upper.junctions reservoirs rest c.vector-low.ensures
    c.vector-high.ensures)
    (puts_then _ _ _ _ _ _ _ _ _ (c.in_ok-put_time.ensures project)
    (puts_then _ _ _ _ _ _ _ _ _ c.in_ok-put_junctions.ensures
    (puts_then _ _ _ _ _ _ _ _ _ c.in_ok-put_reservoirs.ensures c.put_tanks_and_links.ensures)))
