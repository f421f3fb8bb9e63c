-- One part after another.
use Rattle.std.proofs.lemmas.Result.{err_from_is_err_and}
use Rattle.std.proofs.Common.{ℤ, List, ◌++◌, ap, refl}
use Rattle.hyd_cert.specs.RecordView.{row_of}
use Rattle.hyd_spec_spread_runs.specs.OutermostPairs.{spanned}
use Rattle.hyd_period_network.specs.NetAsPeriodNetwork.{states_of}
use Rattle.hyd_spread_bounds.specs.BothSides.{pair_of}
use Rattle.hyd_report.proofs.LineLemmas.{tanks_text}
use Rattle.hyd_io.proofs.PutLemmas.{puts_then, puts_cut_off, puts_same}
use Rattle.hyd_spread_report.proofs.state.put_tanks_and_links.Goals as goal

pub returns-in_err-put_tanks : goal.returns-in_err-put_tanks
returns-in_err-put_tanks g c =
    let p = err_from_is_err_and c.from_residual.result c.from_residual.ensures.1 in
    rw (p.1, p.2) (let facts = c.args.facts.now in
    let row = row_of c.args.row.now in
    let pair = pair_of c.args.upper.now c.args.lower.now in
    let before = pair.lower.reservoirs in
    let above = pair.upper.reservoirs in
    puts_same _ _ _ _ _ _ _
    (tanks_text c.args.project.now (spanned pair) (states_of c.args.upper.now) c.as_slice.result.now facts.levels.list
    c.as_slice-2.result.now facts.inflows.list c.as_slice-3.result.now facts.tanks.list
    (row.main.lower ++ before) (row.main.lower ++ before) (row.main.upper ++ above) (row.main.upper ++ above)
    c.as_slice.ensures c.as_slice-2.ensures c.as_slice-3.ensures refl refl)
    (puts_cut_off _ _ c.in_err-put_tanks.field-0.0 _ _ _ _ c.in_err-put_tanks.ensures))

pub returns : goal.returns
returns g c =
    let facts = c.args.facts.now in
    let row = row_of c.args.row.now in
    let pair = pair_of c.args.upper.now c.args.lower.now in
    let before = pair.lower.reservoirs in
    let above = pair.upper.reservoirs in
    puts_same _ _ _ _ _ _ _
    (tanks_text c.args.project.now (spanned pair) (states_of c.args.upper.now) c.as_slice.result.now facts.levels.list
    c.as_slice-2.result.now facts.inflows.list c.as_slice-3.result.now facts.tanks.list
    (c.vector-low.result.now ++ before) (row.main.lower ++ before) (c.vector-high.result.now ++ above)
    (row.main.upper ++ above) c.as_slice.ensures c.as_slice-2.ensures c.as_slice-3.ensures
    (ap (λ (v : List ℤ). v ++ before) c.vector-low.ensures) (ap (λ (v : List ℤ). v ++ above) c.vector-high.ensures))
    (puts_then _ _ _ _ _ _ _ _ _ c.in_ok-put_tanks.ensures c.put_links.ensures)
