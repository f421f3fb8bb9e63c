-- One line more, or a line that is cut off.
use Rattle.std.proofs.lemmas.Result.{err_from_is_err_and}
use Rattle.std.proofs.Common.{◌<◌, ◌∙◌, ap, length, arith}
use Rattle.std.proofs.lemmas.List.{length-map}
use Rattle.hyd_spec_certificates.specs.declared.Problem.TheVariants.{Main}
use Rattle.hyd_spec_spread_runs.specs.OutermostPairs.{spanned}
use Rattle.hyd_period_network.specs.NetsSetToPeriods.{ends_of}
use Rattle.hyd_period_network.specs.NetAsPeriodNetwork.{states_of}
use Rattle.hyd_spread_bounds.specs.BothSides.{pair_of, all_below, all_above}
use Rattle.hyd_report.specs.NodeAndLinkLines.{link_line}
use Rattle.hyd_report.proofs.LoopLemmas.{line_put, line_cut_off}
use Rattle.hyd_spread_report.proofs.links.put_links.Goals as goal

pub returns-in_err-put_link : goal.returns-in_err-put_link
returns-in_err-put_link g c =
    let p = err_from_is_err_and c.from_residual.result c.from_residual.ensures.1 in
    rw (p.1, p.2) (let pair = pair_of c.args.upper.now c.args.lower.now in
    let line = link_line c.args.project.now (spanned pair) (all_below pair Main c.args.low.now)
    (all_above pair Main c.args.high.now) (states_of c.args.upper.now) in
    let within : c.loop-l.l < length c.args.project.now.links.list = omega (
      arith,
      c.links-l-end.ensures.count,
      ap length c.requires.of.ends
          ∙ length-map c.args.project.now.links.list ends_of,
    ) in
    line_cut_off c.args.project.now line c.args.project.now.links.list
    c.loop-l.l _ _ _ _ _ _ c.in_err-put_link.field-0.0 within c.loop-l.invariant c.in_err-put_link.ensures)

pub loop-l-preserved : goal.loop-l-preserved
loop-l-preserved g c =
    let pair = pair_of c.args.upper.now c.args.lower.now in
    let line = link_line c.args.project.now (spanned pair) (all_below pair Main c.args.low.now)
    (all_above pair Main c.args.high.now) (states_of c.args.upper.now) in
    let within : c.loop-l.l < length c.args.project.now.links.list = omega (
      arith,
      c.links-l-end.ensures.count,
      ap length c.requires.of.ends
          ∙ length-map c.args.project.now.links.list ends_of,
    ) in
    line_put c.args.project.now line c.args.project.now.links.list
    c.loop-l.l _ _ _ _ _ _ within c.loop-l.invariant c.in_ok-put_link.ensures
