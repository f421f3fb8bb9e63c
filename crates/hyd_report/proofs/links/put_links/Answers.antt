-- One line more, or a line that is cut off.
use Rattle.std.proofs.lemmas.Result.{err_from_is_err_and}
use Rattle.std.proofs.Common.{◌<◌, ◌∙◌, ap, length, arith}
use Rattle.std.proofs.lemmas.List.{length-map}
use Rattle.hyd_spec_certificates.specs.PeriodNetwork.{all_heads}
use Rattle.hyd_spec_certificates.specs.declared.Problem.TheVariants.{Main}
use Rattle.hyd_spec_certificates.specs.declared.Side.TheVariants.{Upper, Lower}
use Rattle.hyd_period_network.specs.NetsSetToPeriods.{ends_of}
use Rattle.hyd_period_network.specs.NetAsPeriodNetwork.{grid_of, states_of}
use Rattle.hyd_report.specs.NodeAndLinkLines.{link_line}
use Rattle.hyd_report.proofs.LoopLemmas.{line_put, line_cut_off}
use Rattle.hyd_report.proofs.links.put_links.Goals as goal

pub returns-in_err-put_link : goal.returns-in_err-put_link
returns-in_err-put_link g c =
    let p = err_from_is_err_and c.from_residual.result c.from_residual.ensures.1 in
    rw (p.1, p.2) (let net = c.args.net.now in
    let below = all_heads (grid_of net) Main Lower c.args.lower.now in
    let above = all_heads (grid_of net) Main Upper c.args.upper.now in
    let within : c.loop-l.l < length c.args.project.now.links.list = omega (
      arith,
      c.links-l-end.ensures.count,
      ap length c.requires.of.ends
          ∙ length-map c.args.project.now.links.list ends_of,
    ) in
    line_cut_off c.args.project.now (link_line c.args.project.now (grid_of net) below above
    (states_of net)) c.args.project.now.links.list
    c.loop-l.l _ _ _ _ _ _ c.in_err-put_link.field-0.0 within c.loop-l.invariant c.in_err-put_link.ensures)

pub loop-l-preserved : goal.loop-l-preserved
loop-l-preserved g c =
    let net = c.args.net.now in
    let below = all_heads (grid_of net) Main Lower c.args.lower.now in
    let above = all_heads (grid_of net) Main Upper c.args.upper.now in
    let within : c.loop-l.l < length c.args.project.now.links.list = omega (
      arith,
      c.links-l-end.ensures.count,
      ap length c.requires.of.ends
          ∙ length-map c.args.project.now.links.list ends_of,
    ) in
    line_put c.args.project.now (link_line c.args.project.now (grid_of net) below above
    (states_of net)) c.args.project.now.links.list
    c.loop-l.l _ _ _ _ _ _ within c.loop-l.invariant c.in_ok-put_link.ensures
