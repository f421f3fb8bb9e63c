use Rattle.std.proofs.lemmas.Result.{err_from_is_err_and}
use Rattle.std.proofs.Common.{List, [], All, sym, subst, ◌∙◌}
use Rattle.hyd_io.proofs.PutLemmas.{puts_then, puts_cut_off}
use Rattle.hyd_cert.specs.RecordView.{row_of}
use Rattle.hyd_cert.specs.FlowPartView.{links_in, part_of}
use Rattle.hyd_cert.specs.declared.named_vectors.NamedVectors.{NamedVectors}
use Rattle.hyd_period_network.specs.NetAsPeriodNetwork.{grid_of}
use Rattle.hyd_spec_certificates.specs.declared.Side.{Side}
use Rattle.hyd_spec_flows.specs.FlowParts.{NamedLink, JoinsJunctions, HasItsVector}
use Rattle.hyd_spec_reports_with_flows.specs.FlowLines.{IsFlowLine}
use Rattle.std.specs.List.{AllZip}
use Rattle.hyd_flow.proofs.LinesOfFlows.{lines_there, lines_due}
use Rattle.hyd_flow.proofs.flow_lines.put_flow_lines.Goals as goal

pub returns-in_err-put_nothing : goal.returns-in_err-put_nothing
returns-in_err-put_nothing g c =
    let p = err_from_is_err_and c.from_residual.result c.from_residual.ensures.1 in
    rw (p.1, p.2) (λ standing at. let there = lines_there c.args.project.now (grid_of c.args.net.now) standing (part_of c.args.part.now)
    c.requires.part.joins in
    (there.0, (there.1, puts_cut_off [] _ c.in_err-put_nothing.field-0.0 _ _ _ _ c.in_err-put_nothing.ensures)))

pub put_each-requires-clause-joins : goal.put_each-requires-clause-joins
put_each-requires-clause-joins g c =
    subst (λ (xs : List NamedVectors). All (λ (named : NamedLink). JoinsJunctions (grid_of c.args.net.now) named.link)
    (links_in xs)) (sym c.as_slice.ensures) c.requires.part.joins

pub put_each-requires-clause-vectors : goal.put_each-requires-clause-vectors
put_each-requires-clause-vectors g c =
    subst (λ (xs : List NamedVectors). All (λ (named : NamedLink). (side : Side)
    → HasItsVector (grid_of c.args.net.now) (row_of c.args.row.now) named side) (links_in xs))
    (sym c.as_slice.ensures) c.requires.part.vectors

pub returns : goal.returns
returns g c standing at =
    let project = c.args.project.now in
    let grid = grid_of c.args.net.now in
    let put = c.put_each.ensures in (
      put.0,
      (
        lines_due project grid standing c.args.row.now.time (part_of c.args.part.now) put.0 at
            (sym c.is_report_time.ensures ∙ c.if-not-is_report_time.false)
            (subst (λ (xs : List NamedVectors). AllZip (IsFlowLine project grid c.args.row.now.time) (links_in xs)
            put.0) c.as_slice.ensures put.1.0),
        puts_then _ _ _ _ _ _ _ _ _ c.in_ok-put_nothing.ensures put.1.1,
      ),
    )
