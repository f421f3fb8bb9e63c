use Rattle.std.proofs.lemmas.Result.{err_from_is_err_and}
use Rattle.std.proofs.Common.{[], ◌∷◌, ◌++◌, ◌+◌, drop, sym, subst}
use Rattle.hyd_io.proofs.PutLemmas.{puts_then, puts_cut_off, puts_same, puts_nothing}
use Rattle.hyd_cert.specs.RecordView.{row_of}
use Rattle.hyd_cert.specs.FlowPartView.{named_of, links_in}
use Rattle.hyd_cert.specs.declared.named_vectors.NamedVectors.{NamedVectors}
use Rattle.hyd_period_network.specs.NetAsPeriodNetwork.{grid_of}
use Rattle.hyd_spec_certificates.specs.declared.Side.{Side}
use Rattle.hyd_spec_flows.specs.FlowParts.{NamedLink, JoinsJunctions, HasItsVector}
use Rattle.hyd_flow.proofs.NamesInParts.{link_at, link_joins}
use Rattle.hyd_flow.proofs.LinesOfFlows.{ends_of, line_of, span_prints, its_line, some_lines, lines_more, lines_whole}
use Rattle.hyd_flow.proofs.LinesOfFlows.{all_behind, text_more, text_whole}
use Rattle.hyd_flow.proofs.flow_lines.put_each.Goals as goal

pub loop-i-init : goal.loop-i-init
loop-i-init g c = ([], (tt, puts_nothing c.args.pen.now c.args.desk.now c.requires.unbroken))

pub flow_of-flow-requires-clause-joins : goal.flow_of-flow-requires-clause-joins
flow_of-flow-requires-clause-joins g c =
    link_joins (grid_of c.args.net.now) c.args.links.now c.loop-i.i c.index-links-i.result c.loop-i-test.true
    c.index-links-i.is c.requires.joins

pub flow_of-flow-requires-clause-vectors : goal.flow_of-flow-requires-clause-vectors
flow_of-flow-requires-clause-vectors g c =
    let grid = grid_of c.args.net.now in
    let row = row_of c.args.row.now in
    subst (λ (x : NamedVectors). (side : Side) → HasItsVector grid row (named_of x) side) (sym c.index-links-i.is)
    (link_at (λ (named : NamedLink). (side : Side) → HasItsVector grid row named side) c.args.links.now c.loop-i.i
    c.index-links-i.result c.loop-i-test.true c.requires.vectors)

pub returns-in_err-put_flow_line : goal.returns-in_err-put_flow_line
returns-in_err-put_flow_line g c =
    let p = err_from_is_err_and c.from_residual.result c.from_residual.ensures.1 in
    rw (p.1, p.2) (let project = c.args.project.now in
    let grid = grid_of c.args.net.now in
    let time = c.args.row.now.time in
    let links = c.args.links.now in
    let i = c.loop-i.i in
    let x = c.index-links-i.result in
    let joins : JoinsJunctions grid x.link = link_joins grid links i x c.loop-i-test.true c.index-links-i.is
    c.requires.joins in
    let line = line_of project time joins.0 (named_of x) in
    let so_far = c.loop-i.invariant in
    let more = lines_more project grid time i links x so_far.0 line c.loop-i-test.true c.index-links-i.is
    so_far.1.0 (its_line project grid time (named_of x) joins) in
    let others = some_lines project grid time (links_in (drop (i + 1) links))
    (all_behind (λ (named : NamedLink). JoinsJunctions grid named.link) (i + 1) links c.requires.joins) in (
      (so_far.0 ++ (line ∷ [])) ++ others.0,
      (
        lines_whole project grid time (i + 1) links (so_far.0 ++ (line ∷ [])) others.0 more others.1,
        puts_same _ _ _ _ _ _ _ (text_whole project so_far.0 others.0 line)
            (puts_cut_off _ _ c.in_err-put_flow_line.field-0.0 _ _ _ _ (puts_then _ _ _ _ _ _ _ _ _ so_far.1.1
            (c.in_err-put_flow_line.ensures (ends_of project joins.0 (named_of x)) (span_prints project c.flow_of-flow.result joins.0
            (named_of x) (c.flow_of-flow.ensures.flow joins.0 joins.1.0))))),
      ),
    ))

pub loop-i-preserved : goal.loop-i-preserved
loop-i-preserved g c =
    let project = c.args.project.now in
    let grid = grid_of c.args.net.now in
    let time = c.args.row.now.time in
    let links = c.args.links.now in
    let i = c.loop-i.i in
    let x = c.index-links-i.result in
    let joins : JoinsJunctions grid x.link = link_joins grid links i x c.loop-i-test.true c.index-links-i.is
    c.requires.joins in
    let line = line_of project time joins.0 (named_of x) in
    let so_far = c.loop-i.invariant in (
      so_far.0 ++ (line ∷ []),
      (
        lines_more project grid time i links x so_far.0 line c.loop-i-test.true c.index-links-i.is so_far.1.0
            (its_line project grid time (named_of x) joins),
        puts_same _ _ _ _ _ _ _ (text_more project so_far.0 line)
            (puts_then _ _ _ _ _ _ _ _ _ so_far.1.1 (c.in_ok-put_flow_line.ensures (ends_of project joins.0 (named_of x))
            (span_prints project c.flow_of-flow.result joins.0 (named_of x)
            (c.flow_of-flow.ensures.flow joins.0 joins.1.0)))),
      ),
    )
