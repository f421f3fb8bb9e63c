use Rattle.std.proofs.lemmas.Result.{err_from_is_err_and}
use Rattle.std.proofs.Common.{List, All, sym, subst, arith}
use Rattle.std.proofs.lemmas.List.{take_all}
use Rattle.hyd_cert.specs.RecordView.{row_of}
use Rattle.hyd_cert.specs.FlowPartView.{named_of, links_in}
use Rattle.hyd_cert.specs.declared.named_vectors.NamedVectors.{NamedVectors}
use Rattle.hyd_period_network.specs.NetAsPeriodNetwork.{grid_of}
use Rattle.hyd_spec_certificates.specs.declared.Side.{Side}
use Rattle.hyd_spec_flows.specs.FlowParts.{NamedLink, JoinsJunctions, HasItsVector}
use Rattle.hyd_spec_flows.specs.FlowTexts.{IsNamed}
use Rattle.hyd_flow.proofs.NamesInParts.{link_at, one_more, all_join, all_distinct}
use Rattle.hyd_flow.proofs.RefusedParts.{refused_at}
use Rattle.hyd_flow.proofs.checks.check_links.Goals as goal

pub check_link-requires-clause-named : goal.check_link-requires-clause-named
check_link-requires-clause-named c =
    subst (λ (x : NamedVectors). IsNamed c.args.row.now.junctions (named_of x)) (sym c.index-links-i.is)
    (link_at (IsNamed c.args.row.now.junctions) c.args.links.now c.loop-i.i c.index-links-i.result c.loop-i-test.true
    c.requires.named)

pub check_link-requires-clause-joins : goal.check_link-requires-clause-joins
check_link-requires-clause-joins c =
    let grid = grid_of c.args.net.now in
    subst (λ (x : NamedVectors). JoinsJunctions grid x.link) (sym c.index-links-i.is)
    (link_at (λ (named : NamedLink). JoinsJunctions grid named.link) c.args.links.now c.loop-i.i
    c.index-links-i.result c.loop-i-test.true (all_join grid (links_in c.args.links.now) c.requires.names))

pub returns-in_err-check_link-clause-refused : goal.returns-in_err-check_link-clause-refused
returns-in_err-check_link-clause-refused c =
    let p = err_from_is_err_and c.from_residual.result c.from_residual.ensures.1 in
    rw (p.1, p.2) (refused_at (grid_of c.args.net.now) (row_of c.args.row.now) c.args.links.now c.loop-i.i c.index-links-i.result
    c.loop-i-test.true c.index-links-i.is c.loop-i.invariant c.in_err-check_link.field-0.0 c.requires.names c.in_err-check_link.ensures.fails)

pub loop-i-preserved : goal.loop-i-preserved
loop-i-preserved c =
    one_more (λ (named : NamedLink). (side : Side) → HasItsVector (grid_of c.args.net.now) (row_of c.args.row.now)
    named side) c.loop-i.i c.args.links.now c.index-links-i.result c.loop-i-test.true c.index-links-i.is
    c.loop-i.invariant c.in_ok-check_link.ensures.good

pub returns-clause-good : goal.returns-clause-good
returns-clause-good c =
    let grid = grid_of c.args.net.now in
    let links = c.args.links.now in
    record {
      distinct = all_distinct grid (links_in links) c.requires.names;
      joins = all_join grid (links_in links) c.requires.names;
      vectors = subst (λ (xs : List NamedVectors). All (λ (named : NamedLink). (side : Side)
          → HasItsVector grid (row_of c.args.row.now) named side) (links_in xs))
          (take_all c.loop-i.i links (omega (arith, c.loop-i-test.false))) c.loop-i.invariant;
    }
