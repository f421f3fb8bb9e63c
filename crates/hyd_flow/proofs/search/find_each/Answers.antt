use Rattle.std.proofs.Common.{◌≡◌, ℕ, ◌<◌, length, All, take, subst, ◌∙◌, arith}
use Rattle.std.specs.Prelude.{Some, slice_get}
use Rattle.std.proofs.lemmas.List.Elements.{All-set}
use Rattle.hyd_cert.specs.RecordView.{row_of}
use Rattle.hyd_cert.specs.FlowPartView.{links_in}
use Rattle.hyd_cert.specs.declared.named_vectors.NamedVectors.{NamedVectors}
use Rattle.hyd_period_network.specs.NetAsPeriodNetwork.{grid_of}
use Rattle.hyd_spec_certificates.specs.PeriodNetwork.{GridLink}
use Rattle.hyd_spec_certificates.specs.RecordAndStanding.{vector_on}
use Rattle.hyd_spec_certificates.specs.declared.Side.{Side}
use Rattle.hyd_spec_flows.specs.FlowParts.{NamedLink, HasItsVector, IsSharpPart, IsSharpVector}
use Rattle.hyd_flow.proofs.NamesInParts.{joins_at, numbers_set, names_kept, one_more_put}
use Rattle.hyd_flow.proofs.search.find_each.Goals as goal

pub find_vectors-requires-clause-joins : goal.find_vectors-requires-clause-joins
find_vectors-requires-clause-joins c =
    let same : length c.loop-i.links ≡ length c.args.links.now = c.loop-i.auto.links in
    let low : c.loop-i.i < length c.loop-i.links = omega (arith, c.loop-i-test.true, same, c.requires.within) in
    joins_at (grid_of c.args.net.now) c.args.count c.loop-i.i c.loop-i.links c.args.links.now c.index-links-i.result
    c.loop-i.invariant.names c.requires.joins c.loop-i-test.true low

pub loop-i-preserved : goal.loop-i-preserved
loop-i-preserved c =
    let same : length c.loop-i.links ≡ length c.args.links.now = c.loop-i.auto.links in
    let low : c.loop-i.i < length c.loop-i.links = omega (arith, c.loop-i-test.true, same, c.requires.within) in
    let grid = grid_of c.args.net.now in
    let row = row_of c.args.row.now in
    let new = c.find_vectors.new.named in
    let kept = c.loop-i.invariant in
    record {
      vectors = one_more_put (λ (named : NamedLink). (side : Side) → HasItsVector grid row named side)
          c.loop-i.i c.loop-i.links new low kept.vectors c.find_vectors.ensures.vectors;
      near = one_more_put (λ (named : NamedLink). (link : GridLink) (side : Side)
          → slice_get grid.links named.link ≡ Some link
          → IsSharpVector c.args.rounds grid row link side (vector_on side named.held))
          c.loop-i.i c.loop-i.links new low kept.near (λ link side at. c.find_vectors.ensures.near link side
          (subst (λ (n : ℕ). slice_get grid.links n ≡ Some link) c.find_vectors.ensures.link at));
      names = numbers_set c.loop-i.links c.loop-i.i new c.index-links-i.result c.find_vectors.ensures.link low
          ∙ kept.names;
      junctions = All-set (λ (one : NamedVectors). one.junctions ≡ c.args.row.now.junctions) c.loop-i.links c.loop-i.i
          new (c.find_vectors.ensures.junctions ∙ kept.junctions c.loop-i.i c.index-links-i.result low) kept.junctions;
      room = c.find_vectors.ensures.room ∙ kept.room;
    }

pub returns-clause-vectors : goal.returns-clause-vectors
returns-clause-vectors c =
    let last : c.loop-i.i ≡ c.args.count = omega (arith, c.loop-i-test.false, c.loop-i.auto.i-end) in
    subst (λ (n : ℕ). All (λ (named : NamedLink). (side : Side) → HasItsVector (grid_of c.args.net.now)
    (row_of c.args.row.now) named side) (links_in (take n c.loop-i.links))) last c.loop-i.invariant.vectors

pub returns-clause-near : goal.returns-clause-near
returns-clause-near c =
    let last : c.loop-i.i ≡ c.args.count = omega (arith, c.loop-i-test.false, c.loop-i.auto.i-end) in
    subst (λ (n : ℕ). IsSharpPart c.args.rounds (grid_of c.args.net.now) (row_of c.args.row.now)
    (links_in (take n c.loop-i.links))) last c.loop-i.invariant.near

pub returns-clause-names : goal.returns-clause-names
returns-clause-names c = names_kept c.args.count c.loop-i.links c.args.links.now c.loop-i.invariant.names
