use Rattle.std.proofs.Common.{◌≡◌, List, length, All, take, sym, ap, subst, ◌∙◌}
use Rattle.hyd_cert.specs.RecordView.{row_of}
use Rattle.hyd_cert.specs.FlowPartView.{links_in}
use Rattle.hyd_cert.specs.declared.named_vectors.NamedVectors.{NamedVectors}
use Rattle.hyd_cert.proofs.VectorLemmas.{refill_whole}
use Rattle.hyd_period_network.specs.NetAsPeriodNetwork.{grid_of}
use Rattle.hyd_spec_certificates.specs.declared.Side.{Side}
use Rattle.hyd_spec_flows.specs.FlowParts.{NamedLink, JoinsJunctions, HasItsVector, IsSharpPart}
use Rattle.hyd_flow.proofs.search.find.Goals as goal

pub find_each-requires-clause-joins : goal.find_each-requires-clause-joins
find_each-requires-clause-joins c =
    subst (λ (xs : List NamedVectors). All (λ (named : NamedLink). JoinsJunctions (grid_of c.args.net.now) named.link)
    (links_in (take c.args.part.now.count xs))) (sym c.as_mut_slice.ensures.items) c.requires.joins

pub returns-clause-vectors : goal.returns-clause-vectors
returns-clause-vectors c =
    let many : length c.find_each.new.links ≡ length c.args.part.now.named.list =
    c.find_each.auto.links ∙ ap length c.as_mut_slice.ensures.items in
    subst (λ (xs : List NamedVectors). All (λ (named : NamedLink). (side : Side)
    → HasItsVector (grid_of c.args.net.now) (row_of c.args.row.now) named side)
    (links_in (take c.args.part.now.count xs)))
    (sym (refill_whole c.args.part.now.named.list c.find_each.new.links many)) c.find_each.ensures.vectors

pub returns-clause-near : goal.returns-clause-near
returns-clause-near c =
    let many : length c.find_each.new.links ≡ length c.args.part.now.named.list =
    c.find_each.auto.links ∙ ap length c.as_mut_slice.ensures.items in
    subst (λ (xs : List NamedVectors). IsSharpPart c.args.rounds (grid_of c.args.net.now) (row_of c.args.row.now)
    (links_in (take c.args.part.now.count xs)))
    (sym (refill_whole c.args.part.now.named.list c.find_each.new.links many)) c.find_each.ensures.near
