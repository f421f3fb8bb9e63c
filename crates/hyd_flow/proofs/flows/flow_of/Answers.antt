use Rattle.std.proofs.Common.{◌≡◌, ◌-ℤ◌, w64, to_z, of_z, arith, ap, ◌∙◌, List, ℤ}
use Rattle.std.proofs.lemmas.Int.{ints}
use Rattle.hyd_spec.specs.Assignment.{head_at}
use Rattle.hyd_spec_certificates.specs.declared.Side.TheVariants.{Upper, Lower}
use Rattle.hyd_cert.specs.RecordView.{row_of}
use Rattle.hyd_cert.specs.FlowPartView.{named_of}
use Rattle.hyd_period_network.specs.NetAsPeriodNetwork.{grid_of}
use Rattle.hyd_flow.proofs.LinksOfNets.{link_in, from_inside, to_inside}
use Rattle.hyd_flow.proofs.FlowsOfLinks.{long_there, box_there, ends_ordered}
use Rattle.hyd_flow.proofs.flows.flow_of.Goals as goal

pub along-low_at-requires-clause-from : goal.along-low_at-requires-clause-from
along-low_at-requires-clause-from c =
    let long = long_there (grid_of c.args.net.now) (row_of c.args.row.now) (named_of c.args.named.now) Upper
    c.vector.result.now c.vector.ensures (c.requires.vectors Upper) in
    let inside = from_inside (grid_of c.args.net.now) c.args.named.now.link c.ends-ends.result.from
    c.ends-ends.result.to c.requires.joins c.ends-ends.ensures.grid in
    omega (arith, long, inside)

pub along-low_at-requires-clause-to : goal.along-low_at-requires-clause-to
along-low_at-requires-clause-to c =
    let long = long_there (grid_of c.args.net.now) (row_of c.args.row.now) (named_of c.args.named.now) Upper
    c.vector.result.now c.vector.ensures (c.requires.vectors Upper) in
    let inside = to_inside (grid_of c.args.net.now) c.args.named.now.link c.ends-ends.result.from
    c.ends-ends.result.to c.requires.joins c.ends-ends.ensures.grid in
    omega (arith, long, inside)

pub along-low_at-requires-clause-in_box : goal.along-low_at-requires-clause-in_box
along-low_at-requires-clause-in_box c =
    box_there (grid_of c.args.net.now) (row_of c.args.row.now) (named_of c.args.named.now) Upper
    c.vector.result.now c.vector.ensures (c.requires.vectors Upper)

pub along-high_at-requires-clause-from : goal.along-high_at-requires-clause-from
along-high_at-requires-clause-from c =
    let long = long_there (grid_of c.args.net.now) (row_of c.args.row.now) (named_of c.args.named.now) Lower
    c.vector-2.result.now c.vector-2.ensures (c.requires.vectors Lower) in
    let inside = from_inside (grid_of c.args.net.now) c.args.named.now.link c.ends-ends.result.from
    c.ends-ends.result.to c.requires.joins c.ends-ends.ensures.grid in
    omega (arith, long, inside)

pub along-high_at-requires-clause-to : goal.along-high_at-requires-clause-to
along-high_at-requires-clause-to c =
    let long = long_there (grid_of c.args.net.now) (row_of c.args.row.now) (named_of c.args.named.now) Lower
    c.vector-2.result.now c.vector-2.ensures (c.requires.vectors Lower) in
    let inside = to_inside (grid_of c.args.net.now) c.args.named.now.link c.ends-ends.result.from
    c.ends-ends.result.to c.requires.joins c.ends-ends.ensures.grid in
    omega (arith, long, inside)

pub along-high_at-requires-clause-in_box : goal.along-high_at-requires-clause-in_box
along-high_at-requires-clause-in_box c =
    box_there (grid_of c.args.net.now) (row_of c.args.row.now) (named_of c.args.named.now) Lower
    c.vector-2.result.now c.vector-2.ensures (c.requires.vectors Lower)

pub law-requires : goal.law-requires
law-requires c =
    let inside = link_in (grid_of c.args.net.now) c.args.named.now.link c.requires.joins in
    let each = c.links-links.ensures.each in
    omega (arith, inside, each)

pub between-requires-clause-ordered : goal.between-requires-clause-ordered
between-requires-clause-ordered c =
    let low = c.along-low_at.result in
    let high = c.along-high_at.result in
    let from = c.ends-ends.result.from in
    let to = c.ends-ends.result.to in
    let low_kept : to_z w64 (of_z w64 low) ≡ low = (let s = c.along-low_at.ensures.small in omega (arith, ints, s)) in
    let high_kept : to_z w64 (of_z w64 high) ≡ high = (let s = c.along-high_at.ensures.small in omega (arith, ints, s))
    in
    ends_ordered (grid_of c.args.net.now) (row_of c.args.row.now) (named_of c.args.named.now) c.law.result.now from to
    c.requires.joins c.ends-ends.ensures.grid c.law.ensures.stands (to_z w64 (of_z w64 low)) (to_z w64 (of_z w64 high))
    (low_kept ∙ (c.along-low_at.ensures.value
    ∙ ap (λ (u : List ℤ). head_at u from -ℤ head_at u to) c.vector.ensures))
    (high_kept ∙ (c.along-high_at.ensures.value
    ∙ ap (λ (u : List ℤ). head_at u from -ℤ head_at u to) c.vector-2.ensures))
    c.requires.given.certified c.requires.vectors
