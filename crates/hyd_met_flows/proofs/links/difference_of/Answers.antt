use Rattle.std.proofs.Common.{ap, arith}
use Rattle.std.proofs.lemmas.Int.{ints}
use Rattle.hyd_spec.specs.Assignment.{node_heads, head_at}
use Rattle.hyd_laws_at_scale.specs.Scales.{parts_of}
use Rattle.hyd_met_flows.proofs.LinksOfSetNets.{item_at, ends_in, ends_there}
use Rattle.hyd_met_flows.proofs.links.difference_of.Goals as goal

pub head_of-from-requires-clause-there : goal.head_of-from-requires-clause-there
head_of-from-requires-clause-there c =
    (ends_in c.args.project.now c.requires.sound c.args.link c.as_slice.result.now c.index-as_slice-link.result
    c.requires.there c.as_slice.ensures c.index-as_slice-link.is).from_node

pub head_of-to-requires-clause-there : goal.head_of-to-requires-clause-there
head_of-to-requires-clause-there c =
    (ends_in c.args.project.now c.requires.sound c.args.link c.as_slice.result.now c.index-as_slice-link.result
    c.requires.there c.as_slice.ensures c.index-as_slice-link.is).to_node

pub returns : goal.returns
returns c = λ net tanks here set at.
    let project = c.args.project.now in
    let there = item_at project c.args.link c.as_slice.result.now c.index-as_slice-link.result c.requires.there
    c.as_slice.ensures c.index-as_slice-link.is in
    let ends = ends_there project net tanks c.args.link c.index-as_slice-link.result here set there at in
    let heads = node_heads project (parts_of c.args.scale) c.args.moment.now.time c.args.moment.now.levels.list
    c.args.moment.now.heads.list in
    omega (
      arith,
      ints,
      c.head_of-from.ensures.value,
      c.head_of-to.ensures.value,
      c.head_of-from.ensures.small,
      c.head_of-to.ensures.small,
      ap (head_at heads) ends.0,
      ap (head_at heads) ends.1,
    )
