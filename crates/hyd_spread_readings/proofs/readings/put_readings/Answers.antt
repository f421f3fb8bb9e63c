use Rattle.std.proofs.Common.{◌∙◌, ◌++◌, ℤ, List, append-nil, ap, sym, length, arith}
use Rattle.std.proofs.lemmas.List.{length-map}
use Rattle.hyd_spec_certificates.specs.SpansAsIntervals.{flows_of}
use Rattle.hyd_spec_certificates.specs.declared.Problem.TheVariants.{Main}
use Rattle.hyd_spec_certificates.specs.declared.Side.TheVariants.{Upper, Lower}
use Rattle.hyd_cert.specs.RecordView.{row_of}
use Rattle.hyd_spec_spread_runs.specs.OutermostPairs.{spanned}
use Rattle.hyd_bounds.specs.VectorsInOrder.{IsVector}
use Rattle.hyd_spread_bounds.specs.BothSides.{pair_of}
use Rattle.hyd_spread_readings.specs.FlowsOfLinks.{box_over, boxes_over}
use Rattle.hyd_spread_readings.proofs.ItemsOfBothSides.{nodes-are, links-are}
use Rattle.hyd_spread_readings.proofs.VectorsOfBothSides.{certificate-of, vector-of, long-heads}
use Rattle.hyd_spread_readings.proofs.readings.put_readings.Goals as goal

pub put_heads-requires-clause-low : goal.put_heads-requires-clause-low
put_heads-requires-clause-low c =
    vector-of c.args.lower.now Main Lower c.vector-low.result.now _ c.vector-low.ensures
    (c.requires.certificates.each Main Lower tt) c.junctions-below.ensures.each

pub put_heads-requires-clause-high : goal.put_heads-requires-clause-high
put_heads-requires-clause-high c =
    vector-of c.args.upper.now Main Upper c.vector-high.result.now _ c.vector-high.ensures
    (c.requires.certificates.each Main Upper tt) c.junctions-above.ensures.each

pub put_heads-requires-clause-low_room : goal.put_heads-requires-clause-low_room
put_heads-requires-clause-low_room c =
    let lower = c.args.lower.now in
    let nodes = nodes-are c.args.project.now lower c.requires.nets.lower_of in
    let is : IsVector lower c.vector-low.result.now = vector-of lower Main Lower c.vector-low.result.now _
    c.vector-low.ensures (c.requires.certificates.each Main Lower tt) c.junctions-below.ensures.each in
    let each = is.one_each in
    let room = c.requires.room.low in
    omega (arith, nodes, each, room)

pub put_heads-requires-clause-high_room : goal.put_heads-requires-clause-high_room
put_heads-requires-clause-high_room c =
    let upper = c.args.upper.now in
    let nodes = nodes-are c.args.project.now upper c.requires.nets.upper_of in
    let is : IsVector upper c.vector-high.result.now = vector-of upper Main Upper c.vector-high.result.now _
    c.vector-high.ensures (c.requires.certificates.each Main Upper tt) c.junctions-above.ensures.each in
    let each = is.one_each in
    let room = c.requires.room.high in
    omega (arith, nodes, each, room)

pub put_flows-requires-clause-low : goal.put_flows-requires-clause-low
put_flows-requires-clause-low c =
    vector-of c.args.lower.now Main Lower c.vector-low.result.now _ c.vector-low.ensures
    (c.requires.certificates.each Main Lower tt) c.junctions-below.ensures.each

pub put_flows-requires-clause-high : goal.put_flows-requires-clause-high
put_flows-requires-clause-high c =
    vector-of c.args.upper.now Main Upper c.vector-high.result.now _ c.vector-high.ensures
    (c.requires.certificates.each Main Upper tt) c.junctions-above.ensures.each

pub put_flows-requires-clause-ordered : goal.put_flows-requires-clause-ordered
put_flows-requires-clause-ordered c =
    let upper = c.args.upper.now in
    let lower = c.args.lower.now in
    c.heads_in_order.ensures.main (pair_of upper lower) c.requires.nets.pair c.junctions-below.ensures.steady
    c.requires.nets.levels c.vector-low.result.now c.vector-high.result.now
    (certificate-of lower Main Lower c.vector-low.result.now _ c.vector-low.ensures
    (c.requires.certificates.each Main Lower tt))
    (certificate-of upper Main Upper c.vector-high.result.now _ c.vector-high.ensures
    (c.requires.certificates.each Main Upper tt))

pub put_flows-requires-clause-room : goal.put_flows-requires-clause-room
put_flows-requires-clause-room c =
    let links = links-are c.args.project.now c.args.upper.now c.requires.nets.upper_of in
    let room = c.requires.room.flows in
    omega (arith, links, room)

pub returns-clause-read : goal.returns-clause-read
returns-clause-read c =
    let upper = c.args.upper.now in
    let lower = c.args.lower.now in
    let pair = pair_of upper lower in
    let row = row_of c.args.row.now in
    record {
      low_is = c.put_heads.ensures.lows ∙ ap (λ (u : List ℤ). u ++ lower.reservoirs) c.vector-low.ensures
          ∙ sym (append-nil (row.main.lower ++ lower.reservoirs));
      high_is = c.put_heads.ensures.highs ∙ ap (λ (u : List ℤ). u ++ upper.reservoirs) c.vector-high.ensures
          ∙ sym (append-nil (row.main.upper ++ upper.reservoirs));
      flows_are = c.put_flows.ensures.flows
          ∙ ap (λ (u : List ℤ). boxes_over pair u c.vector-high.result.now) c.vector-low.ensures
          ∙ ap (λ (u : List ℤ). boxes_over pair row.main.lower u) c.vector-high.ensures;
    }

pub returns-clause-each_low : goal.returns-clause-each_low
returns-clause-each_low c =
    let lower = c.args.lower.now in
    ap length c.put_heads.ensures.lows
    ∙ long-heads c.args.project.now lower c.vector-low.result.now c.requires.nets.lower_of
    (vector-of lower Main Lower c.vector-low.result.now _ c.vector-low.ensures
    (c.requires.certificates.each Main Lower tt) c.junctions-below.ensures.each)

pub returns-clause-each_high : goal.returns-clause-each_high
returns-clause-each_high c =
    let upper = c.args.upper.now in
    ap length c.put_heads.ensures.highs
    ∙ long-heads c.args.project.now upper c.vector-high.result.now c.requires.nets.upper_of
    (vector-of upper Main Upper c.vector-high.result.now _ c.vector-high.ensures
    (c.requires.certificates.each Main Upper tt) c.junctions-above.ensures.each)

pub returns-clause-each_flow : goal.returns-clause-each_flow
returns-clause-each_flow c =
    let upper = c.args.upper.now in
    let pair = pair_of upper c.args.lower.now in
    sym (length-map c.put_flows.new.flows.list flows_of) ∙ ap length c.put_flows.ensures.flows
    ∙ length-map (spanned pair).links (box_over pair c.vector-low.result.now c.vector-high.result.now)
    ∙ c.links-links.ensures.each ∙ links-are c.args.project.now upper c.requires.nets.upper_of
