use Rattle.std.proofs.Common.{◌≡◌, ◌∙◌, ◌<◌, ◌++◌, ◌∷◌, [], ℕ, ℤ, List, ap, length, arith, w64, to_z, of_z}
use Rattle.std.proofs.lemmas.Int.{ints}
use Rattle.std.proofs.lemmas.List.{length_push, length-append}
use Rattle.hyd_spread_bounds.specs.BothSides.{pair_of}
use Rattle.hyd_spread_bounds.proofs.HeadsOfBothSides.{junctions-alike, reservoirs-alike}
use Rattle.hyd_spread_readings.proofs.ItemsOfBothSides.{one-head, all-heads-there, head-below, head-above}
use Rattle.hyd_spread_readings.proofs.heads.put_heads.Goals as goal

pub loop-node-preserved : goal.loop-node-preserved
loop-node-preserved c =
    let upper = c.args.upper.now in
    let lower = c.args.lower.now in
    let pair = pair_of upper lower in
    let low = c.args.low.now in
    let high = c.args.high.now in
    let i : ℕ = c.loop-node.node in
    let junctions = junctions-alike upper lower c.requires.pair in
    let reservoirs = reservoirs-alike upper lower c.requires.pair in
    let above = c.junctions-above.ensures.each in
    let below = c.junctions-below.ensures.each in
    let low_each = c.requires.low.one_each in
    let high_each = c.requires.high.one_each in
    let nodes = c.nodes.ensures.count in
    let tanks = c.tanks.ensures.count in
    let test = c.loop-node-test.true in
    let low_long = length-append low lower.reservoirs in
    let high_long = length-append high upper.reservoirs in
    let in_low : i < length (low ++ lower.reservoirs) =
    omega (arith, junctions, reservoirs, above, below, low_each, nodes, tanks, test, low_long) in
    let in_high : i < length (high ++ upper.reservoirs) =
    omega (arith, high_each, nodes, tanks, test, high_long) in
    let lo : ℤ = c.head_span-span.result.lo in
    let hi : ℤ = c.head_span-span.result.hi in
    let lo_small = c.head_span-span.ensures.small_lo in
    let hi_small = c.head_span-span.ensures.small_hi in
    let lo_kept : to_z w64 (of_z w64 lo) ≡ lo = omega (arith, ints, lo_small) in
    let hi_kept : to_z w64 (of_z w64 hi) ≡ hi = omega (arith, ints, hi_small) in
    let lows : List ℤ = c.loop-node.lows.list in
    let highs : List ℤ = c.loop-node.highs.list in
    let lows_now : c.add_head.new.heads.list ≡ lows ++ lo ∷ [] =
    c.add_head.ensures.list ∙ ap (λ (h : ℤ). lows ++ h ∷ []) lo_kept in
    let highs_now : c.add_head-in-loop-node.new.heads.list ≡ highs ++ hi ∷ [] =
    c.add_head-in-loop-node.ensures.list ∙ ap (λ (h : ℤ). highs ++ h ∷ []) hi_kept in
    let lows_long = length_push lows lo in
    let highs_long = length_push highs hi in
    let lows_count = c.loop-node.invariant.lows_count in
    let highs_count = c.loop-node.invariant.highs_count in
    let low_spare = c.add_head.ensures.spare in
    let high_spare = c.add_head-in-loop-node.ensures.spare in
    let low_room = c.loop-node.invariant.low_room in
    let high_room = c.loop-node.invariant.high_room in
    record {
      lows_count = omega (arith, ap length lows_now, lows_long, lows_count);
      highs_count = omega (arith, ap length highs_now, highs_long, highs_count);
      lows = lows_now ∙ one-head (low ++ lower.reservoirs) lows i lo in_low
          (c.head_span-span.ensures.lo ∙ head-below pair low i in_low) c.loop-node.invariant.lows;
      highs = highs_now ∙ one-head (high ++ upper.reservoirs) highs i hi in_high
          (c.head_span-span.ensures.hi ∙ head-above pair high i in_high) c.loop-node.invariant.highs;
      low_room = omega (arith, ap length lows_now, lows_long, low_spare, low_room);
      high_room = omega (arith, ap length highs_now, highs_long, high_spare, high_room);
    }

pub returns-clause-lows : goal.returns-clause-lows
returns-clause-lows c =
    let upper = c.args.upper.now in
    let lower = c.args.lower.now in
    let low = c.args.low.now in
    let junctions = junctions-alike upper lower c.requires.pair in
    let reservoirs = reservoirs-alike upper lower c.requires.pair in
    let above = c.junctions-above.ensures.each in
    let below = c.junctions-below.ensures.each in
    let each = c.requires.low.one_each in
    let nodes = c.nodes.ensures.count in
    let tanks = c.tanks.ensures.count in
    let test = c.loop-node-test.false in
    let long = length-append low lower.reservoirs in
    all-heads-there (low ++ lower.reservoirs) c.loop-node.lows.list c.loop-node.node
    (omega (arith, junctions, reservoirs, above, below, each, nodes, tanks, test, long)) c.loop-node.invariant.lows

pub returns-clause-highs : goal.returns-clause-highs
returns-clause-highs c =
    let upper = c.args.upper.now in
    let high = c.args.high.now in
    let each = c.requires.high.one_each in
    let nodes = c.nodes.ensures.count in
    let tanks = c.tanks.ensures.count in
    let test = c.loop-node-test.false in
    let long = length-append high upper.reservoirs in
    all-heads-there (high ++ upper.reservoirs) c.loop-node.highs.list c.loop-node.node
    (omega (arith, each, nodes, tanks, test, long)) c.loop-node.invariant.highs

pub add_head-requires : goal.add_head-requires
add_head-requires c =
    let upper = c.args.upper.now in
    let lower = c.args.lower.now in
    let junctions = junctions-alike upper lower c.requires.pair in
    let reservoirs = reservoirs-alike upper lower c.requires.pair in
    let above = c.junctions-above.ensures.each in
    let below = c.junctions-below.ensures.each in
    let each = c.requires.low.one_each in
    let nodes = c.nodes.ensures.count in
    let tanks = c.tanks.ensures.count in
    let test = c.loop-node-test.true in
    let given = c.requires.low_room in
    let count = c.loop-node.invariant.lows_count in
    let room = c.loop-node.invariant.low_room in
    omega (arith, junctions, reservoirs, above, below, each, nodes, tanks, test, given, count, room)

pub add_head-requires-in-loop-node : goal.add_head-requires-in-loop-node
add_head-requires-in-loop-node c =
    let each = c.requires.high.one_each in
    let nodes = c.nodes.ensures.count in
    let tanks = c.tanks.ensures.count in
    let test = c.loop-node-test.true in
    let given = c.requires.high_room in
    let count = c.loop-node.invariant.highs_count in
    let room = c.loop-node.invariant.high_room in
    omega (arith, each, nodes, tanks, test, given, count, room)
