use Rattle.std.proofs.Common.{arith, to_z, of_z}
use Rattle.std.specs.Int.{w128}
use Rattle.std.proofs.lemmas.Int.{ints}
use Rattle.hyd_sim.proofs.IntervalWidths.{more-within}
use Rattle.hyd_open_sim_start.proofs.narrow_vectors.are_within.Goals as goal

pub loop-j-preserved : goal.loop-j-preserved
loop-j-preserved c =
    more-within c.args.upper.now c.args.lower.now (to_z w128 (of_z w128 c.args.most)) c.gap.result c.loop-j.j
    c.gap.ensures
    (let no = c.if-gap-most.false in omega (arith, ints, no)) c.loop-j.invariant
