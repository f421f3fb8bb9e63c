use Rattle.std.proofs.Common.{ℕ, arith}
use Rattle.std.specs.Int.{w128}
use Rattle.std.proofs.lemmas.Int.{ints, to_z-of_z}
use Rattle.hyd_met_flows.proofs.FlowsOverTies.{one_tie_more}
use Rattle.hyd_met_flows.proofs.balances.taken_by.Goals as goal

pub loop-i-preserved : goal.loop-i-preserved
loop-i-preserved c =
    let flows = c.args.flows.now in
    let ties = c.args.ties.now in
    let i : ℕ = c.loop-i.i in
    let tie = c.tie_at-tie.result in
    let t = to_z-of_z w128 c.taken-sum.result (record { sfits = c.taken-sum.type_inv }) in
    let more = one_tie_more flows ties i tie c.loop-i-test.true c.tie_at-tie.ensures.value in
    let value = c.taken-sum.ensures.value in
    let small = c.taken-sum.ensures.small in
    let sum = c.loop-i.invariant.sum in
    let bound = c.loop-i.invariant.small in
    let few = c.requires.few in
    let test = c.loop-i-test.true in
    record {
      sum = omega (arith, ints, t, more, value, small, sum, bound, few, test, c.loop-i.sum-is);
      small = omega (arith, ints, t, value, small, bound, few, test, c.loop-i.sum-is);
    }
