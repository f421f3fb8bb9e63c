use Rattle.std.proofs.Common.{◌≤◌, arith}
use Rattle.hyd_num.proofs.LongDivision.{doubled_power, few_doublings, room_to_double}
use Rattle.hyd_num.proofs.fractions.doubled.Goals as goal

pub overflow_add-doublings : goal.overflow_add-doublings
overflow_add-doublings c =
    let few : c.loop-value.doublings ≤ 100 = few_doublings c.args.q c.loop-value.value c.loop-value.doublings
    c.loop-value.invariant.value_is c.loop-value.invariant.short c.requires.q_positive in
    record { fits = omega arith }

pub loop-value-preserved : goal.loop-value-preserved
loop-value-preserved c = record {
  value_is = omega (arith, doubled_power c.args.q c.loop-value.doublings, c.loop-value.invariant.value_is);
  short = room_to_double c.args.p c.loop-value.value c.requires.p_short c.loop-value-test.true;
  positive = omega arith;
}

pub returns-clause-few : goal.returns-clause-few
returns-clause-few c = few_doublings c.args.q c.loop-value.value c.loop-value.doublings
    c.loop-value.invariant.value_is c.loop-value.invariant.short c.requires.q_positive
