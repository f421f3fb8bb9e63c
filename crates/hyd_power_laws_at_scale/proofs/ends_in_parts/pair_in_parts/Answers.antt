use Rattle.hyd_power_laws_at_scale.proofs.ShiftedNumbers.{in_order}
use Rattle.hyd_power_laws_at_scale.proofs.ends_in_parts.pair_in_parts.Goals as goal

pub invariant_of-result : goal.invariant_of-result
invariant_of-result c = record {
  ordered = in_order c.args.power c.args.minor c.divided-lo.result c.divided-hi.result c.divided-lo.ensures
      c.divided-hi.ensures;
}
