use Rattle.std.proofs.Common.{Bool, subst, ◌^◌}
use Rattle.hyd_num.specs.FileQuantity.{pressure_fraction}
use Rattle.hyd_num.specs.CapacityPairs.{IsPairOf}
use Rattle.hyd_capacities.proofs.pumps_emitters_and_demands.emitter_capacity.Goals as goal

pub capacity-requires : goal.capacity-requires
capacity-requires c = record {
  flows = c.flow_in_ticks-flows.result;
  flows_is = c.flow_in_ticks-flows.ensures.value;
  head = c.pressure_in_ticks-head.result;
  head_is = subst (λ (us : Bool). IsPairOf (pressure_fraction us (10 ^ 9)) c.pressure_in_ticks-head.result)
      c.is_us.ensures c.pressure_in_ticks-head.ensures.value;
  capacity_is = c.square_over.ensures;
}
