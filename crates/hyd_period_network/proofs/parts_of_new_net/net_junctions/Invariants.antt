use Rattle.std.proofs.Common.{◌≡◌, ℕ, ◌<◌, length, slice_index_or}
use Rattle.hyd_spec.specs.ProgramTypes.{Junction}
use Rattle.hyd_period_network.specs.declared.junctions_ends_and_settings.NetJunction.{NetJunction}
use Rattle.hyd_period_network.specs.Demands.{IsNetJunction}
use Rattle.hyd_period_network.proofs.parts_of_new_net.net_junctions.Given as goal

abbrev pub invariant-loop-junction : goal.invariant-loop-junction
invariant-loop-junction l = record {
  count : length l.made.items ≡ l.junction-index;
  each : (k : ℕ) (j : Junction) (here : NetJunction) → k < l.junction-index
      → IsNetJunction (slice_index_or l.junctions k j) (slice_index_or l.made.items k here);
}
