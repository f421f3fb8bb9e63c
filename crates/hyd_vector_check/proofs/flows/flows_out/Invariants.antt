use Rattle.std.proofs.Common.{◌≡◌, ◌≤◌, ◌*◌, ◌^◌, ◌+ℤ◌, drop}
use Rattle.std.specs.Prelude.{slice_set, unsigned_abs}
use Rattle.hyd_spec_certificates.specs.PeriodNetwork.{all_heads}
use Rattle.hyd_period_network.specs.NetAsPeriodNetwork.{grid_of}
use Rattle.hyd_period_network.specs.LinkEnds.{ties_share}
use Rattle.hyd_period_network.specs.SoundNets.{is_upper}
use Rattle.hyd_vector_check.specs.NetOutflowBySide.{flow_by, is_lower}
use Rattle.hyd_vector_check.proofs.flows.flows_out.Given as goal

abbrev pub invariant-loop-tie : goal.invariant-loop-tie
invariant-loop-tie l = record {
  told : (l.sum +ℤ ties_share (flow_by (is_lower l.side)) (flow_by (is_upper l.side)) (grid_of l.net).links
      (all_heads (grid_of l.net) l.problem l.side (slice_set l.u l.i l.head)) l.head (drop l.tie-index l.tie-items))
      ≡ ties_share (flow_by (is_lower l.side)) (flow_by (is_upper l.side)) (grid_of l.net).links
      (all_heads (grid_of l.net) l.problem l.side (slice_set l.u l.i l.head)) l.head l.tie-items;
  small : unsigned_abs l.sum ≤ l.tie-index * (241 * 10 ^ 20);
}
