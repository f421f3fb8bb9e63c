use Rattle.std.proofs.Common.{◌≡◌, ℕ, ℤ, ◌<◌, length, slice_index_or}
use Rattle.hyd_net.specs.NumberRanges.{IsHead}
use Rattle.hyd_demands_and_reservoir_heads.specs.DemandsAndHeadsByNumber.{head_of_reservoir}
use Rattle.hyd_period_network.proofs.fixed_heads.set_reservoirs.Given as goal

abbrev pub invariant-loop-i : goal.invariant-loop-i
invariant-loop-i l = record {
  count : length l.heads ≡ length l.project.reservoirs.list;
  set : (k : ℕ) (h : ℤ) → k < l.i → (slice_index_or l.heads k h ≡ head_of_reservoir l.project l.time k)
      × IsHead (slice_index_or l.heads k h);
}
