use Rattle.std.proofs.Common.{◌≡◌, ℕ, ℤ, ◌<◌, length, slice_index_or}
use Rattle.hyd_law.specs.declared.demand_law_kinds.OutLaw.{OutLaw}
use Rattle.hyd_period_network.specs.Demands.{AreHeld, IsOutLawOf}
use Rattle.hyd_period_network.proofs.given_data.give_demands.Given as goal

abbrev pub invariant-loop-i : goal.invariant-loop-i
invariant-loop-i l = record {
  count : length l.demands ≡ length l.given;
  held : AreHeld l.project l.demands;
  set : (k : ℕ) (law : OutLaw) → k < l.i → (q : ℤ)
      → IsOutLawOf l.project (slice_index_or l.given k q) (slice_index_or l.demands k law);
}
