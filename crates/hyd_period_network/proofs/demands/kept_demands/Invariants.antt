use Rattle.std.proofs.Common.{ℕ, ◌<◌, ◌≤◌, ◌^◌, slice_index_or, unsigned_abs}
use Rattle.hyd_spec.specs.ProgramTypes.{Junction}
use Rattle.hyd_spec.specs.DemandsHeadsAndPumpLifts.{demand_of}
use Rattle.hyd_period_network.specs.Demands.{AreDemandsAt}
use Rattle.hyd_period_network.proofs.demands.kept_demands.Given as goal

abbrev pub invariant-loop-i : goal.invariant-loop-i
invariant-loop-i l = record {
  few : l.kept ≤ l.i;
  kept : AreDemandsAt l.project l.time l.demands l.kept;
  in_range : (k : ℕ) (junction : Junction) → k < l.i → unsigned_abs
      (demand_of l.project l.time (slice_index_or l.project.junctions.list k junction)) ≤ 10 ^ 15;
}
