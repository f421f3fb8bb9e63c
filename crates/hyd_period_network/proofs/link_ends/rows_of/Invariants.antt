use Rattle.std.proofs.Common.{◌≡◌, ℕ, ◌<◌, ◌++◌, length, slice_index_or, drop}
use Rattle.smallvec.specs.SmallVec.{SmallVec}
use Rattle.hyd_period_network.specs.declared.junctions_ends_and_settings.Tie.{Tie}
use Rattle.hyd_period_network.specs.LinkEnds.{ties_from}
use Rattle.hyd_period_network.proofs.link_ends.rows_of.Given as goal

abbrev pub invariant-loop-number : goal.invariant-loop-number
invariant-loop-number l = record {
  count : length l.rows.items ≡ l.junctions;
  each : (i : ℕ) (d : SmallVec Tie) → i < length l.rows.items
      → (slice_index_or l.rows.items i d).items ++ ties_from i l.number (drop l.number l.ends) ≡ ties_from i 0 l.ends;
}
