use Rattle.std.proofs.Common.{◌≡◌, ℕ, ℤ, ◌<◌, length, slice_index_or}
use Rattle.hyd_spread_rows.specs.SpreadsRead.{spread_of}
use Rattle.hyd_spread_networks.proofs.HeadLemmas.{low_of, high_of}
use Rattle.hyd_spread_networks.proofs.DemandLemmas.{IsEnd, AreBothInRange}
use Rattle.hyd_spread_networks.proofs.demands.put_demands.Given as goal

abbrev pub invariant-loop-place : goal.invariant-loop-place
invariant-loop-place l = record {
  count_least : length l.least ≡ length l.project.junctions.list;
  count_greatest : length l.greatest ≡ length l.project.junctions.list;
  least : (k : ℕ) (d : ℤ) → k < l.place
      → IsEnd low_of l.project (spread_of l.rows) l.time k (slice_index_or l.least k d);
  greatest : (k : ℕ) (d : ℤ) → k < l.place
      → IsEnd high_of l.project (spread_of l.rows) l.time k (slice_index_or l.greatest k d);
  in_range : AreBothInRange l.project (spread_of l.rows) l.time l.place;
}
