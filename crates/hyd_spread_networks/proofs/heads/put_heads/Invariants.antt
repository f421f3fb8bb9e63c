use Rattle.std.proofs.Common.{◌≡◌, ℕ, ℤ, ◌<◌, length, slice_index_or}
use Rattle.hyd_spread_rows.specs.SpreadsRead.{spread_of}
use Rattle.hyd_spread_networks.proofs.HeadLemmas.{IsHeadAt, low_of, high_of}
use Rattle.hyd_spread_networks.proofs.heads.put_heads.Given as goal

abbrev pub invariant-loop-place : goal.invariant-loop-place
invariant-loop-place l = record {
  count_least : length l.least ≡ length l.project.reservoirs.list;
  count_greatest : length l.greatest ≡ length l.project.reservoirs.list;
  least : (k : ℕ) (d : ℤ) → k < l.place
      → IsHeadAt low_of l.project (spread_of l.rows) l.time k (slice_index_or l.least k d);
  greatest : (k : ℕ) (d : ℤ) → k < l.place
      → IsHeadAt high_of l.project (spread_of l.rows) l.time k (slice_index_or l.greatest k d);
}
