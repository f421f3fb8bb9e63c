use Rattle.std.proofs.Common.{◌≡◌, ◌+◌, ◌<◌, ℕ, vec_len}
use Rattle.std.specs.Prelude.{slice_index_or}
use Rattle.hyd_spread_rows.specs.RowsSaid.{ends_at}
use Rattle.hyd_spread_rows.proofs.resolved.for_nodes.Given as goal

abbrev pub invariant-loop-k : goal.invariant-loop-k
invariant-loop-k l = record {
  count : vec_len l.each ≡ l.k;
  done : (k : ℕ) → k < l.k → slice_index_or l.each.items k l.own ≡ ends_at l.said l.own (l.from + k);
}
