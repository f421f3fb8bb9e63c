use Rattle.std.proofs.Common.{◌≡◌, ℕ, vec_len}
use Rattle.std.specs.Prelude.{None, slice_index_or}
use Rattle.hyd_spread_rows.proofs.said.Said.new.Given as goal

abbrev pub invariant-loop-node : goal.invariant-loop-node
invariant-loop-node l = record {
  count : vec_len l.named ≡ l._node;
  none : (node : ℕ) → slice_index_or l.named.items node None ≡ None;
}
