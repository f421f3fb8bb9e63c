use Rattle.std.proofs.Common.{◌≡◌, ◌+◌, ◌<◌, ℕ, vec_len}
use Rattle.std.specs.Prelude.{Some, slice_get, slice_index_or}
use Rattle.hyd_spec.specs.ProgramTypes.{Tank}
use Rattle.hyd_spec_spread_rows.specs.declared.Ends.{Ends}
use Rattle.hyd_spec_spread_rows.specs.TextsOfSpreads.{at_both}
use Rattle.hyd_spread_rows.specs.RowsSaid.{ends_at}
use Rattle.hyd_spread_rows.proofs.resolved.for_tanks.Given as goal

abbrev pub invariant-loop-k : goal.invariant-loop-k
invariant-loop-k l = record {
  count : vec_len l.each ≡ l.k;
  done : (k : ℕ) (tank : Tank) (own : Ends) → k < l.k → slice_get l.tanks k ≡ Some tank
      → slice_index_or l.each.items k own ≡ ends_at l.said (at_both tank.initial) (l.from + k);
}
