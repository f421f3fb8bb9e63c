use Rattle.std.proofs.Common.{◌≡◌, length, vec_len}
use Rattle.std.specs.List.{All}
use Rattle.hyd_sparse.specs.Tables.{IsColumn}
use Rattle.hyd_sparse.proofs.pattern_from_links.make_columns.Given as goal

abbrev pub invariant-loop-place : goal.invariant-loop-place
invariant-loop-place l = record {
  count : vec_len l.columns ≡ l.place;
  inside : All (IsColumn l.nodes (length l.rows.items.items) (length l.updates.items.items)
      (length l.terms.items.items)) l.columns.items;
}
