use Rattle.std.proofs.Common.{◌≡◌, map, take}
use Rattle.hyd_rows_and_tables.proofs.numbered_ids.copied.Given as goal

abbrev pub invariant-loop-id : goal.invariant-loop-id
invariant-loop-id l = map (λ id. id.items) l.copies.items ≡ map (λ id. id.items) (take l.id-index l.ids)
