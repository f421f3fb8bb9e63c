use Rattle.std.proofs.Common.{refl, sym, true≢false}
use Rattle.std.proofs.lemmas.Result.{err_from_is_err_and}
use Rattle.hyd_net.proofs.IdLemmas.{few_after_push, AreDistinct-map}
use Rattle.hyd_rows_and_tables.proofs.LookUpsByHash.{found_iff, absent_from, map-insert_key}
use Rattle.hyd_rows_and_tables.proofs.numbered_ids.NumberedIds.add.Goals as goal

pub returns-then-contains-clause-present : goal.returns-then-contains-clause-present
returns-then-contains-clause-present c =
    let found = found_iff _ _ _ c.self.view_is c.args.id.now _ c.if-contains.ensures in (λ _. found.0 refl, λ _. refl)

pub returns-in_err-owned-clause-absent_at_err : goal.returns-in_err-owned-clause-absent_at_err
returns-in_err-owned-clause-absent_at_err c =
    let out = err_from_is_err_and c.from_residual.result c.from_residual.ensures.1 in
    rw out.1 (absent_from _ _ _ c.self.view_is c.args.id.now (sym c.if-contains.ensures))

pub returns-in_err-insert-clause-absent_at_err : goal.returns-in_err-insert-clause-absent_at_err
returns-in_err-insert-clause-absent_at_err c =
    let out = err_from_is_err_and c.from_residual-in_err-insert.result c.from_residual-in_err-insert.ensures.1 in
    rw out.1 (absent_from _ _ _ c.self.view_is c.args.id.now (sym c.if-contains.ensures))

pub invariant_of-self-2 : goal.invariant_of-self-2
invariant_of-self-2 c =
    let names = map-insert_key _ _ _ c.self.view_is c.args.id.now _ _ c.in_ok-owned.ensures.items
    (sym c.if-contains.ensures) c.in_ok-insert.ensures.keys in
    record {
      distinct = AreDistinct-map _ _ c.in_ok-insert.ensures.unique;
      few = few_after_push _ _ _ c.requires names;
    }

pub returns-clause-present : goal.returns-clause-present
returns-clause-present c =
    let absent = absent_from _ _ _ c.self.view_is c.args.id.now (sym c.if-contains.ensures) in
    (λ e. absurd (true≢false e), λ there. absurd (absent there))

pub returns-clause-names : goal.returns-clause-names
returns-clause-names c =
    map-insert_key _ _ _ c.self.view_is c.args.id.now _ _ c.in_ok-owned.ensures.items (sym c.if-contains.ensures)
    c.in_ok-insert.ensures.keys

pub returns-clause-distinct : goal.returns-clause-distinct
returns-clause-distinct c = AreDistinct-map _ _ c.in_ok-insert.ensures.unique
