use Rattle.std.proofs.Common.{◌≡◌, false, sym, true≢false, ◌∙◌}
use Rattle.std.specs.Prelude.{Contains, map}
use Rattle.hyd_net.specs.Ids.{AreDistinct}
use Rattle.hyd_net.proofs.IdLemmas.{names_after_push, distinct_after_push, few_after_push}
use Rattle.hyd_net.proofs.names.Names.add.Goals as goal
use Rattle.hyd_net.proofs.names.Names.add.Goals.{In_ok-push}

absent : (c : In_ok-push) → ¬ Contains c.args.self.now c.args.id.now
absent c there = true≢false (sym (c.contains.ensures.1 there) ∙ c.if-contains.false)

distinct : (c : In_ok-push) → AreDistinct (map (λ id. id.items) c.push.new.self.items)
distinct c =
    distinct_after_push _ _ _ c.self.view_is _ c.args.id.now c.in_ok-owned.ensures.items _ c.in_ok-push.ensures.items
    (rw (← c.self.view_is) c.self.invariant.distinct) (absent c)

pub invariant_of-self-2 : goal.invariant_of-self-2
invariant_of-self-2 c = record {
  distinct = distinct c;
  few = few_after_push _ _ _ c.requires (names_after_push _ _ _ c.self.view_is _ c.args.id.now
      c.in_ok-owned.ensures.items _ c.in_ok-push.ensures.items);
}

pub returns-clause-distinct : goal.returns-clause-distinct
returns-clause-distinct c = distinct c
