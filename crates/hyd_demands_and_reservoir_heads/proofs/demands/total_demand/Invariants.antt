use Rattle.std.proofs.Common.{◌≡◌, ◌≤◌, ◌*◌, ◌^◌, ◌+ℤ◌, unsigned_abs, map, drop}
use Rattle.hyd_spec.specs.Lists.{total}
use Rattle.hyd_spec.specs.DemandsHeadsAndPumpLifts.{category_demand}
use Rattle.hyd_demands_and_reservoir_heads.proofs.demands.total_demand.Given as goal

abbrev pub invariant-loop-category : goal.invariant-loop-category
invariant-loop-category l = record {
  told : l.sum +ℤ total (map (category_demand l.project l.time) (drop l.category-index l.categories))
      ≡ total (map (category_demand l.project l.time) l.categories);
  small : unsigned_abs l.sum ≤ l.category-index * 10 ^ 27;
}
