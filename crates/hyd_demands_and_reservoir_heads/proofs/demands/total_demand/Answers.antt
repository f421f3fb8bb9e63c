use Rattle.std.proofs.Common.{pos, List, None, map, arith}
use Rattle.std.proofs.lemmas.Int.{ints}
use Rattle.std.proofs.lemmas.List.{at_drop_more}
use Rattle.hyd_net.specs.declared.nodes.Demand.{Demand}
use Rattle.hyd_spec.specs.Lists.{total}
use Rattle.hyd_spec.specs.DemandsHeadsAndPumpLifts.{category_demand}
use Rattle.hyd_demands_and_reservoir_heads.proofs.demands.total_demand.Goals as goal

pub loop-category-preserved : goal.loop-category-preserved
loop-category-preserved c =
    let none : Demand = record { base = pos 0; pattern = None } in
    let step = at_drop_more (λ (xs : List Demand). total (map (category_demand c.args.project.now c.args.time) xs))
    c.args.categories.now c.loop-category.category-index none c.loop-category-test.true in
    record {
      told = omega (arith, ints, step, c.category_demand-sum.ensures.value, c.loop-category.invariant.told);
      small = omega (arith, ints);
    }
