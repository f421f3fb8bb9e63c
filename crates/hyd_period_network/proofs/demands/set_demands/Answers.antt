use Rattle.std.proofs.Common.{◌≡◌, ℤ, to_z, of_z, w64, subst, ◌∙◌, arith}
use Rattle.std.proofs.lemmas.Int.{ints}
use Rattle.std.proofs.lemmas.List.{length-set}
use Rattle.hyd_period_network.specs.Demands.{IsOutLawOf}
use Rattle.hyd_period_network.proofs.DemandLaws.{demands_set, held_set}
use Rattle.hyd_period_network.proofs.demands.set_demands.Goals as goal

pub loop-i-preserved : goal.loop-i-preserved
loop-i-preserved c =
    let demand = to_z w64 (of_z w64 c.in-Ok.demand) in
    let same : demand ≡ c.in-Ok.demand = omega (arith, ints, c.in-Ok.ensures.within) in
    let n = length-set c.loop-i.demands c.loop-i.i c.set_demand.new.law in
    record {
      count = omega (arith, n, c.loop-i.invariant.count);
      held = held_set c.args.project.now c.loop-i.i c.loop-i.demands demand c.set_demand.new.law
          c.loop-i.invariant.held (omega arith) c.set_demand.ensures.law c.set_demand.ensures.held;
      set = demands_set c.args.project.now c.args.time c.loop-i.i c.loop-i.demands c.set_demand.new.law
          c.loop-i.invariant.set (omega (arith, c.loop-i.invariant.count)) (omega arith)
          (subst (λ (z : ℤ). IsOutLawOf c.args.project.now z c.set_demand.new.law) (same ∙ c.in-Ok.ensures.ok)
          c.set_demand.ensures.law);
    }
