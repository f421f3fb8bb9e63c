use Rattle.std.proofs.Common.{◌≡◌, ◌≤◌, ◌+◌, inl, inr, to_z, of_z, w64, ◌∙◌, arith}
use Rattle.std.proofs.lemmas.Int.{ints}
use Rattle.hyd_period_network.proofs.DemandLaws.{kept_more, in_range_more}
use Rattle.hyd_period_network.proofs.demands.kept_demands.Goals as goal

pub loop-i-preserved : goal.loop-i-preserved
loop-i-preserved c =
    let few = c.loop-i.invariant.few in
    let within = c.loop-i-test.true in
    let each = c.requires.each in
    let fits = c.demand_held.type_inv in
    let held : to_z w64 (of_z w64 c.demand_held.result) ≡ c.demand_held.result = omega (arith, ints, fits) in
    let same : to_z w64 (of_z w64 c.in_ok-demand.demand) ≡ c.in_ok-demand.demand =
    omega (arith, ints, c.in_ok-demand.ensures.within) in
    record {
      few = elim c.kept_with-kept.ensures as (λ _. c.kept_with-kept.result ≤ c.loop-i.i + 1) [
        | inl same ↦ omega (arith, same, few)
        | inr more ↦ (let here = more.0 in let next = more.1.1 in omega (arith, here, next))
      ];
      kept = kept_more c.args.project.now c.args.time c.loop-i.kept c.loop-i.i c.kept_with-kept.result
          c.args.demands.now c.index-demands-i.result
          (to_z w64 (of_z w64 c.demand_held.result)) (to_z w64 (of_z w64 c.in_ok-demand.demand))
          c.requires.held c.loop-i.invariant.kept (omega (arith, within, each)) (omega (arith, within))
          c.index-demands-i.is (held ∙ c.demand_held.ensures) (same ∙ c.in_ok-demand.ensures.ok)
          c.kept_with-kept.ensures;
      in_range = in_range_more c.args.project.now c.args.time c.loop-i.i c.in_ok-demand.demand
          (omega (arith, within, each)) c.in_ok-demand.ensures.ok c.in_ok-demand.ensures.within
          c.loop-i.invariant.in_range;
    }
