use Rattle.std.proofs.Common.{◌≡◌, ℤ, ap, sym, subst, ◌∙◌, arith}
use Rattle.std.proofs.lemmas.Int.{ints}
use Rattle.hyd_demands_and_reservoir_heads.specs.DemandsAndHeadsByNumber.{IsInRange, junction_demand}
use Rattle.hyd_spec_certificates.specs.Interval.{Interval}
use Rattle.hyd_spec_spread.specs.IntervalsOfData.{products}
use Rattle.hyd_spec_spread_rows.specs.TextsOfSpreads.{factors_from, interval_from}
use Rattle.hyd_spread_networks.proofs.DemandLemmas.{around_one, own_in_range}
use Rattle.hyd_spread_networks.proofs.demands.demand_between.Goals.{else-is_demand-via-then-is_demand+else-is_demand-2}
use Rattle.hyd_spread_networks.proofs.demands.demand_between.Goals.{else-is_demand-via-else-is_demand}
use Rattle.hyd_spread_networks.proofs.demands.demand_between.Goals as goal

pub returns-in-Err-clause-beyond : goal.returns-in-Err-clause-beyond
returns-in-Err-clause-beyond c = λ low high.
    let own = own_in_range (factors_from c.args.factors) (around_one c.args.factors c.requires.factors)
    (junction_demand c.args.project.now c.args.time c.args.junction) low high in
    let beyond = c.in-Err.ensures.beyond in
    let value = c.in-Err.ensures.err in
    absurd (omega (arith, ints, own, beyond, value))

pub returns-clause-beyond : goal.returns-clause-beyond
returns-clause-beyond c = λ low high.
    let ok = c.in-Ok.ensures.ok in
    let within = c.in-Ok.ensures.within in
    let ends : interval_from c.products-ends.result
    ≡ products (factors_from c.args.factors) (junction_demand c.args.project.now c.args.time c.args.junction) =
    c.products-ends.ensures.value
    ∙ ap (λ (z : ℤ). products (factors_from c.args.factors) z) (omega (arith, ints, ok, within)) in
    let l : IsInRange c.products-ends.result.low = subst (λ (x : Interval). IsInRange x.lo) (sym ends) low in
    let h : IsInRange c.products-ends.result.high = subst (λ (x : Interval). IsInRange x.hi) (sym ends) high in
    elim c.else-is_demand.branch [
      | else-is_demand-via-then-is_demand+else-is_demand-2 w ↦
          (rw w.if-is_demand-2.false at w.is_demand-then-is_demand.ensures.no) (omega (arith, ints, h))
      | else-is_demand-via-else-is_demand w ↦
          (rw w.if-is_demand.false at c.is_demand.ensures.no) (omega (arith, ints, l))
    ]
