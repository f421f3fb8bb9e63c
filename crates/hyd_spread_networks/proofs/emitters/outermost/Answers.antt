use Rattle.std.proofs.Common.{inl, inr, refl, ap, arith}
use Rattle.std.proofs.lemmas.Int.{ints}
use Rattle.std.proofs.lemmas.Result.{err_from_is_err_and}
use Rattle.hyd_spec_certificates.specs.Interval.{Interval}
use Rattle.hyd_spec_spread_rows.specs.TextsOfSpreads.{factors_from}
use Rattle.hyd_theorems_on_spread.proofs.ProductsInOrder.{products-hold}
use Rattle.hyd_spread_networks.proofs.DemandLemmas.{around_one}
use Rattle.hyd_spread_networks.proofs.EmitterLemmas.{taken, products_of, reaches_of, reaches_sound, refused_of}
use Rattle.hyd_spread_networks.proofs.EmitterLemmas.{ends_in_order}
use Rattle.hyd_spread_networks.proofs.emitters.outermost.Goals as goal

pub returns-clause-reaches : goal.returns-clause-reaches
returns-clause-reaches c =
    let ends = products_of (factors_from c.args.factors) _ c.in-Emitter.unit c.in-Emitter.coefficient
    c.products-between.result.low c.products-between.result.high (rw c.in-Emitter.is at c.requires.ranged)
    c.products-between.ensures.least c.products-between.ensures.greatest c.products-between.ensures.value in
    reaches_of (factors_from c.args.factors) c.args.own _ c.in_ok-least.least c.in_ok-greatest.greatest
    c.in-Emitter.coefficient c.in-Emitter.unit (taken c.products-between.result.low)
    (taken c.products-between.result.high) c.in-Emitter.is ends (c.in_ok-least.ensures.emitter c.in-Emitter.coefficient)
    (c.in_ok-greatest.ensures.emitter c.in-Emitter.coefficient) refl refl refl

pub returns-clause-sound : goal.returns-clause-sound
returns-clause-sound c =
    let ends = products_of (factors_from c.args.factors) _ c.in-Emitter.unit c.in-Emitter.coefficient
    c.products-between.result.low c.products-between.result.high (rw c.in-Emitter.is at c.requires.ranged)
    c.products-between.ensures.least c.products-between.ensures.greatest c.products-between.ensures.value in
    reaches_sound c.args.project.now.options.unit (factors_from c.args.factors)
    (around_one c.args.factors c.requires.factors) c.args.own _ c.requires.ranged c.requires.made
    (reaches_of (factors_from c.args.factors) c.args.own _ c.in_ok-least.least c.in_ok-greatest.greatest
    c.in-Emitter.coefficient c.in-Emitter.unit (taken c.products-between.result.low)
    (taken c.products-between.result.high) c.in-Emitter.is ends (c.in_ok-least.ensures.emitter c.in-Emitter.coefficient)
    (c.in_ok-greatest.ensures.emitter c.in-Emitter.coefficient) refl refl refl)

pub returns-in_err-least-clause-refused : goal.returns-in_err-least-clause-refused
returns-in_err-least-clause-refused c =
    let ends = products_of (factors_from c.args.factors) _ c.in-Emitter.unit c.in-Emitter.coefficient
    c.products-between.result.low c.products-between.result.high (rw c.in-Emitter.is at c.requires.ranged)
    c.products-between.ensures.least c.products-between.ensures.greatest c.products-between.ensures.value in
    let out = err_from_is_err_and c.from_residual.result c.from_residual.ensures.1 in
    rw out.1 (refused_of (factors_from c.args.factors) c.args.own c.in-Emitter.coefficient c.in-Emitter.unit
    (taken c.products-between.result.low) (taken c.products-between.result.high) c.in-Emitter.is ends
    (inl c.in_err-least.ensures.refused))

pub returns-in_err-greatest-clause-refused : goal.returns-in_err-greatest-clause-refused
returns-in_err-greatest-clause-refused c =
    let ends = products_of (factors_from c.args.factors) _ c.in-Emitter.unit c.in-Emitter.coefficient
    c.products-between.result.low c.products-between.result.high (rw c.in-Emitter.is at c.requires.ranged)
    c.products-between.ensures.least c.products-between.ensures.greatest c.products-between.ensures.value in
    let out = err_from_is_err_and c.from_residual-in_err-greatest.result c.from_residual-in_err-greatest.ensures.1 in
    rw out.1 (refused_of (factors_from c.args.factors) c.args.own c.in-Emitter.coefficient c.in-Emitter.unit
    (taken c.products-between.result.low) (taken c.products-between.result.high) c.in-Emitter.is ends
    (inr c.in_err-greatest.ensures.refused))

pub invariant_of-result-clause-ordered : goal.invariant_of-result-clause-ordered
invariant_of-result-clause-ordered c =
    let ends = products_of (factors_from c.args.factors) _ c.in-Emitter.unit c.in-Emitter.coefficient
    c.products-between.result.low c.products-between.result.high (rw c.in-Emitter.is at c.requires.ranged)
    c.products-between.ensures.least c.products-between.ensures.greatest c.products-between.ensures.value in
    let holds = products-hold (factors_from c.args.factors) (around_one c.args.factors c.requires.factors)
    c.in-Emitter.coefficient.nano in
    let low = ap (λ (x : Interval). x.lo) ends in
    let high = ap (λ (x : Interval). x.hi) ends in
    let l = holds.low in
    let h = holds.high in
    ends_in_order _ (taken c.products-between.result.low) (taken c.products-between.result.high)
    c.in_ok-least.least c.in_ok-greatest.greatest (c.in_ok-least.ensures.emitter c.in-Emitter.coefficient)
    (c.in_ok-greatest.ensures.emitter c.in-Emitter.coefficient) (omega (arith, ints, low, high, l, h))
