-- The outflow box of a junction on both sides: from the least outflow of the one to the greatest of the other.
use Rattle.std.proofs.Common.{◌≡◌, ℕ, ◌<◌, ℤ, ◌≤ℤ◌, arith, List, length, subst}
use Rattle.std.specs.Prelude.{Option, Some, None, slice_get}
use Rattle.std.specs.Option.{IfSome}
use Rattle.std.proofs.lemmas.Int.{ints}
use Rattle.hyd_num.specs.declared.spans.Span.{Span}
use Rattle.hyd_spec.specs.ProgramTypes.{Capacity}
use Rattle.hyd_spec_certificates.specs.EnclosingFunctions.{DemandLaw}
use Rattle.hyd_spec_certificates.specs.PeriodNetwork.{GridJunction}
use Rattle.hyd_spec_certificates.specs.NetOutflow.{outflow_low, outflow_high}
use Rattle.hyd_spec_certificates.specs.FlowIntervals.{out_box}
use Rattle.hyd_spec_spread_runs.specs.OutermostPairs.{Pair, outflow_over}
use Rattle.hyd_theorems_on_definitions.specs.SoundLawsAndGrids.{IsSteady}
use Rattle.hyd_theorems_on_definitions.proofs.NetOutflowsRise.{demand-at, outflow-rises}
use Rattle.hyd_theorems_on_spread.specs.GridsBeyondOthers.{TakesNoMore}
use Rattle.hyd_theorems_on_spread.proofs.ZippedLists.{beside-first}
use Rattle.hyd_lemmas.proofs.ListsOptionsAndResults.{item_there}
use Rattle.hyd_bounds.specs.VectorsInOrder.{IsSpan}
use Rattle.hyd_spread_bounds.specs.BothSides.{IsOrderedPair}

-- the outflows at both heads lie in the box
record IsAround (junction : GridJunction) (h k : ℤ) : Type 0 where
  low : (out_box junction h k).lo ≤ℤ outflow_low junction h
  high : outflow_high junction k ≤ℤ (out_box junction h k).hi

around : (elevation : ℤ) (demand : DemandLaw) (emitter : Option Capacity) (h k : ℤ)
    → IsAround (record { elevation = elevation; demand = demand; emitter = emitter }) h k
around elevation demand None h k = record { low = omega (arith, ints); high = omega (arith, ints) }
around elevation demand (Some capacity) h k = record { low = omega (arith, ints); high = omega (arith, ints) }

-- the span at a number
span-at : (junctions : List GridJunction) (i : ℕ) (junction : GridJunction) (h k : ℤ) (span : Span)
    → IfSome (slice_get junctions i) (λ (j : GridJunction). IsSpan span (out_box j h k))
    → slice_get junctions i ≡ Some junction → IsSpan span (out_box junction h k)
span-at junctions i junction h k span is at =
    subst (λ (o : Option GridJunction). IfSome o (λ (j : GridJunction). IsSpan span (out_box j h k))) at is

module _ (pair : Pair) (i : ℕ) (h k : ℤ) (least greatest : Span)
    (above : IfSome (slice_get pair.upper.junctions i) (λ (j : GridJunction). IsSpan least (out_box j h k)))
    (below : IfSome (slice_get pair.lower.junctions i) (λ (j : GridJunction). IsSpan greatest (out_box j h k))) where
  -- from the least end of the one to the greatest of the other
  pub outflow-is : (low high : ℤ) → h ≡ low → k ≡ high → (span : Span) → span.lo ≡ least.lo → span.hi ≡ greatest.hi
      → (x y : GridJunction) → slice_get pair.upper.junctions i ≡ Some x → slice_get pair.lower.junctions i ≡ Some y
      → IsSpan span (outflow_over x y low high)
  outflow-is low high low_is high_is span lo hi x y at_x at_y =
      let u = (span-at pair.upper.junctions i x h k least above at_x).lo_is in
      let l = (span-at pair.lower.junctions i y h k greatest below at_y).hi_is in
      let here : IsSpan span (outflow_over x y h k) =
      record { lo_is = omega (arith, ints, lo, u); hi_is = omega (arith, ints, hi, l) } in
      subst (λ (a : ℤ). IsSpan span (outflow_over x y a high)) low_is
      (subst (λ (b : ℤ). IsSpan span (outflow_over x y h b)) high_is here)

  -- the one end is at most the other
  pub outflow-ordered : IsOrderedPair pair → IsSteady pair.lower → i < length pair.upper.junctions → h ≤ℤ k
      → least.lo ≤ℤ greatest.hi
  outflow-ordered is steady lt le =
      let here = item_there pair.upper.junctions i lt in
      let other = beside-first TakesNoMore pair.upper.junctions pair.lower.junctions is.junctions i here.0 here.1 in
      let x = here.0 in
      let y = other.beside in
      let u = (span-at pair.upper.junctions i x h k least above here.1).lo_is in
      let l = (span-at pair.lower.junctions i y h k greatest below other.is_beside).hi_is in
      let a = (around x.elevation x.demand x.emitter h k).low in
      let b = (around y.elevation y.demand y.emitter h k).high in
      let takes = other.holds.takes h in
      let rises = outflow-rises y h k (demand-at pair.lower.junctions i y steady.demands other.is_beside) le in
      omega (arith, ints, u, l, a, b, takes, rises)
