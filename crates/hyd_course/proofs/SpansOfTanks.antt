-- All levels of each tank.
use Rattle.std.proofs.Common.{◌≡◌, ℕ, ◌+◌, ◌<◌, List, [], ◌∷◌, ◌++◌, length, inl, inr, sym, ap, subst, ◌∙◌, arith}
use Rattle.std.proofs.Common.{to_z, of_z, w64}
use Rattle.std.specs.Prelude.{slice_index_or}
use Rattle.std.proofs.lemmas.Bool.{cases_eq}
use Rattle.std.proofs.lemmas.Int.{ints}
use Rattle.std.proofs.lemmas.List.{get_or_push, get_or_append_left}
use Rattle.hyd_net.specs.ListView.{ListView}
use Rattle.hyd_net.specs.NetworkRanges.{IsTank}
use Rattle.hyd_spec.specs.ProgramTypes.{Tank, VolumePoint}
use Rattle.hyd_spec_certificates.specs.declared.LevelSpan.{LevelSpan}
use Rattle.hyd_period_network.specs.NetsSetToPeriods.{IsSpanOf}
use Rattle.hyd_lemmas.proofs.ListsOptionsAndResults.{any_default}
use Rattle.hyd_tank.specs.StockIntervals.{IsTankOfRange}

-- all levels of a tank
pub span_of : (shapes : List (ListView VolumePoint)) (tank : Tank) → IsTank shapes tank
    → IsSpanOf tank (record { lo = to_z w64 (of_z w64 tank.minimum); hi = to_z w64 (of_z w64 tank.maximum) })
span_of shapes tank is =
    let lowest = is.lowest in
    let apart = is.apart in
    let bottom = is.bottom.at_least in
    let top = is.top.at_most in
    record {
      from_minimum = omega (arith, ints, lowest, apart, bottom, top);
      ordered = omega (arith, ints, lowest, apart, bottom, top);
      to_maximum = omega (arith, ints, lowest, apart, bottom, top);
    }

-- one more tank
pub span_more : (tanks : List Tank) (levels new : List LevelSpan) (i : ℕ) (here : Tank) (own : LevelSpan)
    → new ≡ levels ++ (own ∷ []) → length levels ≡ i → i < length tanks
    → here ≡ slice_index_or tanks i here → IsSpanOf here own
    → ((k : ℕ) (tank : Tank) (span : LevelSpan) → k < i
    → IsSpanOf (slice_index_or tanks k tank) (slice_index_or levels k span))
    → (k : ℕ) (tank : Tank) (span : LevelSpan) → k < i + 1
    → IsSpanOf (slice_index_or tanks k tank) (slice_index_or new k span)
span_more tanks levels new i here own pushed long within is spans before k tank span lt = elim (cases_eq k i) [
  | inl e ↦ subst (λ (m : ℕ). IsSpanOf (slice_index_or tanks m tank) (slice_index_or new m span)) (sym e)
      (subst (λ (t : Tank). IsSpanOf t (slice_index_or new i span)) (is ∙ any_default tanks i here tank within)
      (subst (IsSpanOf here) (sym (ap (λ (ls : List LevelSpan). slice_index_or ls i span) pushed
      ∙ get_or_push levels own span i long)) spans))
  | inr ne ↦ subst (IsSpanOf (slice_index_or tanks k tank))
      (sym (ap (λ (ls : List LevelSpan). slice_index_or ls k span) pushed
      ∙ get_or_append_left levels (own ∷ []) span k (omega (arith, lt, ne, long))))
      (before k tank span (omega (arith, lt, ne)))
]

-- the levels of a tank of a sound network
pub range_of : (shapes : List (ListView VolumePoint)) (tank : Tank) → IsTank shapes tank → IsTankOfRange tank
range_of shapes tank is =
    let lowest = is.lowest in
    let apart = is.apart in
    let bottom = is.bottom.at_least in
    let top = is.top.at_most in
    record {
      lowest = lowest;
      apart = omega (arith, ints, apart);
      highest = omega (arith, ints, bottom, top);
    }
