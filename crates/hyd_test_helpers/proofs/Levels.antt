-- Tanks whose levels are in order have heads that are.
use Rattle.std.proofs.Common.{◌≡◌, ℕ, zero, suc, ◌<◌, ℤ, ◌≤ℤ◌, List, [], ◌∷◌, length, map, slice_index_or, subst, arith}
use Rattle.std.specs.Prelude.{Some, slice_get}
use Rattle.std.proofs.lemmas.Int.{ints}
use Rattle.hyd_spec.specs.ProgramTypes.{Tank}
use Rattle.hyd_spec_certificates.specs.SpansAsIntervals.{levels_of}
use Rattle.hyd_spec_certificates.specs.Interval.{Interval, shifted}
use Rattle.hyd_spec_certificates.specs.PeriodNetwork.{Grid, tank_intervals}
use Rattle.hyd_spec_certificates.specs.declared.LevelSpan.{LevelSpan}
use Rattle.hyd_period_network.specs.NetsSetToPeriods.{IsSpanOf}
use Rattle.hyd_lemmas.proofs.ListsOptionsAndResults.{same_item}
use Rattle.hyd_theorems_on_definitions.specs.SoundLawsAndGrids.{TanksInOrder}

abbrev AreSpans : List Tank → List LevelSpan → Type 0
AreSpans tanks levels = (k : ℕ) (tank : Tank) (span : LevelSpan) → k < length levels
    → IsSpanOf (slice_index_or tanks k tank) (slice_index_or levels k span)

in_order : (tanks : List Tank) (levels : List LevelSpan) → AreSpans tanks levels
    → (n : ℕ) (x : Interval) → slice_get (tank_intervals tanks (map levels_of levels)) n ≡ Some x → x.lo ≤ℤ x.hi
in_order [] levels spans n x at = cc
in_order (t ∷ tanks) [] spans n x at = cc
in_order (t ∷ tanks) (l ∷ levels) spans zero x at =
    let le : l.lo ≤ℤ l.hi = (spans 0 t l (omega arith)).ordered in
    subst (λ (y : Interval). y.lo ≤ℤ y.hi) (same_item Interval (shifted t.bottom (levels_of l)) x at)
    (omega (arith, ints, le))
in_order (t ∷ tanks) (l ∷ levels) spans (suc n) x at = in_order tanks levels
    (λ k tank span lt. spans (suc k) tank span (omega (arith, lt))) n x at

pub tanks_in_order : (grid : Grid) (tanks : List Tank) (levels : List LevelSpan)
    → grid.tanks ≡ tank_intervals tanks (map levels_of levels)
    → AreSpans tanks levels → TanksInOrder grid
tanks_in_order grid tanks levels e spans k x at =
    in_order tanks levels spans k x (subst (λ (is : List Interval). slice_get is k ≡ Some x) e at)
