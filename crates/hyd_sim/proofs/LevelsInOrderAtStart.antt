-- The tank intervals of a period's network are in order, and as many as there are tanks, by the standing of its run.
use Rattle.std.proofs.Common.{◌≡◌, ℕ, zero, suc, ◌+◌, ◌≤◌, ℤ, ◌+ℤ◌, ◌≤ℤ◌, List, [], ◌∷◌, length, map, sym}
use Rattle.std.proofs.Common.{ap, subst, ◌∙◌, arith}
use Rattle.std.specs.Prelude.{Some, slice_get, slice_index_or}
use Rattle.std.proofs.lemmas.Int.{ints}
use Rattle.std.proofs.lemmas.List.{length-map}
use Rattle.hyd_spec.specs.ProgramTypes.{Project, Tank}
use Rattle.hyd_spec.specs.Tank.{level_bounds}
use Rattle.hyd_spec_certificates.specs.SpansAsIntervals.{levels_of}
use Rattle.hyd_spec_certificates.specs.Interval.{Interval}
use Rattle.hyd_spec_certificates.specs.PeriodNetwork.{Grid, tank_intervals}
use Rattle.hyd_spec_certificates.specs.RecordAndStanding.{Standing}
use Rattle.hyd_spec_certificates.specs.Decided.{nowhere, level_of_tank}
use Rattle.hyd_spec_certificates.specs.Valid.{IsGridAt}
use Rattle.hyd_spec_certificates.specs.declared.LevelSpan.{LevelSpan}
use Rattle.hyd_theorems_on_definitions.specs.LyingInIntervals.{IsWithin}
use Rattle.hyd_theorems_on_definitions.specs.SoundLawsAndGrids.{TanksInOrder}
use Rattle.hyd_theorems_on_histories.specs.Agreement.{IsKept}
use Rattle.hyd_theorems_on_nesting.specs.StandingsOfRuns.{IsTidy}
use Rattle.hyd_period_network.specs.NetsSetToPeriods.{AreLevels, IsSpanOf}
use Rattle.hyd_lemmas.proofs.ListsOptionsAndResults.{item_is, item_there, mapped}

span-of : (tank : Tank) (span : LevelSpan) (x : Interval) → x ≡ levels_of span → IsWithin (level_bounds tank) x
    → x.lo ≤ℤ x.hi → IsSpanOf tank span
span-of tank span x is within ordered =
    let bounds : IsWithin (level_bounds tank) (levels_of span) = subst (IsWithin (level_bounds tank)) is within in
    let order : span.lo ≤ℤ span.hi = subst (λ (y : Interval). y.lo ≤ℤ y.hi) is ordered in
    record { from_minimum = bounds.lo_above; ordered = order; to_maximum = bounds.hi_below }

-- the levels of a standing that is kept and tidy
pub levels-there : (project : Project) (standing : Standing) (levels : List LevelSpan)
    → map levels_of levels ≡ standing.levels → IsKept project standing → IsTidy project standing
    → AreLevels project levels
levels-there project standing levels are kept tidy = record {
  each = long;
  spans = λ k tank span less.
      let there = item_there project.tanks.list k (omega (arith, less, long)) in
      let own = item_is project.tanks.list k there.0 tank there.1 in
      let at : level_of_tank standing k ≡ levels_of (slice_index_or levels k span) =
      ap (λ (xs : List Interval). slice_index_or xs k nowhere) (sym are) ∙ mapped levels_of levels k nowhere span
      less in
      subst (λ (t : Tank). IsSpanOf t (slice_index_or levels k span)) (sym own)
      (span-of there.0 (slice_index_or levels k span) (level_of_tank standing k) at (kept.levels k there.0 there.1)
      (tidy.ordered k).level);
}
  where
    long : length levels ≡ length project.tanks.list
    long = sym (length-map levels levels_of) ∙ ap length are ∙ tidy.levels_each

intervals-ordered : (tanks : List Tank) (levels : List Interval)
    → ((k : ℕ) → (slice_index_or levels k nowhere).lo ≤ℤ (slice_index_or levels k nowhere).hi)
    → (k : ℕ) (x : Interval) → slice_get (tank_intervals tanks levels) k ≡ Some x → x.lo ≤ℤ x.hi
intervals-ordered [] levels ordered k x at = absurd (cc)
intervals-ordered (tank ∷ tanks) [] ordered k x at = absurd (cc)
intervals-ordered (tank ∷ tanks) (level ∷ levels) ordered zero x at =
    let o = ordered 0 in
    let shifted : (level.lo +ℤ tank.bottom) ≤ℤ (level.hi +ℤ tank.bottom) = omega (arith, ints, o) in
    let same : record { lo = level.lo +ℤ tank.bottom; hi = level.hi +ℤ tank.bottom } ≡ x = cc in
    subst (λ (y : Interval). y.lo ≤ℤ y.hi) same shifted
intervals-ordered (tank ∷ tanks) (level ∷ levels) ordered (suc k) x at =
    intervals-ordered tanks levels (λ n. ordered (suc n)) k x at

-- the tanks of a grid of a tidy standing are in order
pub order-there : (project : Project) (standing : Standing) (grid : Grid) → IsTidy project standing
    → IsGridAt project standing grid → TanksInOrder grid
order-there project standing grid tidy is =
    subst (λ (xs : List Interval). (k : ℕ) (x : Interval) → slice_get xs k ≡ Some x → x.lo ≤ℤ x.hi)
    (sym is.tank_heads)
    (intervals-ordered project.tanks.list standing.levels (λ k. (tidy.ordered k).level))
