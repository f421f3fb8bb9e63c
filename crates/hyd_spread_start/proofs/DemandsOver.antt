-- Where both ends of each demand are in range none is out of it; and the tanks of a started period are in order.
use Rattle.std.proofs.Common.{◌≡◌, ℕ, zero, suc, ◌+ℤ◌, ◌≤ℤ◌, ℤ, sym, subst, arith, List, [], ◌∷◌}
use Rattle.std.specs.Prelude.{Some, slice_get, slice_index_or}
use Rattle.std.specs.List.{AllByRecursion}
use Rattle.std.proofs.lemmas.Int.{ints}
use Rattle.hyd_spec.specs.ProgramTypes.{Project, Tank}
use Rattle.hyd_spec_certificates.specs.declared.Side.{Side}
use Rattle.hyd_spec_certificates.specs.Interval.{Interval}
use Rattle.hyd_spec_certificates.specs.PeriodNetwork.{tank_intervals}
use Rattle.hyd_spec_certificates.specs.RecordAndStanding.{Standing}
use Rattle.hyd_spec_certificates.specs.Decided.{nowhere}
use Rattle.hyd_spec_spread.specs.Spreads.{Spread}
use Rattle.hyd_spec_spread.specs.IntervalsOfData.{known_junctions}
use Rattle.hyd_spec_spread_runs.specs.OutermostPairs.{Pair, grid_on}
use Rattle.hyd_spec_spread_runs.specs.RunsForSpreads.{IsDemandInRange, AreDemandsInRange, ArePairAt}
use Rattle.hyd_spec_spread_stops.specs.StopsOfSpreads.{IsFirstDemandOver}
use Rattle.hyd_theorems_on_definitions.specs.SoundLawsAndGrids.{TanksInOrder}
use Rattle.hyd_theorems_on_nesting.specs.StandingsOfRuns.{IsTidy}
use Rattle.hyd_lemmas.proofs.ListsOptionsAndResults.{same_item}

at-each : {X : Type 0} (P : X → Type 0) (xs : List X) → AllByRecursion P xs → (k : ℕ) (x : X)
    → slice_get xs k ≡ Some x → P x
at-each P [] all k x at = absurd (cc)
at-each {X} P (y ∷ xs) all zero x at = subst P (same_item X y x at) all.0
at-each P (y ∷ xs) all (suc k) x at = at-each P xs all.1 k x at

pub no-demand-over : (project : Project) (spread : Spread) (time j : ℕ) (demand : ℤ)
    → AreDemandsInRange project spread time → IsFirstDemandOver project spread time j demand → ⊥
no-demand-over project spread time j demand all first =
    first.out_of_range (at-each IsDemandInRange (known_junctions project spread time) all j first.known first.is_known)

-- ---- tanks in order

intervals-ordered : (tanks : List Tank) (levels : List Interval)
    → ((k : ℕ) → (slice_index_or levels k nowhere).lo ≤ℤ (slice_index_or levels k nowhere).hi)
    → (k : ℕ) (x : Interval) → slice_get (tank_intervals tanks levels) k ≡ Some x → x.lo ≤ℤ x.hi
intervals-ordered [] levels ordered k x at = absurd (cc)
intervals-ordered (tank ∷ tanks) [] ordered k x at = absurd (cc)
intervals-ordered (tank ∷ tanks) (level ∷ levels) ordered zero x at =
    let o = ordered 0 in
    let shifted : (level.lo +ℤ tank.bottom) ≤ℤ (level.hi +ℤ tank.bottom) = omega (arith, ints, o) in
    let same : record { lo = level.lo +ℤ tank.bottom; hi = level.hi +ℤ tank.bottom } ≡ x = cc in
    subst (λ (y : Interval). y.lo ≤ℤ y.hi) same shifted
intervals-ordered (tank ∷ tanks) (level ∷ levels) ordered (suc k) x at =
    intervals-ordered tanks levels (λ n. ordered (suc n)) k x at

-- the tanks of both grids of a tidy standing are in order
pub pair-order : (project : Project) (spread : Spread) (standing : Standing) (pair : Pair) → IsTidy project standing
    → ArePairAt project spread standing pair → (side : Side) → TanksInOrder (grid_on side pair)
pair-order project spread standing pair tidy are side =
    subst (λ (xs : List Interval). (k : ℕ) (x : Interval) → slice_get xs k ≡ Some x → x.lo ≤ℤ x.hi)
    (sym (are side).tank_heads)
    (intervals-ordered project.tanks.list standing.levels (λ k. (tidy.ordered k).level))
