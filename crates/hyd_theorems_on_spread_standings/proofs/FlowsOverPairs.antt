-- What flows into tanks by certificates on both outermost grids.
use Rattle.std.proofs.Common.{◌≡◌, ℕ, zero, suc, ◌<◌, ◌≤ℤ◌, refl, ap, subst, ◌∙◌, arith, List, [], ◌∷◌, length}
use Rattle.std.specs.Prelude.{Some, slice_get, slice_index_or}
use Rattle.std.proofs.lemmas.Int.{ints}
use Rattle.std.proofs.lemmas.List.{length-map}
use Rattle.std.proofs.lemmas.Option.{slice_get_within}
use Rattle.std.proofs.lemmas.Slice.Zip.{AllZip-long}
use Rattle.hyd_spec.specs.ProgramTypes.{Project, Tank}
use Rattle.hyd_spec.specs.NodeNumbers.{junction_count, reservoir_count, tank_count, tank_node}
use Rattle.hyd_spec_certificates.specs.declared.Problem.TheVariants.{Pinned}
use Rattle.hyd_spec_certificates.specs.declared.Side.{Side}
use Rattle.hyd_spec_certificates.specs.declared.Side.TheVariants.{Upper, Lower}
use Rattle.hyd_spec_certificates.specs.Interval.{Interval, shifted}
use Rattle.hyd_spec_certificates.specs.PeriodNetwork.{end_on, tank_intervals}
use Rattle.hyd_spec_certificates.specs.RecordAndStanding.{Record, Standing, vector_of}
use Rattle.hyd_spec_certificates.specs.Decided.{nowhere}
use Rattle.hyd_spec_spread.specs.Spreads.{Spread, IsSpread}
use Rattle.hyd_spec_spread.specs.IntervalsOfData.{known_junction, known_junctions, known_head, known_heads}
use Rattle.hyd_spec_spread.specs.OutermostGrids.{IsOutermostJunction}
use Rattle.hyd_spec_spread_runs.specs.OutermostPairs.{Pair, grid_on, spanned, spanning}
use Rattle.hyd_spec_spread_runs.specs.RunsForSpreads.{ArePairAt, AreCertificatesOver}
use Rattle.hyd_lemmas.proofs.ListsOptionsAndResults.{as_long, same_item}
use Rattle.hyd_theorems_on_definitions.specs.SoundLawsAndGrids.{IsSteady, TanksInOrder}
use Rattle.hyd_theorems_on_nesting.specs.Nesting.{IsOrdered}
use Rattle.hyd_theorems_on_nesting.specs.StandingsOfRuns.{IsTidy}
use Rattle.hyd_theorems_on_open_standings.specs.FirmStandings.{AreFlowsInOrder}
use Rattle.hyd_theorems_on_spread.specs.GridsBeyondOthers.{TakesNoMore}
use Rattle.hyd_spread_bounds.specs.BothSides.{IsOrderedPair, StandsNoLower}
use Rattle.hyd_spread_bounds.proofs.OrderedPairs.{ordered-pair}
use Rattle.hyd_spread_bounds.proofs.HeadsOfBothSides.{pinned-order}
use Rattle.hyd_spread_bounds.proofs.InflowsOfBothSides.{flows-ordered, inflow-of-record}

-- ---- tanks

tanks-long : (tanks : List Tank) (levels : List Interval) → length levels ≡ length tanks
    → length (tank_intervals tanks levels) ≡ length tanks
tanks-long [] levels e = refl
tanks-long (t ∷ tanks) [] e = absurd (omega (arith, e))
tanks-long (t ∷ tanks) (l ∷ levels) e = ap suc (tanks-long tanks levels (omega (arith, e)))

heads-ordered : (tanks : List Tank) (levels : List Interval)
    → ((k : ℕ) → IsOrdered (slice_index_or levels k nowhere)) → (k : ℕ) (x : Interval)
    → slice_get (tank_intervals tanks levels) k ≡ Some x → x.lo ≤ℤ x.hi
heads-ordered [] levels each k x at = absurd (cc)
heads-ordered (t ∷ tanks) [] each k x at = absurd (cc)
heads-ordered (t ∷ tanks) (l ∷ levels) each zero x at =
    let o : l.lo ≤ℤ l.hi = each 0 in
    subst (λ (y : Interval). y.lo ≤ℤ y.hi) (same_item Interval (shifted t.bottom l) x at) (omega (arith, ints, o))
heads-ordered (t ∷ tanks) (l ∷ levels) each (suc k) x at =
    heads-ordered tanks levels (λ n. each (suc n)) k x at

-- ---- both grids of a period

module _ (project : Project) (spread : Spread) (is : IsSpread project spread) (standing : Standing)
    (tidy : IsTidy project standing) (pair : Pair) (are : ArePairAt project spread standing pair) where
  ordered : IsOrderedPair pair
  ordered = ordered-pair project spread is standing pair are

  tanks-in-order : TanksInOrder pair.lower
  tanks-in-order k x at = heads-ordered project.tanks.list standing.levels (λ n. (tidy.ordered n).level) k x
      (subst (λ (xs : List Interval). slice_get xs k ≡ Some x) (are Lower).tank_heads at)

  tanks-each : length pair.lower.tanks ≡ tank_count project
  tanks-each = ap length (are Lower).tank_heads ∙ tanks-long project.tanks.list standing.levels tidy.levels_each

  junctions-each : length pair.lower.junctions ≡ junction_count project
  junctions-each =
      let known = AllZip-long (IsOutermostJunction project Lower) (known_junctions project spread standing.time)
      pair.lower.junctions (are Lower).junctions in
      known ∙ as_long (known_junction project spread standing.time) 0 project.junctions.list

  reservoirs-each : length pair.upper.reservoirs ≡ reservoir_count project
  reservoirs-each = ap length (are Upper).reservoirs
      ∙ length-map (known_heads project spread standing.time) (end_on Upper)
      ∙ as_long (known_head project spread standing.time) 0 project.reservoirs.list

  -- ---- certificates on them

  module _ (steady : (side : Side) → IsSteady (grid_on side pair)) (row : Record)
      (certificates : AreCertificatesOver project pair row) where
    pub flows-over : AreFlowsInOrder project (spanned pair) (spanning pair row)
    flows-over k tank at =
        let inside : k < tank_count project = slice_get_within project.tanks.list k tank at in
        let low = vector_of row (Pinned k) Lower in
        let high = vector_of row (Pinned k) Upper in
        let below = certificates.each (Pinned k) Lower inside in
        let above = certificates.each (Pinned k) Upper inside in
        let one-below = below.one_each in
        let one-above = above.one_each in
        let tanks = tanks-each in
        let other-tanks = ap length ordered.tanks in
        let junctions = junctions-each in
        let other-junctions = AllZip-long TakesNoMore pair.upper.junctions pair.lower.junctions ordered.junctions in
        let reservoirs = reservoirs-each in
        let other-reservoirs = AllZip-long StandsNoLower pair.upper.reservoirs pair.lower.reservoirs
        ordered.reservoirs in
        let heads = pinned-order pair ordered (steady Lower) tanks-in-order k (omega (arith, inside, tanks)) low high
        below above in
        let flows = flows-ordered pair ordered (steady Upper) k (tank_node project k) low high
        (omega (arith, one-below, one-above, other-junctions)) other-reservoirs
        (omega (arith, one-below, junctions, reservoirs)) (omega (arith, inside, tanks, other-tanks)) heads in
        let pinned = certificates.pinned_each in
        rw (inflow-of-record project pair row k (omega (arith, inside, pinned))) (omega (arith, ints, flows))
