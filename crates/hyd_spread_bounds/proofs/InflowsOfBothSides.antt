-- The inflow box of a tank on both sides.
use Rattle.std.proofs.Common.{◌≡◌, ℕ, zero, suc, ◌+◌, ◌<◌, ℤ, ◌≤ℤ◌, refl, sym, ap, ◌∙◌, arith, List, [], ◌∷◌, ◌++◌}
use Rattle.std.proofs.Common.{length}
use Rattle.std.specs.Prelude.{map, Some, slice_get, slice_index_or}
use Rattle.std.proofs.lemmas.List.{length-append}
use Rattle.hyd_spec.specs.ProgramTypes.{Project}
use Rattle.hyd_spec.specs.NodeNumbers.{tank_node}
use Rattle.hyd_spec_certificates.specs.declared.Problem.TheVariants.{Pinned}
use Rattle.hyd_spec_certificates.specs.declared.Side.TheVariants.{Upper, Lower}
use Rattle.hyd_spec_certificates.specs.Interval.{Interval}
use Rattle.hyd_spec_certificates.specs.EnclosingFunctions.{low, high}
use Rattle.hyd_spec_certificates.specs.PeriodNetwork.{GridLink, all_heads}
use Rattle.hyd_spec_certificates.specs.NetOutflow.{net}
use Rattle.hyd_spec_certificates.specs.FlowIntervals.{inflow_box}
use Rattle.hyd_spec_certificates.specs.RecordAndStanding.{Record, Vectors, no_vectors, vector_of}
use Rattle.hyd_spec_certificates.specs.Decided.{inflow_of_tank, nowhere}
use Rattle.hyd_spec_spread_runs.specs.OutermostPairs.{Pair, spanned, spanning, with_reservoirs}
use Rattle.hyd_theorems_on_definitions.specs.SoundLawsAndGrids.{IsSteady}
use Rattle.hyd_lemmas.proofs.ListsOptionsAndResults.{numbered_at}
use Rattle.hyd_bounds.specs.VectorsInOrder.{AreInOrder, tank_width}
use Rattle.hyd_bounds.proofs.InflowsInOrder.{flows-in-order}
use Rattle.hyd_spread_bounds.specs.BothSides.{IsOrderedPair, all_below, all_above}
use Rattle.hyd_spread_bounds.proofs.HeadsOfBothSides.{below-is, above-is}

module _ (pair : Pair) (is : IsOrderedPair pair) where
  -- what flows out on the LOWER grid, by the heads of both
  pub lower-flows : (t node : ℕ) (u : List ℤ)
      → net high low (all_heads pair.lower (Pinned t) Lower u) node pair.lower.links
      ≡ net high low (all_below pair (Pinned t) u) node (spanned pair).links
  lower-flows t node u =
      ap (λ (hs : List ℤ). net high low hs node pair.lower.links) (sym (below-is pair is (Pinned t) u))
      ∙ ap (λ (ls : List GridLink). net high low (all_below pair (Pinned t) u) node ls) is.links

  pub upper-flows : (t node : ℕ) (u : List ℤ)
      → net low high (all_heads pair.upper (Pinned t) Upper u) node pair.upper.links
      ≡ net low high (all_above pair (Pinned t) u) node (spanned pair).links
  upper-flows t node u =
      ap (λ (hs : List ℤ). net low high hs node pair.upper.links) (sym (above-is pair is (Pinned t) u))

  -- at most as much flows out on the UPPER grid
  pub flows-ordered : IsSteady pair.upper → (t node : ℕ) (u v : List ℤ) → length u ≡ length v
      → length pair.lower.reservoirs ≡ length pair.upper.reservoirs
      → node ≡ length u + length pair.upper.reservoirs + t → t < length pair.upper.tanks
      → AreInOrder (tank_width (spanned pair) t) (all_below pair (Pinned t) u) (all_above pair (Pinned t) v)
      → net low high (all_above pair (Pinned t) v) node (spanned pair).links
      ≤ℤ net high low (all_below pair (Pinned t) u) node (spanned pair).links
  flows-ordered steady t node u v same alike at lt order =
      let a = length-append u pair.lower.reservoirs in
      let b = length-append v pair.upper.reservoirs in
      flows-in-order (spanned pair)
      (record {
        sound = record { links = steady.sound.links; emitters = steady.sound.emitters };
        demands = steady.demands;
      }) t node (length u + length pair.upper.reservoirs) (u ++ pair.lower.reservoirs) (v ++ pair.upper.reservoirs)
      (omega (arith, a, alike)) (omega (arith, b, same)) (omega (arith, at)) lt order

-- ---- records

mapped-item : (pair : Pair) (xs : List Vectors) (k : ℕ) → k < length xs
    → slice_get (map (with_reservoirs pair) xs) k ≡ Some (with_reservoirs pair (slice_index_or xs k no_vectors))
mapped-item pair [] k lt = absurd (omega arith)
mapped-item pair (x ∷ xs) zero lt = refl
mapped-item pair (x ∷ xs) (suc k) lt = mapped-item pair xs k (omega arith)

pub inflow-of-record : (project : Project) (pair : Pair) (row : Record) (k : ℕ) → k < length row.pinned
    → inflow_of_tank project (spanned pair) (spanning pair row) k
    ≡ inflow_box (spanned pair) k (tank_node project k) (vector_of row (Pinned k) Lower ++ pair.lower.reservoirs)
    (vector_of row (Pinned k) Upper ++ pair.upper.reservoirs)
inflow-of-record project pair row k lt =
    let each : ℕ → Vectors → Interval = λ n v. inflow_box (spanned pair) n (tank_node project n) v.lower v.upper in
    let v = with_reservoirs pair (slice_index_or row.pinned k no_vectors) in
    let n : 0 + k ≡ k = omega arith in
    numbered_at each 0 (map (with_reservoirs pair) row.pinned) k v nowhere (mapped-item pair row.pinned k lt)
    ∙ ap (λ (m : ℕ). each m v) n
