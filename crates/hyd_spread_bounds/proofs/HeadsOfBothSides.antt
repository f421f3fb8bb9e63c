-- Heads of all nodes on both sides of an ordered pair: those of the net of the side, and in order.
use Rattle.std.proofs.Common.{◌≡◌, ℕ, zero, suc, ◌<◌, ℤ, pos, ◌≤ℤ◌, sym, ap, subst, ◌∙◌, arith}
use Rattle.std.proofs.Common.{List, [], ◌∷◌, ◌++◌, length, append_assoc}
use Rattle.std.specs.Prelude.{slice_index_or}
use Rattle.std.specs.List.{AllZip}
use Rattle.std.proofs.lemmas.Int.{ints}
use Rattle.std.proofs.lemmas.List.{length-map}
use Rattle.std.proofs.lemmas.Option.{get_or_from_slice_get}
use Rattle.std.proofs.lemmas.Slice.Zip.{AllZip-long}
use Rattle.hyd_num.proofs.Integers.{one_times}
use Rattle.hyd_spec.specs.Assignment.{head_at}
use Rattle.hyd_spec.specs.Lists.{map_from}
use Rattle.hyd_spec_certificates.specs.declared.Problem.{Problem}
use Rattle.hyd_spec_certificates.specs.declared.Problem.TheVariants.{Main, Pinned}
use Rattle.hyd_spec_certificates.specs.declared.Side.TheVariants.{Upper, Lower}
use Rattle.hyd_spec_certificates.specs.SpansAsIntervals.{levels_of}
use Rattle.hyd_spec_certificates.specs.Interval.{Interval, exactly, width}
use Rattle.hyd_spec_certificates.specs.PeriodNetwork.{Grid, all_heads, fixed_heads, end_on, tank_side}
use Rattle.hyd_spec_certificates.specs.Certificate.{IsCertificate}
use Rattle.hyd_spec_spread_runs.specs.OutermostPairs.{Pair, spanned}
use Rattle.hyd_theorems_on_definitions.specs.SoundLawsAndGrids.{IsSteady, TanksInOrder}
use Rattle.hyd_theorems_on_definitions.proofs.HeadLists.{fixed-in-order, ends-in-order}
use Rattle.hyd_theorems_on_definitions.proofs.TwoSides.{heads_below_plus}
use Rattle.hyd_lemmas.proofs.ListsOptionsAndResults.{item_there}
use Rattle.hyd_period_network.specs.NetView.{NetView}
use Rattle.hyd_period_network.specs.NetAsPeriodNetwork.{grid_of, node_count}
use Rattle.hyd_vector_check.specs.ComparisonPrinciple.{FixedWithin}
use Rattle.hyd_theorems_on_spread.specs.GridsBeyondOthers.{TakesNoMore, IsAbove}
use Rattle.hyd_theorems_on_spread.proofs.CertificatesInward.{goes-inward}
use Rattle.hyd_bounds.specs.VectorsInOrder.{AreInOrder, tank_width}
use Rattle.hyd_bounds.proofs.PinnedInOrder.{pinned-fixed}
use Rattle.hyd_spread_bounds.specs.BothSides.{pair_of, IsOrderedPair, StandsNoLower, all_below, all_above}

-- a list of heads before others
behind : (u ps rs : List ℤ) → ((m : ℕ) → head_at ps m ≤ℤ head_at rs m) → (m : ℕ)
    → head_at (u ++ ps) m ≤ℤ head_at (u ++ rs) m
behind [] ps rs le m = le m
behind (h ∷ u) ps rs le zero = omega (arith, ints)
behind (h ∷ u) ps rs le (suc m) = behind u ps rs le m

-- lists of heads before one
before : (uppers lowers rest : List ℤ) → AllZip StandsNoLower uppers lowers → (m : ℕ)
    → head_at (lowers ++ rest) m ≤ℤ head_at (uppers ++ rest) m
before [] [] rest all m = omega (arith, ints)
before [] (l ∷ lowers) rest all m = absurd all
before (u ∷ uppers) [] rest all m = absurd all
before (u ∷ uppers) (l ∷ lowers) rest all zero = all.0
before (u ∷ uppers) (l ∷ lowers) rest all (suc m) = before uppers lowers rest all.1 m

width-there : (grid : Grid) (k : ℕ) → k < length grid.tanks → TanksInOrder grid → pos 0 ≤ℤ tank_width grid k
width-there grid k lt order =
    let at = item_there grid.tanks k lt in
    let le = order k at.0 at.1 in
    let w = ap width (get_or_from_slice_get grid.tanks k at.0 (exactly (pos 0)) at.1) in
    omega (arith, ints, le, w)

-- the fixed heads with all tanks alike
main-fixed : (grid : Grid) → TanksInOrder grid → FixedWithin grid Main Main (pos 0)
main-fixed grid order m =
    let f = fixed-in-order grid.reservoirs (map_from (λ (i : ℕ) (x : Interval). x.lo) 0 grid.tanks)
    (map_from (λ (i : ℕ) (x : Interval). x.hi) 0 grid.tanks) (ends-in-order 0 grid.tanks order) m in
    omega (arith, ints, f)

module _ (pair : Pair) (is : IsOrderedPair pair) where
  -- ---- each side on its own grid

  pub below-is : (problem : Problem) (u : List ℤ) → all_below pair problem u ≡ all_heads pair.lower problem Lower u
  below-is problem u =
      append_assoc u pair.lower.reservoirs
      (map_from (λ k tank. end_on (tank_side problem Lower k) tank) 0 pair.upper.tanks)
      ∙ ap (λ (xs : List Interval). u ++ (pair.lower.reservoirs
      ++ map_from (λ k tank. end_on (tank_side problem Lower k) tank) 0 xs)) (sym is.tanks)

  pub above-is : (problem : Problem) (u : List ℤ) → all_above pair problem u ≡ all_heads pair.upper problem Upper u
  above-is problem u = append_assoc u pair.upper.reservoirs
      (map_from (λ k tank. end_on (tank_side problem Upper k) tank) 0 pair.upper.tanks)

  -- ---- in order

  fixed-above : (problem : Problem) (m : ℕ)
      → head_at (fixed_heads pair.lower problem Upper) m ≤ℤ head_at (fixed_heads pair.upper problem Upper) m
  fixed-above problem m =
      let ends : List Interval → List ℤ = λ xs. map_from (λ k tank. end_on (tank_side problem Upper k) tank) 0 xs in
      subst (λ (xs : List Interval). head_at (pair.lower.reservoirs ++ ends xs) m
      ≤ℤ head_at (fixed_heads pair.upper problem Upper) m) (sym is.tanks)
      (before pair.upper.reservoirs pair.lower.reservoirs (ends pair.upper.tanks) is.reservoirs m)

  is-above : (problem : Problem) → IsAbove problem pair.upper pair.lower
  is-above problem = record { junctions = is.junctions; links = is.links; fixed = fixed-above problem }

  in-order : IsSteady pair.lower → (problem : Problem) (t : ℤ) → pos 0 ≤ℤ t → FixedWithin pair.lower problem problem t
      → (low high : List ℤ) → IsCertificate pair.lower problem Lower low
      → IsCertificate pair.upper problem Upper high
      → AreInOrder t (all_below pair problem low) (all_above pair problem high)
  in-order steady problem t room fixed low high under over m =
      let inward = goes-inward Upper problem pair.upper pair.lower high steady.sound.links (is-above problem) over in
      let h = heads_below_plus pair.lower steady problem problem high low t inward under room
      (λ k. let f = fixed k in omega (
        arith,
        ints,
        f,
        one_times (head_at (fixed_heads pair.lower problem Upper) k),
      )) m in
      let up = behind high (fixed_heads pair.lower problem Upper) (fixed_heads pair.upper problem Upper)
      (fixed-above problem) m in
      let a = ap (λ (hs : List ℤ). head_at hs m) (below-is problem low) in
      let b = ap (λ (hs : List ℤ). head_at hs m) (above-is problem high) in
      omega (arith, ints, h, up, a, b)

  pub main-order : IsSteady pair.lower → TanksInOrder pair.lower → (low high : List ℤ)
      → IsCertificate pair.lower Main Lower low → IsCertificate pair.upper Main Upper high
      → AreInOrder (pos 0) (all_below pair Main low) (all_above pair Main high)
  main-order steady order low high under over =
      in-order steady Main (pos 0) (omega (arith, ints)) (main-fixed pair.lower order) low high under over

  pub pinned-order : IsSteady pair.lower → TanksInOrder pair.lower → (tank : ℕ) → tank < length pair.lower.tanks
      → (low high : List ℤ) → IsCertificate pair.lower (Pinned tank) Lower low
      → IsCertificate pair.upper (Pinned tank) Upper high
      → AreInOrder (tank_width (spanned pair) tank) (all_below pair (Pinned tank) low)
      (all_above pair (Pinned tank) high)
  pinned-order steady order tank lt low high under over =
      subst (λ (xs : List Interval). AreInOrder (width (slice_index_or xs tank (exactly (pos 0))))
      (all_below pair (Pinned tank) low) (all_above pair (Pinned tank) high)) is.tanks
      (in-order steady (Pinned tank) (tank_width pair.lower tank) (width-there pair.lower tank lt order)
      (pinned-fixed pair.lower tank lt order) low high under over)

-- ---- nets of both sides

module _ (upper lower : NetView) (is : IsOrderedPair (pair_of upper lower)) where
  pub junctions-alike : length (grid_of lower).junctions ≡ length (grid_of upper).junctions
  junctions-alike = AllZip-long TakesNoMore (grid_of upper).junctions (grid_of lower).junctions is.junctions

  pub reservoirs-alike : length lower.reservoirs ≡ length upper.reservoirs
  reservoirs-alike = AllZip-long StandsNoLower upper.reservoirs lower.reservoirs is.reservoirs

  pub tanks-alike : length lower.tanks ≡ length upper.tanks
  tanks-alike =
      let a = length-map lower.tanks levels_of in
      let b = length-map upper.tanks levels_of in
      let e = ap (λ (xs : List Interval). length xs) is.tanks in
      omega (arith, a, b, e)

  -- both have as many nodes
  pub nodes-alike : length (grid_of upper).junctions ≡ length upper.junctions
      → length (grid_of lower).junctions ≡ length lower.junctions → node_count lower ≡ node_count upper
  nodes-alike above below =
      let j = junctions-alike in
      let r = reservoirs-alike in
      let t = tanks-alike in
      omega (arith, above, below, j, r, t)
