-- With the heads of reservoirs behind those of junctions, a vector gives the heads of all nodes on its side.
use Rattle.std.proofs.Common.{◌≡◌, ℕ, zero, suc, ◌*◌, ◌<◌, ℤ, pos, neg_ℤ, ◌+ℤ◌}
use Rattle.std.proofs.Common.{◌-ℤ◌, refl, sym, ap, ◌∙◌, arith, List, [], ◌∷◌, ◌++◌, length}
use Rattle.std.proofs.Common.{append_assoc}
use Rattle.std.specs.Prelude.{map, Some, slice_get, slice_index_or}
use Rattle.hyd_spec.specs.ProgramTypes.{Project, LinkState}
use Rattle.hyd_spec.specs.declared.TankState.{TankState}
use Rattle.hyd_spec.specs.Lists.{map_from}
use Rattle.hyd_spec.specs.NodeNumbers.{tank_node}
use Rattle.hyd_spec_certificates.specs.declared.Problem.{Problem}
use Rattle.hyd_spec_certificates.specs.declared.Problem.TheVariants.{Pinned}
use Rattle.hyd_spec_certificates.specs.declared.Side.{Side}
use Rattle.hyd_spec_certificates.specs.declared.Side.TheVariants.{Upper, Lower}
use Rattle.hyd_spec_certificates.specs.Interval.{Interval}
use Rattle.hyd_spec_certificates.specs.PeriodNetwork.{all_heads, end_on, tank_side}
use Rattle.hyd_spec.specs.Scale.{missed_flow_ticks}
use Rattle.hyd_spec_certificates.specs.EnclosingFunctions.{low, high}
use Rattle.hyd_spec_certificates.specs.NetOutflow.{net, link_ends}
use Rattle.hyd_spec_certificates.specs.FlowIntervals.{inflow_box}
use Rattle.hyd_spec_certificates.specs.RecordAndStanding.{Record, Vectors, no_vectors, vector_of}
use Rattle.hyd_spec_certificates.specs.Decided.{inflow_of_tank, nowhere}
use Rattle.hyd_spec_spread.specs.Spreads.{Spread}
use Rattle.hyd_spec_spread.specs.OutermostGrids.{IsOutermostGrid}
use Rattle.hyd_spec_spread_runs.specs.OutermostPairs.{Pair, grid_on, spanned, spanning, with_reservoirs}
use Rattle.hyd_theorems_on_histories.proofs.ListsByPlace.{numbered_from_start}

-- Both grids have the same tanks and links.
pub record AreBeside (pair : Pair) : Type 0 where
  pub tanks : pair.lower.tanks ≡ pair.upper.tanks
  pub links : pair.lower.links ≡ pair.upper.links

pub beside : (project : Project) (spread : Spread) (time : ℕ) (levels : List Interval) (tanks : List TankState)
    (links : List LinkState) (pair : Pair)
    → ((side : Side) → IsOutermostGrid project spread side time levels tanks links (grid_on side pair))
    → AreBeside pair
beside project spread time levels tanks links pair are = record {
  tanks = (are Lower).tank_heads ∙ sym (are Upper).tank_heads;
  links = (are Lower).links_are ∙ sym (are Upper).links_are;
}

module _ (pair : Pair) (are : AreBeside pair) where
  pub upper_heads : (problem : Problem) (u : List ℤ)
      → all_heads (spanned pair) problem Upper (u ++ pair.upper.reservoirs) ≡ all_heads pair.upper problem Upper u
  upper_heads problem u = append_assoc u pair.upper.reservoirs
      (map_from (λ k tank. end_on (tank_side problem Upper k) tank) 0 pair.upper.tanks)

  pub lower_heads : (problem : Problem) (u : List ℤ)
      → all_heads (spanned pair) problem Lower (u ++ pair.lower.reservoirs) ≡ all_heads pair.lower problem Lower u
  lower_heads problem u =
      append_assoc u pair.lower.reservoirs
      (map_from (λ k tank. end_on (tank_side problem Lower k) tank) 0 pair.upper.tanks)
      ∙ ap (λ (xs : List Interval). u ++ (pair.lower.reservoirs
      ++ map_from (λ k tank. end_on (tank_side problem Lower k) tank) 0 xs)) (sym are.tanks)

-- ---- inflows

mapped-item : (pair : Pair) (xs : List Vectors) (k : ℕ) → k < length xs
    → slice_get (map (with_reservoirs pair) xs) k ≡ Some (with_reservoirs pair (slice_index_or xs k no_vectors))
mapped-item pair [] k lt = absurd (omega arith)
mapped-item pair (x ∷ xs) zero lt = refl
mapped-item pair (x ∷ xs) (suc k) lt = mapped-item pair xs k (omega arith)

-- the inflow box of a tank goes from what its LOWER vector says to what its UPPER vector says, each on its own grid
pub inflow_is : (project : Project) (pair : Pair) → AreBeside pair → (row : Record) (k : ℕ) → k < length row.pinned
    → inflow_of_tank project (spanned pair) (spanning pair row) k ≡ record {
      lo = (inflow_box pair.lower k (tank_node project k) (vector_of row (Pinned k) Lower)
          (vector_of row (Pinned k) Upper)).lo;
      hi = (inflow_box pair.upper k (tank_node project k) (vector_of row (Pinned k) Lower)
          (vector_of row (Pinned k) Upper)).hi;
    }
inflow_is project pair are row k lt =
    let below = lower_heads pair are (Pinned k) (vector_of row (Pinned k) Lower) in
    let above = upper_heads pair are (Pinned k) (vector_of row (Pinned k) Upper) in
    let node = tank_node project k in
    let links = sym are.links in
    numbered_from_start Vectors Interval
    (λ n v. inflow_box (spanned pair) n (tank_node project n) v.lower v.upper) (map (with_reservoirs pair) row.pinned) k
    (with_reservoirs pair (slice_index_or row.pinned k no_vectors)) nowhere (mapped-item pair row.pinned k lt)
    ∙ (λ i. record {
      lo = neg_ℤ (net high low (below i) node (links i)) -ℤ pos (missed_flow_ticks * link_ends node (links i));
      hi = neg_ℤ (net low high (above i) node pair.upper.links)
          +ℤ pos (missed_flow_ticks * link_ends node pair.upper.links);
    })
