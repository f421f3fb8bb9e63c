-- Without a spread the records that are valid for it are the valid records of the network, and what is known at the
-- start is what is known without a spread.
use Rattle.std.proofs.Common.{◌≡◌, ℕ, suc, ◌+◌, ◌*◌, ◌≤◌, ℤ, pos, neg_ℤ}
use Rattle.std.proofs.Common.{refl, sym, ap, subst, ◌∙◌, arith, List, [], ◌∷◌}
use Rattle.std.specs.Prelude.{map, unsigned_abs, IsFalse, Some, slice_get, slice_index_or}
use Rattle.std.specs.List.{AllByRecursion}
use Rattle.std.proofs.lemmas.List.Elements.{recursion_from_All, All-from_recursion}
use Rattle.hyd_net.specs.Sound.{IsSound}
use Rattle.hyd_spec.specs.ProgramTypes.{Project, Junction, Tank}
use Rattle.hyd_spec.specs.Lists.{map_from}
use Rattle.hyd_spec.specs.Scale.{missed_flow_ticks}
use Rattle.hyd_spec.specs.NodeNumbers.{tank_node}
use Rattle.hyd_spec.specs.DemandsHeadsAndPumpLifts.{demand_of}
use Rattle.hyd_spec.specs.Tank.{walls_of, kept_volume, tank_state}
use Rattle.hyd_spec_certificates.specs.declared.Problem.{Problem}
use Rattle.hyd_spec_certificates.specs.declared.Problem.TheVariants.{Main, Pinned}
use Rattle.hyd_spec_certificates.specs.declared.Side.{Side}
use Rattle.hyd_spec_certificates.specs.declared.Side.TheVariants.{Upper, Lower}
use Rattle.hyd_spec_certificates.specs.Interval.{Interval, exactly, widened}
use Rattle.hyd_spec_certificates.specs.EnclosingFunctions.{low, high}
use Rattle.hyd_spec_certificates.specs.PeriodNetwork.{Grid, GridLink}
use Rattle.hyd_spec_certificates.specs.NetOutflow.{net, link_ends}
use Rattle.hyd_spec_certificates.specs.FlowIntervals.{flow_box, inflow_box}
use Rattle.hyd_spec_certificates.specs.RecordAndStanding.{Record, Standing, Vectors, initial_standing}
use Rattle.hyd_spec_certificates.specs.RecordAndStanding.{vector_of}
use Rattle.hyd_spec_certificates.specs.Certificate.{IsCertificate}
use Rattle.hyd_spec_certificates.specs.ThreeValuedLogic.{is_unknown}
use Rattle.hyd_spec_certificates.specs.Decided.{links_at, nowhere, control_truth}
use Rattle.hyd_spec_certificates.specs.Stocks.{state_of}
use Rattle.hyd_spec_certificates.specs.Valid.{IsValid, IsProblem, demand_limit}
use Rattle.hyd_spec_spread.specs.Spreads.{no_spread, level_interval}
use Rattle.hyd_spec_spread.specs.IntervalsOfData.{known_junction, known_levels, known_volumes}
use Rattle.hyd_spec_spread.specs.IntervalsOfData.{known_volume}
use Rattle.hyd_spec_spread_runs.specs.OutermostPairs.{Pair, grid_on, spanned, spanning, with_reservoirs}
use Rattle.hyd_spec_spread.specs.OutermostGrids.{IsOutermostGrid}
use Rattle.hyd_spec_spread_runs.specs.RunsForSpreads.{standing_within, StartIsDecided, IsDemandInRange}
use Rattle.hyd_spec_spread_runs.specs.RunsForSpreads.{IsValidOver}
use Rattle.hyd_theorems_on_histories.proofs.AgreementAtStart.{decided_at_start, shared-same}
use Rattle.hyd_theorems_on_histories.proofs.ListsByPlace.{numbered_from_start}
use Rattle.hyd_theorems_on_spread.proofs.OwnNetwork.{grid-alone, grid-outermost}
use Rattle.hyd_theorems_on_spread.proofs.ProductsInOrder.{products-least, products-greatest}
use Rattle.hyd_theorems_on_spread_runs.proofs.SpannedPairs.{AreBeside, upper_heads, lower_heads}
use Rattle.hyd_theorems_on_spread_runs.proofs.SameBoxes.{SameBoxes, turned, leads-alike}

-- The grid of the network on both sides.
abbrev pub both : Grid → Pair
both grid = record { upper = grid; lower = grid }

both-beside : (grid : Grid) → AreBeside (both grid)
both-beside grid = record { tanks = refl; links = refl }

-- ---- boxes

module _ (project : Project) (grid : Grid) (row : Record) where
  abbrev node : ℕ → ℕ
  node k = tank_node project k

  -- the inflow box of one tank
  box-same : (k : ℕ) (vectors : Vectors)
      → inflow_box (spanned (both grid)) k (node k) (with_reservoirs (both grid) vectors).lower
      (with_reservoirs (both grid) vectors).upper ≡ inflow_box grid k (node k) vectors.lower vectors.upper
  box-same k vectors =
      let below = lower_heads (both grid) (both-beside grid) (Pinned k) vectors.lower in
      let above = upper_heads (both grid) (both-beside grid) (Pinned k) vectors.upper in
      λ i. widened (pos (missed_flow_ticks * link_ends (node k) grid.links)) (record {
        lo = neg_ℤ (net high low (below i) (node k) grid.links);
        hi = neg_ℤ (net low high (above i) (node k) grid.links);
      })

  inflows-same : (from : ℕ) (pinned : List Vectors)
      → map_from (λ k (v : Vectors). inflow_box (spanned (both grid)) k (node k) v.lower v.upper) from
      (map (with_reservoirs (both grid)) pinned)
      ≡ map_from (λ k (v : Vectors). inflow_box grid k (node k) v.lower v.upper) from pinned
  inflows-same from [] = refl
  inflows-same from (v ∷ pinned) =
      let here = box-same from v in
      let rest = inflows-same (suc from) pinned in
      λ i. here i ∷ rest i

  pub boxes-alone : SameBoxes project (spanned (both grid)) grid (spanning (both grid) row) row
  boxes-alone =
      let below = lower_heads (both grid) (both-beside grid) Main row.main.lower in
      let above = upper_heads (both grid) (both-beside grid) Main row.main.upper in
      record {
        below = below;
        above = above;
        flows = λ i. map (λ (link : GridLink). flow_box link (below i) (above i)) grid.links;
        inflows = inflows-same 0 row.pinned;
        length_is = refl;
      }

-- ---- the start

all-mapped : (f : ℕ → Tank → Interval) (g : Tank → Interval) → ((k : ℕ) (tank : Tank) → f k tank ≡ g tank)
    → (from : ℕ) (tanks : List Tank) → map_from f from tanks ≡ map g tanks
all-mapped f g same from [] = refl
all-mapped f g same from (tank ∷ tanks) =
    let here = same from tank in
    let rest = all-mapped f g same (suc from) tanks in
    λ i. here i ∷ rest i

states-known : (level : ℕ → Interval) (from : ℕ) (tanks : List Tank)
    → ((k : ℕ) (tank : Tank) → slice_get tanks k ≡ Some tank → level (from + k) ≡ exactly tank.initial)
    → map_from (λ k tank. state_of tank (level k)) from tanks
    ≡ map Some (map (λ (tank : Tank). tank_state 1 tank tank.initial) tanks)
states-known level from [] is = refl
states-known level from (tank ∷ tanks) is =
    let n : from + 0 ≡ from = omega arith in
    let here : state_of tank (level from) ≡ Some (tank_state 1 tank tank.initial) =
    ap (state_of tank) (subst (λ (m : ℕ). level m ≡ exactly tank.initial) n (is 0 tank refl))
    ∙ shared-same (tank_state 1 tank tank.initial) in
    let rest = states-known level (suc from) tanks (λ k other at. let m : from + suc k ≡ suc from + k = omega arith in
    subst (λ (p : ℕ). level p ≡ exactly other.initial) m (is (suc k) other at)) in
    λ i. here i ∷ rest i

pub levels-alone : (project : Project) → known_levels project no_spread ≡ (initial_standing project).levels
levels-alone project = all-mapped (level_interval no_spread) (λ tank. exactly tank.initial) (λ k tank. refl) 0
    project.tanks.list

volumes-alone : (project : Project) → known_volumes project no_spread ≡ (initial_standing project).volumes
volumes-alone project = all-mapped (known_volume project no_spread)
    (λ tank. exactly (kept_volume (walls_of project tank) tank.initial)) (λ k tank. refl) 0 project.tanks.list

pub standing-alone : (project : Project) → standing_within project no_spread ≡ initial_standing project
standing-alone project = λ i. record (initial_standing project) {
  levels = levels-alone project i;
  volumes = volumes-alone project i;
}

pub start-alone : (project : Project) → StartIsDecided project no_spread
start-alone project = record {
  states = states-known (λ k. slice_index_or (known_levels project no_spread) k nowhere) 0 project.tanks.list
      (λ k tank at. let n : k ≡ 0 + k = omega arith in
      subst (λ (m : ℕ). slice_index_or (known_levels project no_spread) m nowhere ≡ exactly tank.initial) n
      (numbered_from_start Tank Interval (level_interval no_spread) project.tanks.list k tank nowhere at));
  controls = λ control tank above ticks there when. subst (λ (xs : List Interval). IsFalse (is_unknown
      (control_truth (slice_index_or xs tank nowhere) above ticks))) (sym (levels-alone project))
      (decided_at_start project control tank above ticks there when);
}

-- ---- records

abbrev InRange : Project → ℕ → Junction → Type 0
InRange project time junction = unsigned_abs (demand_of project time junction) ≤ demand_limit

ranges-to : (project : Project) (time from : ℕ) (js : List Junction)
    → AllByRecursion IsDemandInRange (map_from (known_junction project no_spread time) from js)
    → AllByRecursion (InRange project time) js
ranges-to project time from [] all = tt
ranges-to project time from (j ∷ js) all = (
  subst (λ (z : ℤ). unsigned_abs z ≤ demand_limit) (products-least (demand_of project time j)) all.0.least,
  ranges-to project time (suc from) js all.1,
)

ranges-from : (project : Project) (time from : ℕ) (js : List Junction) → AllByRecursion (InRange project time) js
    → AllByRecursion IsDemandInRange (map_from (known_junction project no_spread time) from js)
ranges-from project time from [] all = tt
ranges-from project time from (j ∷ js) all = (
  record {
    least = subst (λ (z : ℤ). unsigned_abs z ≤ demand_limit) (sym (products-least (demand_of project time j))) all.0;
    greatest = subst (λ (z : ℤ). unsigned_abs z ≤ demand_limit) (sym (products-greatest (demand_of project time j)))
        all.0;
  },
  ranges-from project time (suc from) js all.1,
)

module _ (project : Project) (sound : IsSound project) (standing : Standing) (grid : Grid) (row : Record)
    (next : Standing) where
  pub valid-alone : IsValidOver project no_spread standing (both grid) row next
      → IsValid project standing grid row next
  valid-alone valid = record {
    unfinished = valid.unfinished;
    number = valid.number;
    time = valid.time;
    demands = All-from_recursion _ _ (ranges-to project standing.time 0 project.junctions.list valid.demands);
    is_grid = grid-alone project sound Upper standing.time standing.levels standing.tanks (links_at project standing)
        grid (valid.are_pair Upper);
    certificates = record {
      pinned_each = valid.certificates.pinned_each;
      each = by-side;
    };
    leads_on = leads-alike project standing (spanned (both grid)) grid (spanning (both grid) row) row
        (boxes-alone project grid row) next valid.leads_on;
  }
    where
      by-side : (problem : Problem) (side : Side) → IsProblem project problem
          → IsCertificate grid problem side (vector_of row problem side)
      by-side problem Upper is = valid.certificates.each problem Upper is
      by-side problem Lower is = valid.certificates.each problem Lower is

  pub valid-over : IsValid project standing grid row next
      → IsValidOver project no_spread standing (both grid) row next
  valid-over valid = record {
    unfinished = valid.unfinished;
    number = valid.number;
    time = valid.time;
    demands = ranges-from project standing.time 0 project.junctions.list (recursion_from_All _ _ valid.demands);
    are_pair = pair-side;
    certificates = record {
      pinned_each = valid.certificates.pinned_each;
      each = by-side;
    };
    leads_on = leads-alike project standing grid (spanned (both grid)) row (spanning (both grid) row)
        (turned project (spanned (both grid)) grid (spanning (both grid) row) row (boxes-alone project grid row)) next
        valid.leads_on;
  }
    where
      pair-side : (side : Side) → IsOutermostGrid project no_spread side standing.time standing.levels standing.tanks
          (links_at project standing) (grid_on side (both grid))
      pair-side Upper = grid-outermost project sound Upper standing.time standing.levels standing.tanks
          (links_at project standing) grid valid.is_grid
      pair-side Lower = grid-outermost project sound Lower standing.time standing.levels standing.tanks
          (links_at project standing) grid valid.is_grid

      by-side : (problem : Problem) (side : Side) → IsProblem project problem
          → IsCertificate (grid_on side (both grid)) problem side (vector_of row problem side)
      by-side problem Upper is = valid.certificates.each problem Upper is
      by-side problem Lower is = valid.certificates.each problem Lower is
