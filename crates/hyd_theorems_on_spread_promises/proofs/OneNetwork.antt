-- Without a spread both outermost grids of a period are the network's, and demands are the file's.
use Rattle.std.proofs.Common.{◌≡◌, ℕ, zero, suc, ◌+◌, ◌<◌, ◌≤◌, ℤ, Bool, true, List, [], ◌∷◌, length, refl, sym, ap}
use Rattle.std.proofs.Common.{subst, ◌∙◌, arith}
use Rattle.std.specs.Prelude.{◌==◌, ◌&&◌, Some, slice_get, unsigned_abs}
use Rattle.std.proofs.lemmas.Bool.{eqb-true}
use Rattle.std.proofs.Math.Nat.{lt_of_not-le}
use Rattle.std.proofs.lemmas.List.Elements.{recursion_from_All, All-from_recursion}
use Rattle.hyd_net.specs.Sound.{IsSound}
use Rattle.hyd_spec.specs.ProgramTypes.{Project, Junction}
use Rattle.hyd_spec.specs.DemandsHeadsAndPumpLifts.{demand_of}
use Rattle.hyd_spec.specs.Lists.{map_from}
use Rattle.hyd_spec_certificates.specs.declared.Side.{Side}
use Rattle.hyd_spec_certificates.specs.declared.Side.TheVariants.{Upper, Lower}
use Rattle.hyd_spec_certificates.specs.Decided.{links_at}
use Rattle.hyd_spec_certificates.specs.RecordAndStanding.{Standing}
use Rattle.hyd_spec_certificates.specs.Stops.{IsFirstDemand}
use Rattle.hyd_spec_certificates.specs.Valid.{IsGridAt, DemandsAreInRange, demand_limit}
use Rattle.hyd_spec_spread.specs.IntervalsOfData.{KnownJunction, known_junction, known_junctions}
use Rattle.hyd_spec_spread.specs.Spreads.{Spread, no_spread}
use Rattle.hyd_spec_spread_reports.specs.TextsOfSpreadReports.{says_nothing}
use Rattle.hyd_spec_spread_runs.specs.OutermostPairs.{Pair, grid_on}
use Rattle.hyd_spec_spread_runs.specs.RunsForSpreads.{ArePairAt, AreDemandsInRange, IsDemandInRange}
use Rattle.hyd_spec_spread_stops.specs.StopsOfSpreads.{IsFirstDemandOver}
use Rattle.hyd_lemmas.proofs.BooleanTests.{both-first, both-second}
use Rattle.hyd_lemmas.proofs.ListsOptionsAndResults.{no_items, same_item}
use Rattle.hyd_theorems_on_definitions.proofs.OneGrid.{one_grid}
use Rattle.hyd_theorems_on_open_spreads.proofs.OpenRunsAlone.{ranges-to, ranges-from}
use Rattle.hyd_theorems_on_spread.proofs.OwnNetwork.{grid-alone}
use Rattle.hyd_theorems_on_spread.proofs.ProductsInOrder.{products-least, products-greatest}
use Rattle.hyd_theorems_on_spread_runs.proofs.RunsAlone.{both}

-- ---- spreads that say nothing

none-and : {X : Type 0} (xs : List X) (rest : Bool) → ((length xs == 0) && rest) ≡ true → (xs ≡ []) × (rest ≡ true)
none-and xs rest e = (
  no_items xs (eqb-true (length xs) 0 (both-first (length xs == 0) rest e)),
  both-second (length xs == 0) rest e,
)

pub nothing_said : (spread : Spread) → says_nothing spread ≡ true → spread ≡ no_spread
nothing_said spread says =
    let demands = none-and spread.demands ((length spread.emitters == 0)
    && ((length spread.heads == 0) && (length spread.levels == 0))) says in
    let emitters = none-and spread.emitters ((length spread.heads == 0) && (length spread.levels == 0)) demands.1 in
    let heads = none-and spread.heads (length spread.levels == 0) emitters.1 in
    let levels = no_items spread.levels (eqb-true (length spread.levels) 0 heads.1) in
    λ i. record { demands = demands.0 i; emitters = emitters.0 i; heads = heads.0 i; levels = levels i }

-- ---- the pair of grids

module _ (project : Project) (sound : IsSound project) (standing : Standing) (pair : Pair)
    (are : ArePairAt project no_spread standing pair) where
  -- either grid is the network's
  pub own_grid : (side : Side) → IsGridAt project standing (grid_on side pair)
  own_grid side = grid-alone project sound side standing.time standing.levels standing.tanks (links_at project standing)
      (grid_on side pair) (are side)

  pub alike : pair.lower ≡ pair.upper
  alike = one_grid project standing pair.lower pair.upper (own_grid Lower) (own_grid Upper)

  pub one_twice : pair ≡ both pair.upper
  one_twice = λ i. record { upper = pair.upper; lower = alike i }

  pub one_on : (side : Side) → grid_on side pair ≡ pair.upper
  one_on Upper = refl
  one_on Lower = alike

-- ---- demands

-- an item of a list that f made of items and their numbers
made-at : {X Y : Type 0} (f : ℕ → X → Y) (from : ℕ) (xs : List X) (k : ℕ) (x : X) → slice_get xs k ≡ Some x
    → slice_get (map_from f from xs) k ≡ Some (f (from + k) x)
made-at f from [] k x e = absurd (cc)
made-at {X} {Y} f from (y ∷ xs) zero x e =
    let same : y ≡ x = cc in
    let first : from ≡ from + 0 = omega arith in
    ap (λ (z : X). Some (f from z)) same ∙ ap (λ (n : ℕ). Some (f n x)) first
made-at {X} {Y} f from (y ∷ xs) (suc k) x e =
    let next : suc from + k ≡ from + suc k = omega arith in
    made-at f (suc from) xs k x e ∙ ap (λ (n : ℕ). Some (f n x)) next

module _ (project : Project) (time : ℕ) where
  pub demands_alone : AreDemandsInRange project no_spread time → DemandsAreInRange project time
  demands_alone all = All-from_recursion _ _ (ranges-to project time 0 project.junctions.list all)

  pub demands_over : DemandsAreInRange project time → AreDemandsInRange project no_spread time
  demands_over all = ranges-from project time 0 project.junctions.list (recursion_from_All _ _ all)

  abbrev known : ℕ → Junction → KnownJunction
  known j junction = known_junction project no_spread time j junction

  in-range : (j : ℕ) (junction : Junction) → unsigned_abs (demand_of project time junction) ≤ demand_limit
      → IsDemandInRange (known j junction)
  in-range j junction within = record {
    least = subst (λ (z : ℤ). unsigned_abs z ≤ demand_limit) (sym (products-least (demand_of project time junction)))
        within;
    greatest = subst (λ (z : ℤ). unsigned_abs z ≤ demand_limit)
        (sym (products-greatest (demand_of project time junction))) within;
  }

  known-at : (j : ℕ) (junction : Junction) → slice_get project.junctions.list j ≡ Some junction
      → slice_get (known_junctions project no_spread time) j ≡ Some (known j junction)
  known-at j junction at =
      let n : 0 + j ≡ j = omega arith in
      made-at (known_junction project no_spread time) 0 project.junctions.list j junction at
      ∙ ap (λ (m : ℕ). Some (known m junction)) n

  -- both ends of a demand are the file's, so the first junction whose demand is out of range is the file's too
  pub first_demand : (j : ℕ) (demand : ℤ) → IsFirstDemandOver project no_spread time j demand
      → IsFirstDemand project time j demand
  first_demand j demand first = record {
    junction = first.junction;
    is_junction = first.is_junction;
    is_demand = first.is_demand;
    out_of_range = subst (λ (z : ℤ). demand_limit < unsigned_abs z) (sym first.is_demand) (lt_of_not-le out);
    first = λ earlier before less at. subst (λ (z : ℤ). unsigned_abs z ≤ demand_limit)
        (products-least (demand_of project time before))
        (first.first earlier (known earlier before) less (known-at earlier before at)).least;
  }
    where
      is-known : known j first.junction ≡ first.known
      is-known = same_item KnownJunction (known j first.junction) first.known
          (sym (known-at j first.junction first.is_junction) ∙ first.is_known)

      out : unsigned_abs (demand_of project time first.junction) ≤ demand_limit → ⊥
      out within = first.out_of_range (subst IsDemandInRange is-known (in-range j first.junction within))
