-- The grid of a standing, its certificates and its demands in range are the same of alike parts.
use Rattle.std.proofs.Common.{◌≡◌, ℕ, zero, suc, ◌<◌, ◌≤◌, ℤ, Bool, true, false, MatchBool, List, [], ◌∷◌, length}
use Rattle.std.proofs.Common.{ap, subst, ◌∙◌, arith}
use Rattle.std.specs.Prelude.{slice_index_or, unsigned_abs}
use Rattle.std.specs.List.{AllZip}
use Rattle.hyd_spec.specs.ProgramTypes.{Project, Junction, LinkState}
use Rattle.hyd_spec.specs.DemandsHeadsAndPumpLifts.{demand_of, reservoir_head}
use Rattle.hyd_spec.specs.Outflow.{is_pressure_driven}
use Rattle.hyd_spec_certificates.specs.declared.Problem.{Problem}
use Rattle.hyd_spec_certificates.specs.declared.Problem.TheVariants.{Main, Pinned}
use Rattle.hyd_spec_certificates.specs.EnclosingFunctions.{DemandLaw, Fixed}
use Rattle.hyd_spec_certificates.specs.PeriodNetwork.{Grid, GridJunction, IsDriven, IsDemandLaw, IsJunctionOf}
use Rattle.hyd_spec_certificates.specs.PeriodNetwork.{grid_links}
use Rattle.hyd_spec_certificates.specs.RecordAndStanding.{Record, Standing}
use Rattle.hyd_spec_certificates.specs.Decided.{links_at}
use Rattle.hyd_spec_certificates.specs.Valid.{IsProblem, IsGridAt, demand_limit, DemandsAreInRange, AreCertificates}
use Rattle.hyd_theorems_on_rereading.proofs.PartsWithSpares.{Inner, with_inner, IsLikeJunction, AreAlike}
use Rattle.hyd_theorems_on_rereading.proofs.SameQuantities.{same_map, same_count, same_demand, same_reservoir}
use Rattle.hyd_theorems_on_rereading.proofs.SameLinkLaws.{same_links}
use Rattle.hyd_theorems_on_rereading.proofs.SameLinkStatesAtStart.{same_links_at}

zip_at : {X : Type 0} (R : X → X → Type 0) (xs ys : List X) → AllZip R xs ys → (k : ℕ) (d : X) → k < length ys
    → R (slice_index_or xs k d) (slice_index_or ys k d)
zip_at R [] [] all k d lt = absurd (omega arith)
zip_at R [] (y ∷ ys) all k d lt = absurd all
zip_at R (x ∷ xs) [] all k d lt = absurd all
zip_at R (x ∷ xs) (y ∷ ys) all zero d lt = all.0
zip_at R (x ∷ xs) (y ∷ ys) all (suc k) d lt = zip_at R xs ys all.1 k d (omega arith)

module _ (p : Project) (x y : Inner) (alike : AreAlike x y) where
  -- ---- junctions

  driven_on : (demand : ℤ) (law : DemandLaw) → IsDriven (with_inner p x) demand law
      → IsDriven (with_inner p y) demand law
  driven_on demand law is =
      record { capacity = is.capacity; origin = is.origin; made = is.made; is_law = is.is_law }

  law_by : (driven : Bool) (demand : ℤ) (law : DemandLaw)
      → MatchBool driven (IsDriven (with_inner p x) demand law) (law ≡ Fixed demand)
      → MatchBool driven (IsDriven (with_inner p y) demand law) (law ≡ Fixed demand)
  law_by true demand law is = driven_on demand law is
  law_by false demand law is = is

  law_on : (demand : ℤ) (law : DemandLaw) → IsDemandLaw (with_inner p x) demand law
      → IsDemandLaw (with_inner p y) demand law
  law_on demand law is = law_by (is_pressure_driven (with_inner p x) demand) demand law is

  junction_on : (time : ℕ) (a b : Junction) (here : GridJunction) → IsLikeJunction a b
      → IsJunctionOf (with_inner p x) time a here → IsJunctionOf (with_inner p y) time b here
  junction_on time a b here like is = record {
    elevation = is.elevation ∙ like.elevation;
    demand = subst (λ (d : ℤ). IsDemandLaw (with_inner p y) d here.demand) (same_demand p x y alike time a b like)
        (law_on (demand_of (with_inner p x) time a) here.demand is.demand);
    emitter = is.emitter ∙ like.emitter;
  }

  junctions_on : (time : ℕ) (xs ys : List Junction) (here : List GridJunction) → AllZip IsLikeJunction xs ys
      → AllZip (IsJunctionOf (with_inner p x) time) xs here → AllZip (IsJunctionOf (with_inner p y) time) ys here
  junctions_on time [] [] [] all is = tt
  junctions_on time [] [] (h ∷ hs) all is = absurd is
  junctions_on time [] (b ∷ ys) here all is = absurd all
  junctions_on time (a ∷ xs) [] here all is = absurd all
  junctions_on time (a ∷ xs) (b ∷ ys) [] all is = absurd is
  junctions_on time (a ∷ xs) (b ∷ ys) (h ∷ hs) all is =
      (junction_on time a b h all.0 is.0, junctions_on time xs ys hs all.1 is.1)

  pub demands_on : (time : ℕ) → DemandsAreInRange (with_inner p x) time → DemandsAreInRange (with_inner p y) time
  demands_on time all = λ k d lt.
      let count : length x.junctions.list ≡ length y.junctions.list = same_count p x y alike in
      let like = zip_at IsLikeJunction x.junctions.list y.junctions.list alike.junctions k d lt in
      subst (λ (z : ℤ). unsigned_abs z ≤ demand_limit) (same_demand p x y alike time _ _ like)
      (all k d (omega (arith, count, lt)))

  -- ---- the grid

  pub grid_on : (standing : Standing) (grid : Grid) → IsGridAt (with_inner p x) standing grid
      → IsGridAt (with_inner p y) standing grid
  grid_on standing grid is = record {
    junctions = junctions_on standing.time x.junctions.list y.junctions.list grid.junctions alike.junctions
        is.junctions;
    reservoirs = is.reservoirs
        ∙ same_map (reservoir_head (with_inner p x) standing.time) (reservoir_head (with_inner p y) standing.time)
        (same_reservoir p x y alike standing.time) p.reservoirs.list;
    tank_heads = is.tank_heads;
    links_are = is.links_are
        ∙ (same_links p x y alike standing.tanks p.links.list (links_at (with_inner p x) standing)
        ∙ ap (λ (states : List LinkState). grid_links (with_inner p y) standing.tanks p.links.list states)
        (same_links_at p x y alike standing));
  }

  problem_back : (problem : Problem) → IsProblem (with_inner p y) problem → IsProblem (with_inner p x) problem
  problem_back Main is = is
  problem_back (Pinned tank) is = is

  pub certificates_on : (grid : Grid) (row : Record) → AreCertificates (with_inner p x) grid row
      → AreCertificates (with_inner p y) grid row
  certificates_on grid row are = record {
    pinned_each = are.pinned_each;
    each = λ problem side is. are.each problem side (problem_back problem is);
  }
