-- Demands of the outermost networks.
use Rattle.std.proofs.Common.{◌≡◌, ℕ, ◌+◌, ◌<◌, ℤ, List, length, map, Some, slice_get, slice_index_or}
use Rattle.std.proofs.Common.{refl, sym, ap, subst, ◌∙◌, inl, inr, arith}
use Rattle.std.proofs.lemmas.Bool.{cases_eq}
use Rattle.std.proofs.lemmas.Int.{ints}
use Rattle.hyd_spec.specs.ProgramTypes.{Project, Junction}
use Rattle.hyd_spec.specs.DemandsHeadsAndPumpLifts.{demand_of}
use Rattle.hyd_demands_and_reservoir_heads.specs.DemandsAndHeadsByNumber.{junction_demand, IsInRange}
use Rattle.hyd_spec_certificates.specs.Interval.{Interval}
use Rattle.hyd_spec_spread.specs.Spreads.{Factors, Spread, IsAroundOne, demand_factors}
use Rattle.hyd_spec_spread.specs.IntervalsOfData.{KnownJunction, products, known_junction, known_junctions}
use Rattle.hyd_spec_spread_runs.specs.RunsForSpreads.{IsDemandInRange, AreDemandsInRange}
use Rattle.hyd_theorems_on_spread.proofs.ProductsInOrder.{products-hold}
use Rattle.hyd_spec_spread_rows.specs.declared.Ends.{Ends}
use Rattle.hyd_spec_spread_rows.specs.TextsOfSpreads.{factors_from}
use Rattle.hyd_spec_spread_rows.specs.RangesOfEnds.{AreFactors}
use Rattle.hyd_spec_spread_stops.specs.StopsOfSpreads.{IsFirstDemandOver}
use Rattle.hyd_spread_networks.proofs.ListsByNumber.{got, within, got_numbered, zipped_numbered, all_numbered, read_off}

-- 1 is among factors in range
pub around_one : (ends : Ends) → AreFactors ends → IsAroundOne (factors_from ends)
around_one ends range =
    let a = range.least.at_least in
    let b = range.least.at_most in
    let c = range.greatest.at_least in
    record { least = omega (arith, ints, a, b); greatest = omega (arith, ints, c) }

-- a demand whose ends are in range is so itself
pub own_in_range : (factors : Factors) → IsAroundOne factors → (z : ℤ) → IsInRange (products factors z).lo
    → IsInRange (products factors z).hi → IsInRange z
own_in_range factors one z low high =
    let holds = products-hold factors one z in
    let l = holds.low in
    let h = holds.high in
    omega (arith, ints, l, h, low, high)

pub demand_got : (project : Project) (time k : ℕ) (junction : Junction)
    → slice_get project.junctions.list k ≡ Some junction
    → junction_demand project time k ≡ demand_of project time junction
demand_got project time k junction at = rw at refl

-- what a spread leaves of a junction's demand
abbrev pub left_of : Project → Spread → ℕ → ℕ → Interval
left_of project spread time k = products (demand_factors spread k) (junction_demand project time k)

pub ends_left : (project : Project) (spread : Spread) (time k : ℕ) (factors : Factors) (ends : Interval)
    → factors ≡ demand_factors spread k → ends ≡ products factors (junction_demand project time k)
    → ends ≡ left_of project spread time k
ends_left project spread time k factors ends same are =
    are ∙ ap (λ (x : Factors). products x (junction_demand project time k)) same

-- an end is written, and in range
pub record IsEnd (f : Interval → ℤ) (project : Project) (spread : Spread) (time k : ℕ) (z : ℤ) : Type 0 where
  pub value : z ≡ f (left_of project spread time k)
  pub range : IsInRange z

pub ends_are : (f : Interval → ℤ) (project : Project) (spread : Spread) (time : ℕ) (zs : List ℤ)
    → length zs ≡ length project.junctions.list
    → ((k : ℕ) (d : ℤ) → k < length project.junctions.list → IsEnd f project spread time k (slice_index_or zs k d))
    → zs ≡ map (λ (known : KnownJunction). f known.demand) (known_junctions project spread time)
ends_are f project spread time zs long all =
    read_off (λ (known : KnownJunction). f known.demand) (known_junctions project spread time) zs
    (zipped_numbered (known_junction project spread time) (λ (known : KnownJunction) (z : ℤ). z ≡ f known.demand)
    project.junctions.list zs long (λ k junction z at.
    let here = all k z (within project.junctions.list k junction at) in
    here.value ∙ ap (λ (q : ℤ). f (products (demand_factors spread k) q)) (demand_got project time k junction at)))

-- both ends of the first demands are in range
abbrev pub AreBothInRange : Project → Spread → ℕ → ℕ → Type 0
AreBothInRange project spread time i = (k : ℕ) → k < i
    → IsInRange (left_of project spread time k).lo × IsInRange (left_of project spread time k).hi

pub more_in_range : (project : Project) (spread : Spread) (time i : ℕ) (ends : Interval)
    → ends ≡ left_of project spread time i → IsInRange ends.lo → IsInRange ends.hi
    → AreBothInRange project spread time i → AreBothInRange project spread time (i + 1)
more_in_range project spread time i ends are low high before k lt = elim (cases_eq k i) [
  | inl same ↦ (
      let here : IsInRange (left_of project spread time i).lo × IsInRange (left_of project spread time i).hi =
      subst (λ (x : Interval). IsInRange x.lo × IsInRange x.hi) are (low, high) in
      subst (λ (n : ℕ). IsInRange (left_of project spread time n).lo × IsInRange (left_of project spread time n).hi)
      (sym same) here)
  | inr ne ↦ before k (omega (arith, ne, lt))
]

known_in_range : (project : Project) (spread : Spread) (time k : ℕ) (junction : Junction)
    → slice_get project.junctions.list k ≡ Some junction
    → IsInRange (left_of project spread time k).lo × IsInRange (left_of project spread time k).hi
    → IsDemandInRange (known_junction project spread time k junction)
known_in_range project spread time k junction at both =
    let same = demand_got project time k junction at in
    let spreads : IsInRange (products (demand_factors spread k) (demand_of project time junction)).lo
    × IsInRange (products (demand_factors spread k) (demand_of project time junction)).hi =
    subst (λ (q : ℤ). IsInRange (products (demand_factors spread k) q).lo
    × IsInRange (products (demand_factors spread k) q).hi) same both in
    record { least = spreads.0; greatest = spreads.1 }

pub all_in_range : (project : Project) (spread : Spread) (time : ℕ)
    → AreBothInRange project spread time (length project.junctions.list) → AreDemandsInRange project spread time
all_in_range project spread time both =
    all_numbered (known_junction project spread time) IsDemandInRange project.junctions.list (λ k junction at.
    known_in_range project spread time k junction at (both k (within project.junctions.list k junction at)))

pub first_over : (project : Project) (spread : Spread) (time i : ℕ) (value : ℤ) (d : Junction)
    → i < length project.junctions.list → value ≡ junction_demand project time i
    → (IsInRange (left_of project spread time i).lo → IsInRange (left_of project spread time i).hi → ⊥)
    → AreBothInRange project spread time i → IsFirstDemandOver project spread time i value
first_over project spread time i value d lt is beyond before =
    let junction = slice_index_or project.junctions.list i d in
    let at = got project.junctions.list i d lt in
    let same = demand_got project time i junction at in
    record {
      junction = junction;
      is_junction = at;
      is_demand = is ∙ same;
      known = known_junction project spread time i junction;
      is_known = got_numbered (known_junction project spread time) project.junctions.list i junction at;
      out_of_range = λ range. subst (λ (q : ℤ). IsInRange (products (demand_factors spread i) q).lo
          → IsInRange (products (demand_factors spread i) q).hi → ⊥) same beyond range.least range.greatest;
      first = λ k known less found. (
          let there : k < length project.junctions.list = omega (arith, less, lt) in
          let one = slice_index_or project.junctions.list k d in
          let its = got project.junctions.list k d there in
          let e : Some (known_junction project spread time k one) ≡ Some known =
          sym (got_numbered (known_junction project spread time) project.junctions.list k one its) ∙ found in
          let same_known : known_junction project spread time k one ≡ known = cc in
          subst IsDemandInRange same_known (known_in_range project spread time k one its (before k less)));
    }
