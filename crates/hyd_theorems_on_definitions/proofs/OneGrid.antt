-- A standing has one grid.
use Rattle.std.proofs.Common.{◌≡◌, ℕ, ℤ, Bool, true, false, MatchBool, List, [], ◌∷◌, refl, sym, ap, ◌∙◌}
use Rattle.std.specs.List.{AllZip}
use Rattle.hyd_spec.specs.ProgramTypes.{Project, Junction, Capacity, LinkState}
use Rattle.hyd_spec.specs.DemandsHeadsAndPumpLifts.{demand_of, minimum_pressure, required_pressure}
use Rattle.hyd_spec.specs.Outflow.{is_pressure_driven}
use Rattle.hyd_spec.specs.declared.TankState.{TankState}
use Rattle.hyd_spec_certificates.specs.EnclosingFunctions.{DemandLaw, Fixed, Driven}
use Rattle.hyd_spec_certificates.specs.PeriodNetwork.{Grid, GridJunction, IsDriven, IsDemandLaw, IsJunctionOf, IsGrid}
use Rattle.hyd_spec_certificates.specs.RecordAndStanding.{Standing}
use Rattle.hyd_spec_certificates.specs.Valid.{IsGridAt}
use Rattle.hyd_spec_certificates.specs.Interval.{Interval}
use Rattle.hyd_spec_certificates.specs.Decided.{links_at}
use Rattle.hyd_lemmas.proofs.OneCapacity.{one_capacity}

module _ (project : Project) where
  -- a demand has one law: the capacity of given numbers is one
  one_law : (demand : ℤ) (x y : DemandLaw) → IsDemandLaw project demand x → IsDemandLaw project demand y → x ≡ y
  one_law demand x y is other = by_case (is_pressure_driven project demand) is other
    where
      by_case : (driven : Bool) → MatchBool driven (IsDriven project demand x) (x ≡ Fixed demand)
          → MatchBool driven (IsDriven project demand y) (y ≡ Fixed demand) → x ≡ y
      by_case true p q =
          let same = one_capacity p.capacity q.capacity (p.origin ∙ sym q.origin) p.made q.made in
          p.is_law ∙ ap (λ (c : Capacity). Driven demand c (minimum_pressure project) (required_pressure project))
          same ∙ sym q.is_law
      by_case false p q = p ∙ sym q

  same_junction : (time : ℕ) (junction : Junction) (a b : GridJunction) → IsJunctionOf project time junction a
      → IsJunctionOf project time junction b → a ≡ b
  same_junction time junction a b x y =
      let elevation = x.elevation ∙ sym y.elevation in
      let takes = demand_of project time junction in
      let demand = one_law takes a.demand b.demand x.demand y.demand in
      let emitter = x.emitter ∙ sym y.emitter in
      λ i. record { elevation = elevation i; demand = demand i; emitter = emitter i }

  same_junctions : (time : ℕ) (junctions : List Junction) (xs ys : List GridJunction)
      → AllZip (IsJunctionOf project time) junctions xs
      → AllZip (IsJunctionOf project time) junctions ys → xs ≡ ys
  same_junctions time [] [] [] x y = refl
  same_junctions time [] [] (b ∷ ys) x y = absurd y
  same_junctions time [] (a ∷ xs) ys x y = absurd x
  same_junctions time (j ∷ js) [] ys x y = absurd x
  same_junctions time (j ∷ js) (a ∷ xs) [] x y = absurd y
  same_junctions time (j ∷ js) (a ∷ xs) (b ∷ ys) x y =
      let first = same_junction time j a b x.0 y.0 in let rest = same_junctions time js xs ys x.1 y.1 in cc

  pub same_grid : (time : ℕ) (levels : List Interval) (states : List TankState) (ways : List LinkState) (a b : Grid)
      → IsGrid project time levels states ways a → IsGrid project time levels states ways b → a ≡ b
  same_grid time levels states ways a b x y =
      let junctions = same_junctions time project.junctions.list a.junctions b.junctions x.junctions y.junctions in
      let reservoirs = x.reservoirs ∙ sym y.reservoirs in
      let tanks = x.tank_heads ∙ sym y.tank_heads in
      let links = x.links_are ∙ sym y.links_are in
      λ i. record { junctions = junctions i; reservoirs = reservoirs i; tanks = tanks i; links = links i }

  pub one_grid : (standing : Standing) (a b : Grid) → IsGridAt project standing a → IsGridAt project standing b → a ≡ b
  one_grid standing a b x y =
      same_grid standing.time standing.levels standing.tanks (links_at project standing) a b x y
