-- Each standing at which the demands are in range has a grid.
use Rattle.std.proofs.Common.{◌≡◌, ℕ, ◌*◌, ◌^◌, ◌≤◌, ℤ, pos, negsuc, ◌≤ℤ◌, refl, arith, Bool, true, false, MatchBool}
use Rattle.std.proofs.Common.{List, [], ◌∷◌, map}
use Rattle.std.specs.Prelude.{int_le, unsigned_abs, if◌then◌else◌}
use Rattle.std.specs.List.{AllByRecursion, AllZip}
use Rattle.std.proofs.lemmas.Int.{ints}
use Rattle.std.proofs.lemmas.List.Elements.{recursion_from_All}
use borrow.Author.Differences.{up}
use Rattle.hyd_num.specs.FileQuantity.{pressure_fraction, pressure_numerator, pressure_denominator}
use Rattle.hyd_num.specs.Fraction.{AtMost, whole}
use Rattle.hyd_net.specs.Sound.{IsSound}
use Rattle.hyd_lemmas.proofs.PressurePairs.{IsInReach, pressure_capacity_of}
use Rattle.hyd_spec.specs.ProgramTypes.{Project, Junction}
use Rattle.hyd_spec.specs.DemandsHeadsAndPumpLifts.{is_us, demand_of, reservoir_head, minimum_pressure}
use Rattle.hyd_spec.specs.DemandsHeadsAndPumpLifts.{required_pressure}
use Rattle.hyd_spec_certificates.specs.EnclosingFunctions.{DemandLaw, Fixed, Driven}
use Rattle.hyd_spec_certificates.specs.PeriodNetwork.{Grid, GridJunction, IsJunctionOf, IsDemandLaw, IsDriven}
use Rattle.hyd_spec_certificates.specs.PeriodNetwork.{grid_links, tank_intervals}
use Rattle.hyd_spec_certificates.specs.RecordAndStanding.{Standing}
use Rattle.hyd_spec_certificates.specs.Decided.{links_at}
use Rattle.hyd_spec_certificates.specs.Valid.{IsGridAt, DemandsAreInRange, demand_limit}
use Rattle.hyd_lemmas.proofs.BooleanTests.{le-no}

up-is : (z : ℤ) → pos 0 ≤ℤ z → pos (up z) ≡ z
up-is (pos n) above = refl
up-is (negsuc n) above = absurd (omega (arith, ints, above))

in-limit : (z : ℤ) → unsigned_abs z ≤ demand_limit → z ≤ℤ pos (10 ^ 15)
in-limit (pos n) le = omega (arith, ints, le)
in-limit (negsuc n) le = omega (arith, ints)

module _ (project : Project) (sound : IsSound project) where
  -- the required pressure is in range
  pressure-most : (us : Bool) (z : ℤ) → pos 0 ≤ℤ z → pressure_numerator us z ≤ℤ pos (10 ^ 17 * pressure_denominator us)
      → AtMost (pressure_fraction us (up z)) (whole (10 ^ 17))
  pressure-most true z above most = let e = up-is z above in record { crossed = omega (arith, ints, e, most) }
  pressure-most false z above most = let e = up-is z above in record { crossed = omega (arith, ints, e, most) }

  law-of : (demand : ℤ) → unsigned_abs demand ≤ demand_limit → (law : DemandLaw) × IsDemandLaw project demand law
  law-of demand within = by-case (int_le demand (pos 0)) project.options.pda refl refl
    where
      reach : int_le demand (pos 0) ≡ false → project.options.pda ≡ true
          → IsInReach demand project.options.p0 project.options.pf (is_us project)
      reach e driven = record {
        some = (let l = le-no demand (pos 0) e in omega (arith, ints, l));
        not_negative = sound.quantities.options.minimum.not_negative;
        apart = sound.quantities.options.apart driven;
        at_most = pressure-most (is_us project) project.options.pf.nano sound.quantities.options.required.not_negative
            sound.quantities.options.required.at_most;
      }

      by-case : (a b : Bool) → int_le demand (pos 0) ≡ a → project.options.pda ≡ b
          → (law : DemandLaw) × MatchBool (if a then false else b) (IsDriven project demand law) (law ≡ Fixed demand)
      by-case true b e f = (Fixed demand, refl)
      by-case false false e f = (Fixed demand, refl)
      by-case false true e f =
          let c = pressure_capacity_of demand project.options.p0 project.options.pf (is_us project)
          (in-limit demand within) (reach e f) in (
            Driven demand c.capacity (minimum_pressure project) (required_pressure project),
            record { capacity = c.capacity; origin = c.origin; made = c.made; is_law = refl },
          )

  junctions-of : (time : ℕ) (js : List Junction)
      → AllByRecursion (λ (j : Junction). unsigned_abs (demand_of project time j) ≤ demand_limit) js
      → (here : List GridJunction) × AllZip (IsJunctionOf project time) js here
  junctions-of time [] all = ([], tt)
  junctions-of time (j ∷ js) all =
      let law = law-of (demand_of project time j) all.0 in
      let rest = junctions-of time js all.1 in (
        record { elevation = j.elevation; demand = law.0; emitter = j.emitter } ∷ rest.0,
        (record { elevation = refl; demand = law.1; emitter = refl }, rest.1),
      )

  pub grid_is : (standing : Standing) → DemandsAreInRange project standing.time
      → (grid : Grid) × IsGridAt project standing grid
  grid_is standing range =
      let junctions = junctions-of standing.time project.junctions.list (recursion_from_All _ _ range) in (
        record {
          junctions = junctions.0;
          reservoirs = map (reservoir_head project standing.time) project.reservoirs.list;
          tanks = tank_intervals project.tanks.list standing.levels;
          links = grid_links project standing.tanks project.links.list (links_at project standing);
        },
        record { junctions = junctions.1; reservoirs = refl; tank_heads = refl; links_are = refl },
      )
