-- Each standing at which both ends of each demand are in range has outermost grids.
use Rattle.std.proofs.Common.{◌≡◌, ℕ, suc, ◌+◌, ◌*◌, ◌^◌, ◌≤◌, ℤ, pos, negsuc, ◌≤ℤ◌, refl, subst, arith, Bool, true, false}
use Rattle.std.proofs.Common.{MatchBool, List, [], ◌∷◌, map}
use Rattle.std.specs.Prelude.{int_le, unsigned_abs, if◌then◌else◌, Option, Some, None, slice_get}
use Rattle.std.specs.List.{AllByRecursion, AllZip}
use Rattle.std.proofs.lemmas.Int.{ints}
use borrow.Author.Differences.{up}
use Rattle.hyd_num.specs.FileQuantity.{pressure_fraction, pressure_numerator, pressure_denominator}
use Rattle.hyd_num.specs.Fraction.{AtMost, whole}
use Rattle.hyd_net.specs.Sound.{IsSound}
use Rattle.hyd_lemmas.proofs.BooleanTests.{le-no}
use Rattle.hyd_lemmas.proofs.PressurePairs.{IsInReach, pressure_capacity_of}
use Rattle.hyd_spec.specs.ProgramTypes.{Project, Junction, Capacity}
use Rattle.hyd_spec.specs.Lists.{map_from}
use Rattle.hyd_spec.specs.DemandsHeadsAndPumpLifts.{is_us, minimum_pressure, required_pressure}
use Rattle.hyd_spec_certificates.specs.declared.Side.{Side}
use Rattle.hyd_spec_certificates.specs.declared.Side.TheVariants.{Upper, Lower}
use Rattle.hyd_spec_certificates.specs.EnclosingFunctions.{DemandLaw, Fixed, Driven}
use Rattle.hyd_spec_certificates.specs.PeriodNetwork.{Grid, GridJunction, IsDemandLaw, IsDriven, end_on}
use Rattle.hyd_spec_certificates.specs.PeriodNetwork.{grid_links, tank_intervals}
use Rattle.hyd_spec_certificates.specs.RecordAndStanding.{Standing}
use Rattle.hyd_spec_certificates.specs.Decided.{links_at}
use Rattle.hyd_spec_certificates.specs.Valid.{demand_limit}
use Rattle.hyd_spec_spread.specs.Spreads.{Factors, Spread, emitter_factors}
use Rattle.hyd_spec_spread.specs.IntervalsOfData.{KnownJunction, known_junction, known_junctions, known_heads}
use Rattle.hyd_spec_spread.specs.OutermostGrids.{IsOutermostEmitter, IsOutermostJunction, IsOutermostGrid}
use Rattle.hyd_spec_spread.specs.OutermostGrids.{outermost_demand}
use Rattle.hyd_spec_spread_runs.specs.OutermostPairs.{Pair, grid_on}
use Rattle.hyd_spec_spread_runs.specs.RunsForSpreads.{ArePairAt, IsDemandInRange, AreDemandsInRange}
use Rattle.hyd_theorems_on_inner_spreads.specs.RunsInside.{EmitterReaches, HasOutermostEmitters}

up-is : (z : ℤ) → pos 0 ≤ℤ z → pos (up z) ≡ z
up-is (pos n) above = refl
up-is (negsuc n) above = absurd (omega (arith, ints, above))

in-limit : (z : ℤ) → unsigned_abs z ≤ demand_limit → z ≤ℤ pos (10 ^ 15)
in-limit (pos n) le = omega (arith, ints, le)
in-limit (negsuc n) le = omega (arith, ints)

demand-on : (side : Side) (known : KnownJunction) → IsDemandInRange known
    → unsigned_abs (outermost_demand side known) ≤ demand_limit
demand-on Upper known is = is.least
demand-on Lower known is = is.greatest

emitter-of : (factors : Factors) (e : Option Capacity) → EmitterReaches factors e
    → (wide : Option Capacity) × IsOutermostEmitter factors e wide
emitter-of factors None is = (None, tt)
emitter-of factors (Some own) is = (Some is.0, is.1)

module _ (project : Project) (sound : IsSound project) where
  -- the required pressure is in range
  pressure-most : (us : Bool) (z : ℤ) → pos 0 ≤ℤ z → pressure_numerator us z ≤ℤ pos (10 ^ 17 * pressure_denominator us)
      → AtMost (pressure_fraction us (up z)) (whole (10 ^ 17))
  pressure-most true z above most = let e = up-is z above in record { crossed = omega (arith, ints, e, most) }
  pressure-most false z above most = let e = up-is z above in record { crossed = omega (arith, ints, e, most) }

  law-of : (demand : ℤ) → unsigned_abs demand ≤ demand_limit → (law : DemandLaw) × IsDemandLaw project demand law
  law-of demand within = by-case (int_le demand (pos 0)) project.options.pda refl refl
    where
      reach : int_le demand (pos 0) ≡ false → project.options.pda ≡ true
          → IsInReach demand project.options.p0 project.options.pf (is_us project)
      reach e driven = record {
        some = (let l = le-no demand (pos 0) e in omega (arith, ints, l));
        not_negative = sound.quantities.options.minimum.not_negative;
        apart = sound.quantities.options.apart driven;
        at_most = pressure-most (is_us project) project.options.pf.nano sound.quantities.options.required.not_negative
            sound.quantities.options.required.at_most;
      }

      by-case : (a b : Bool) → int_le demand (pos 0) ≡ a → project.options.pda ≡ b
          → (law : DemandLaw) × MatchBool (if a then false else b) (IsDriven project demand law) (law ≡ Fixed demand)
      by-case true b e f = (Fixed demand, refl)
      by-case false false e f = (Fixed demand, refl)
      by-case false true e f =
          let c = pressure_capacity_of demand project.options.p0 project.options.pf (is_us project)
          (in-limit demand within) (reach e f) in (
            Driven demand c.capacity (minimum_pressure project) (required_pressure project),
            record { capacity = c.capacity; origin = c.origin; made = c.made; is_law = refl },
          )

  module _ (spread : Spread) (emitters : HasOutermostEmitters project spread) where
    junctions-of : (side : Side) (time from : ℕ) (js : List Junction)
        → ((k : ℕ) (j : Junction) → slice_get js k ≡ Some j
        → EmitterReaches (emitter_factors spread (from + k)) j.emitter)
        → AllByRecursion IsDemandInRange (map_from (known_junction project spread time) from js)
        → (here : List GridJunction)
        × AllZip (IsOutermostJunction project side) (map_from (known_junction project spread time) from js) here
    junctions-of side time from [] reach all = ([], tt)
    junctions-of side time from (j ∷ js) reach all =
        let known = known_junction project spread time from j in
        let law = law-of (outermost_demand side known) (demand-on side known all.0) in
        let emitter = emitter-of (emitter_factors spread from) j.emitter
        (subst (λ (n : ℕ). EmitterReaches (emitter_factors spread n) j.emitter)
        (let n : from + 0 ≡ from = omega arith in n) (reach 0 j refl)) in
        let rest = junctions-of side time (suc from) js
        (λ k x at. subst (λ (n : ℕ). EmitterReaches (emitter_factors spread n) x.emitter)
        (let n : from + suc k ≡ suc from + k = omega arith in n) (reach (suc k) x at)) all.1 in (
          record { elevation = j.elevation; demand = law.0; emitter = emitter.0 } ∷ rest.0,
          (record { elevation = refl; demand = law.1; emitter = emitter.1 }, rest.1),
        )

    grid-of : (side : Side) (standing : Standing) → AreDemandsInRange project spread standing.time
        → (grid : Grid) × IsOutermostGrid project spread side standing.time standing.levels standing.tanks
        (links_at project standing) grid
    grid-of side standing range =
        let junctions = junctions-of side standing.time 0 project.junctions.list
        (λ k j at. subst (λ (n : ℕ). EmitterReaches (emitter_factors spread n) j.emitter)
        (let n : k ≡ 0 + k = omega arith in n) (emitters k j at)) range in (
          record {
            junctions = junctions.0;
            reservoirs = map (end_on side) (known_heads project spread standing.time);
            tanks = tank_intervals project.tanks.list standing.levels;
            links = grid_links project standing.tanks project.links.list (links_at project standing);
          },
          record { junctions = junctions.1; reservoirs = refl; tank_heads = refl; links_are = refl },
        )

    abbrev made : (standing : Standing) → AreDemandsInRange project spread standing.time → Pair
    made standing range =
        record { upper = (grid-of Upper standing range).0; lower = (grid-of Lower standing range).0 }

    on-side : (standing : Standing) (range : AreDemandsInRange project spread standing.time) (side : Side)
        → IsOutermostGrid project spread side standing.time standing.levels standing.tanks
        (links_at project standing) (grid_on side (made standing range))
    on-side standing range Upper = (grid-of Upper standing range).1
    on-side standing range Lower = (grid-of Lower standing range).1

    pub pair-of : (standing : Standing) → AreDemandsInRange project spread standing.time
        → (pair : Pair) × ArePairAt project spread standing pair
    pair-of standing range = (made standing range, on-side standing range)
