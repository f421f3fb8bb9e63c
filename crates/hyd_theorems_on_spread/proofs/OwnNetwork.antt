-- The file's own network is within each spread of it; and with no spread its grid is the outermost one of either side.
use Rattle.std.proofs.Common.{◌≡◌, ℕ, suc, ℤ, pos, ◌+ℤ◌, refl, sym, ap, subst, ◌∙◌, arith, List, [], ◌∷◌}
use Rattle.std.specs.Prelude.{Option, Some, None, map}
use Rattle.std.specs.List.{AllZip, AllByRecursion}
use Rattle.std.specs.Option.{IfSome}
use Rattle.std.proofs.lemmas.Int.{ints}
use Rattle.std.proofs.lemmas.List.Elements.{recursion_from_All}
use Rattle.hyd_num.specs.CapacityPairs.{IsMade}
use Rattle.hyd_num.specs.declared.flow_units.FlowUnit.{FlowUnit}
use Rattle.hyd_net.specs.Sound.{IsSound}
use Rattle.hyd_net.specs.NetworkRanges.{IsEmitter, IsJunction}
use Rattle.hyd_spec.specs.ProgramTypes.{Project, Junction, Reservoir, LinkState, Capacity, Origin, Pipe, Valve, Pump}
use Rattle.hyd_spec.specs.ProgramTypes.{Emitter, PressureDemand}
use Rattle.hyd_spec.specs.declared.TankState.{TankState}
use Rattle.hyd_spec.specs.Lists.{map_from}
use Rattle.hyd_spec.specs.DemandsHeadsAndPumpLifts.{demand_of, reservoir_head}
use Rattle.hyd_spec_certificates.specs.declared.Side.{Side}
use Rattle.hyd_spec_certificates.specs.declared.Side.TheVariants.{Upper, Lower}
use Rattle.hyd_spec_certificates.specs.Interval.{Interval}
use Rattle.hyd_spec_certificates.specs.PeriodNetwork.{Grid, GridJunction, IsDemandLaw, IsJunctionOf, IsGrid, end_on}
use Rattle.hyd_spec_certificates.specs.PeriodNetwork.{opposite}
use Rattle.hyd_lemmas.proofs.OneBinaryNumber.{one-scaled}
use Rattle.hyd_lemmas.proofs.OneCapacity.{same-capacity}
use Rattle.hyd_spec_spread.specs.Spreads.{Factors, Spread, IsSpread, no_spread, one_alone, demand_factors}
use Rattle.hyd_spec_spread.specs.Spreads.{emitter_factors, IsAroundOne}
use Rattle.hyd_spec_spread.specs.IntervalsOfData.{known_junction, known_head, products}
use Rattle.hyd_spec_spread.specs.NetworksWithin.{own_data, coefficient_of, IsEmitterOf}
use Rattle.hyd_spec_spread.specs.NetworksWithin.{EmitterIsWithin, IsJunctionWithin, HasHeadWithin}
use Rattle.hyd_spec_spread.specs.NetworksWithin.{IsWithin}
use Rattle.hyd_spec_spread.specs.OutermostGrids.{IsOutermostEmitter, IsOutermostJunction, IsOutermostGrid}
use Rattle.hyd_theorems_on_spread.proofs.CapacitiesInOrder.{IsLesser}
use Rattle.hyd_theorems_on_spread.proofs.OutermostJunctions.{emitters-in-order}
use Rattle.hyd_theorems_on_spread.proofs.ProductsInOrder.{products-hold, products-least, products-greatest}

-- ---- emitters of a sound network

-- an emitter is that of its own coefficient
pub own-emitter : (unit : FlowUnit) (capacity : Capacity) → IsEmitter unit capacity.origin → IsMade capacity
    → IsEmitterOf capacity.origin (coefficient_of capacity.origin) capacity
own-emitter unit capacity ranged made = by-origin capacity.origin refl ranged
  where
    by-origin : (o : Origin) → capacity.origin ≡ o → IsEmitter unit o → IsEmitterOf capacity.origin
        (coefficient_of capacity.origin) capacity
    by-origin (Pipe us length diameter roughness minor) e is = absurd is
    by-origin (Valve diameter k us) e is = absurd is
    by-origin (Pump flow drop thirds own) e is = absurd is
    by-origin (Emitter coefficient own) e is = record {
      own_coefficient = coefficient;
      coefficient = coefficient;
      unit = own;
      own_is = e;
      origin = e;
      nano_is = ap coefficient_of (sym e);
      made = made;
    }
    by-origin (PressureDemand demand minimum required us) e is = absurd is

module _ (project : Project) (sound : IsSound project) where
  -- what is known of the emitters of its junctions
  pub record HasOwnEmitter (junction : Junction) : Type 0 where
    pub ranged : IsJunction project.options.unit project.patterns.list junction
    pub made : IfSome junction.emitter IsMade

  pub own-emitters : AllByRecursion HasOwnEmitter project.junctions.list
  own-emitters = each project.junctions.list (recursion_from_All _ _ sound.quantities.junctions)
      (recursion_from_All _ _ sound.made.emitters)
    where
      each : (js : List Junction) → AllByRecursion (IsJunction project.options.unit project.patterns.list) js
          → AllByRecursion (λ (j : Junction). IfSome j.emitter IsMade) js → AllByRecursion HasOwnEmitter js
      each [] a b = tt
      each (j ∷ js) a b = (record { ranged = a.0; made = b.0 }, each js a.1 b.1)

  -- ---- within a spread

  pub emitter-itself : (factors : Factors) → IsAroundOne factors → (e : Option Capacity)
      → IfSome e (λ c. IsEmitter project.options.unit c.origin) → IfSome e IsMade → EmitterIsWithin factors e e
  emitter-itself factors one None ranged made = tt
  emitter-itself factors one (Some own) ranged made = record {
    nano = coefficient_of own.origin;
    within = products-hold factors one (coefficient_of own.origin);
    is_emitter = own-emitter project.options.unit own ranged made;
  }

  junctions-within : (spread : Spread) → IsSpread project spread → (time from : ℕ) (js : List Junction)
      → AllByRecursion HasOwnEmitter js
      → AllZip (IsJunctionWithin project time) (map_from (known_junction project spread time) from js) js
  junctions-within spread is time from [] own = tt
  junctions-within spread is time from (j ∷ js) own = (
    record {
      elevation = refl;
      demand = products-hold (demand_factors spread from) (is.demands from) (demand_of project time j);
      emitter = emitter-itself (emitter_factors spread from) (is.emitters from) j.emitter own.0.ranged.emitter
          own.0.made;
    },
    junctions-within spread is time (suc from) js own.1,
  )

  heads-within : (spread : Spread) → IsSpread project spread → (time from : ℕ) (rs : List Reservoir)
      → AllZip (HasHeadWithin project time) (map_from (known_head project spread time) from rs) rs
  heads-within spread is time from [] = tt
  heads-within spread is time from (r ∷ rs) = (
    record {
      low = (let l = (is.heads from).low in omega (arith, ints, l));
      high = (let l = (is.heads from).high in omega (arith, ints, l));
    },
    heads-within spread is time (suc from) rs,
  )

  pub own-within : (spread : Spread) → IsSpread project spread → (time : ℕ)
      → IsWithin project spread time (own_data project)
  own-within spread is time = record {
    junctions = junctions-within spread is time 0 project.junctions.list own-emitters;
    reservoirs = heads-within spread is time 0 project.reservoirs.list;
  }

  -- ---- no spread

  -- a capacity that is not above another, and that it is not above, has its ends
  pub same-ends : (a b : Capacity) → IsLesser a b → IsLesser b a → (a.lo ≡ b.lo) × (a.hi ≡ b.hi)
  same-ends a b forth back = (
    one-scaled a.lo b.lo (record { crossed = forth.low }) (record { crossed = back.low }),
    one-scaled a.hi b.hi (record { crossed = forth.high }) (record { crossed = back.high }),
  )

  emitter-alone : (own wide : Option Capacity) → IfSome own (λ c. IsEmitter project.options.unit c.origin)
      → IfSome own IsMade → IsOutermostEmitter one_alone own wide → wide ≡ own
  emitter-alone None None ranged made is = refl
  emitter-alone None (Some wide) ranged made is = absurd is
  emitter-alone (Some own) None ranged made is = absurd is
  emitter-alone (Some own) (Some wide) ranged made is =
      let c = coefficient_of own.origin in
      let least = products-least (coefficient_of own.origin) in
      let greatest = products-greatest (coefficient_of own.origin) in
      let itself = own-emitter project.options.unit own ranged made in
      let low = same-ends is.least own
      (emitters-in-order own.origin (products one_alone (coefficient_of own.origin)).lo
      (coefficient_of own.origin) is.least own is.is_least itself (omega (arith, ints, least)))
      (emitters-in-order own.origin (coefficient_of own.origin)
      (products one_alone (coefficient_of own.origin)).lo own is.least itself is.is_least
      (omega (arith, ints, least))) in
      let high = same-ends is.greatest own
      (emitters-in-order own.origin (products one_alone (coefficient_of own.origin)).hi
      (coefficient_of own.origin) is.greatest own is.is_greatest itself (omega (arith, ints, greatest)))
      (emitters-in-order own.origin (coefficient_of own.origin)
      (products one_alone (coefficient_of own.origin)).hi own is.greatest itself is.is_greatest
      (omega (arith, ints, greatest))) in
      ap Some (same-capacity wide own (is.lower_end ∙ low.0) (is.upper_end ∙ high.1) is.origin)

  emitter-over-itself : (own : Option Capacity) → IfSome own (λ c. IsEmitter project.options.unit c.origin)
      → IfSome own IsMade → IsOutermostEmitter one_alone own own
  emitter-over-itself None ranged made = tt
  emitter-over-itself (Some own) ranged made =
      let itself = own-emitter project.options.unit own ranged made in
      record {
        least = own;
        is_least = subst (λ (z : ℤ). IsEmitterOf own.origin z own) (sym (products-least (coefficient_of own.origin)))
            itself;
        greatest = own;
        is_greatest = subst (λ (z : ℤ). IsEmitterOf own.origin z own)
            (sym (products-greatest (coefficient_of own.origin))) itself;
        lower_end = refl;
        upper_end = refl;
        origin = refl;
      }

  -- the demand that is left of a junction, on either side
  demand-alone : (side : Side) (z : ℤ) → end_on (opposite side) (products one_alone z) ≡ z
  demand-alone Upper z = products-least z
  demand-alone Lower z = products-greatest z

  junctions-alone : (side : Side) (time from : ℕ) (js : List Junction) (xs : List GridJunction)
      → AllByRecursion HasOwnEmitter js
      → AllZip (IsOutermostJunction project side) (map_from (known_junction project no_spread time) from js) xs
      → AllZip (IsJunctionOf project time) js xs
  junctions-alone side time from [] [] own all = tt
  junctions-alone side time from [] (x ∷ xs) own all = absurd all
  junctions-alone side time from (j ∷ js) [] own all = absurd all
  junctions-alone side time from (j ∷ js) (x ∷ xs) own all = (
    record {
      elevation = all.0.elevation;
      demand = subst (λ (z : ℤ). IsDemandLaw project z x.demand) (demand-alone side (demand_of project time j))
          all.0.demand;
      emitter = emitter-alone j.emitter x.emitter own.0.ranged.emitter own.0.made all.0.emitter;
    },
    junctions-alone side time (suc from) js xs own.1 all.1,
  )

  junctions-outermost : (side : Side) (time from : ℕ) (js : List Junction) (xs : List GridJunction)
      → AllByRecursion HasOwnEmitter js → AllZip (IsJunctionOf project time) js xs
      → AllZip (IsOutermostJunction project side) (map_from (known_junction project no_spread time) from js) xs
  junctions-outermost side time from [] [] own all = tt
  junctions-outermost side time from [] (x ∷ xs) own all = absurd all
  junctions-outermost side time from (j ∷ js) [] own all = absurd all
  junctions-outermost side time from (j ∷ js) (x ∷ xs) own all = (
    record {
      elevation = all.0.elevation;
      demand = subst (λ (z : ℤ). IsDemandLaw project z x.demand) (sym (demand-alone side (demand_of project time j)))
          all.0.demand;
      emitter = subst (λ (e : Option Capacity). IsOutermostEmitter one_alone j.emitter e) (sym all.0.emitter)
          (emitter-over-itself j.emitter own.0.ranged.emitter own.0.made);
    },
    junctions-outermost side time (suc from) js xs own.1 all.1,
  )

  heads-alone : (side : Side) (time from : ℕ) (rs : List Reservoir)
      → map (end_on side) (map_from (known_head project no_spread time) from rs) ≡ map (reservoir_head project time) rs
  heads-alone side time from [] = refl
  heads-alone Upper time from (r ∷ rs) =
      let rest = heads-alone Upper time (suc from) rs in
      let here : pos 0 +ℤ reservoir_head project time r ≡ reservoir_head project time r = omega (arith, ints) in
      λ i. here i ∷ rest i
  heads-alone Lower time from (r ∷ rs) =
      let rest = heads-alone Lower time (suc from) rs in
      let here : pos 0 +ℤ reservoir_head project time r ≡ reservoir_head project time r = omega (arith, ints) in
      λ i. here i ∷ rest i

  -- the outermost grid of no spread is the grid of the network
  pub grid-alone : (side : Side) (time : ℕ) (levels : List Interval) (tanks : List TankState) (links : List LinkState)
      (grid : Grid) → IsOutermostGrid project no_spread side time levels tanks links grid
      → IsGrid project time levels tanks links grid
  grid-alone side time levels tanks links grid is = record {
    junctions = junctions-alone side time 0 project.junctions.list grid.junctions own-emitters is.junctions;
    reservoirs = is.reservoirs ∙ heads-alone side time 0 project.reservoirs.list;
    tank_heads = is.tank_heads;
    links_are = is.links_are;
  }

  -- and the other way round
  pub grid-outermost : (side : Side) (time : ℕ) (levels : List Interval) (tanks : List TankState)
      (links : List LinkState) (grid : Grid) → IsGrid project time levels tanks links grid
      → IsOutermostGrid project no_spread side time levels tanks links grid
  grid-outermost side time levels tanks links grid is = record {
    junctions = junctions-outermost side time 0 project.junctions.list grid.junctions own-emitters is.junctions;
    reservoirs = is.reservoirs ∙ sym (heads-alone side time 0 project.reservoirs.list);
    tank_heads = is.tank_heads;
    links_are = is.links_are;
  }
