-- Some network within a spread takes the ends of what is left open: each demand at the one, each reservoir's head at
-- the other. Without emitters its grid is the outermost one.
use Rattle.std.proofs.Common.{◌≡◌, ℕ, zero, suc, ◌*◌, ◌/◌, ◌^◌, ℤ, pos, negsuc, neg_ℤ, ◌+ℤ◌, ◌*ℤ◌, ◌≤ℤ◌}
use Rattle.std.proofs.Common.{refl, sym, ap, subst, ◌∙◌, arith, List, [], ◌∷◌}
use Rattle.std.specs.Prelude.{Option, Some, None, map, All}
use Rattle.std.specs.List.{AllZip, AllByRecursion}
use Rattle.std.proofs.lemmas.Int.{ints}
use Rattle.std.proofs.lemmas.List.Elements.{recursion_from_All}
use Rattle.std.proofs.Math.IntN.{pos-*ℤ-pos, negsuc-*ℤ-pos}
use Rattle.std.proofs.Math.Nat.{mul-div_cancel}
use Rattle.hyd_net.specs.ListView.{listed}
use Rattle.hyd_net.specs.Sound.{IsSound}
use Rattle.hyd_spec.specs.ProgramTypes.{Project, Junction, Reservoir, LinkState, Capacity, Decimal}
use Rattle.hyd_spec.specs.declared.TankState.{TankState}
use Rattle.hyd_spec.specs.WholeNumbers.{cut}
use Rattle.hyd_spec.specs.Lists.{map_from}
use Rattle.hyd_spec.specs.DemandsHeadsAndPumpLifts.{demand_of, reservoir_head}
use Rattle.hyd_spec_certificates.specs.declared.Side.{Side}
use Rattle.hyd_spec_certificates.specs.declared.Side.TheVariants.{Upper, Lower}
use Rattle.hyd_spec_certificates.specs.Interval.{Interval}
use Rattle.hyd_spec_certificates.specs.PeriodNetwork.{Grid, GridJunction, IsDemandLaw, IsJunctionOf, IsGrid, end_on}
use Rattle.hyd_spec_certificates.specs.PeriodNetwork.{opposite}
use Rattle.hyd_spec_spread.specs.Spreads.{Factors, Spread, IsSpread, Holds, demand_factors, emitter_factors}
use Rattle.hyd_spec_spread.specs.IntervalsOfData.{KnownJunction, known_junction, known_junctions, known_head}
use Rattle.hyd_spec_spread.specs.IntervalsOfData.{known_heads}
use Rattle.hyd_spec_spread.specs.NetworksWithin.{NodeData, with_data, IsJunctionWithin, HasHeadWithin, IsWithin}
use Rattle.hyd_spec_spread.specs.OutermostGrids.{IsOutermostEmitter, IsOutermostJunction, IsOutermostGrid}
use Rattle.hyd_spec_spread.specs.OutermostGrids.{outermost_demand}
use Rattle.hyd_theorems_on_spread.specs.EndsTaken.{TakesEnds}
use Rattle.hyd_theorems_on_spread.proofs.ProductsInOrder.{products-hold}
use Rattle.hyd_theorems_on_spread.proofs.OutermostJunctions.{law-there}
use Rattle.hyd_theorems_on_spread.proofs.LinksWithin.{links-alike, count-within}
use Rattle.hyd_theorems_on_spread.proofs.OwnNetwork.{HasOwnEmitter, own-emitters, emitter-itself}

-- ---- a demand of one category without a pattern

cut-of-negative : (k : ℕ) → cut (neg_ℤ (pos k)) (10 ^ 9) ≡ neg_ℤ (pos (k / 10 ^ 9))
cut-of-negative zero = refl
cut-of-negative (suc k) = refl

cut-back : (z : ℤ) → cut (z *ℤ pos (10 ^ 9)) (10 ^ 9) ≡ z
cut-back (pos n) = ap (λ (z : ℤ). cut z (10 ^ 9)) (pos-*ℤ-pos n (10 ^ 9)) ∙ ap pos (mul-div_cancel n (omega arith))
cut-back (negsuc n) =
    ap (λ (z : ℤ). cut z (10 ^ 9)) (negsuc-*ℤ-pos n (10 ^ 9)) ∙ cut-of-negative (suc n * 10 ^ 9)
    ∙ ap (λ (k : ℕ). neg_ℤ (pos k)) (mul-div_cancel (suc n) (omega arith))

-- ---- the network at the ends

abbrev pub end_junction : Side → KnownJunction → Junction
end_junction side known = record {
  elevation = known.elevation;
  demands = listed (record { base = outermost_demand side known; pattern = None } ∷ []);
  emitter = known.emitter;
}

abbrev pub end_reservoir : Side → Interval → Reservoir
end_reservoir side known = record { head = end_on side known; pattern = None }

pub one_times_all : Decimal
one_times_all = record { nano = pos (10 ^ 9); bounded = omega arith }

abbrev pub end_nodes : Project → Spread → ℕ → Side → NodeData
end_nodes project spread time side = record {
  junctions = listed (map (end_junction side) (known_junctions project spread time));
  reservoirs = listed (map (end_reservoir side) (known_heads project spread time));
  multiplier = one_times_all;
  default_pattern = None;
}

end-demand : (project : Project) (spread : Spread) (time : ℕ) (side : Side) (known : KnownJunction)
    → demand_of (with_data project (end_nodes project spread time side)) time (end_junction side known)
    ≡ outermost_demand side known
unfolding one_times_all
end-demand project spread time side known =
    let D = outermost_demand side known in
    ap (λ (z : ℤ). z +ℤ pos 0) (cut-back (outermost_demand side known))
    ∙ (let e : outermost_demand side known +ℤ pos 0 ≡ outermost_demand side known = omega (arith, ints) in e)

end-held : (side : Side) (x : Interval) → x.lo ≤ℤ x.hi → Holds x (end_on side x)
end-held Upper x le = record { low = le; high = omega (arith, ints) }
end-held Lower x le = record { low = omega (arith, ints); high = le }

module _ (project : Project) (sound : IsSound project) (spread : Spread) (is : IsSpread project spread) (time : ℕ)
    (side : Side) where
  abbrev nodes : NodeData
  nodes = end_nodes project spread time side

  -- ---- within

  in-order : (from : ℕ) (j : Junction) → (known_junction project spread time from j).demand.lo
      ≤ℤ (known_junction project spread time from j).demand.hi
  in-order from j =
      let h = products-hold (demand_factors spread from) (is.demands from) (demand_of project time j) in
      let l = h.low in let u = h.high in omega (arith, ints, l, u)

  junctions-within : (from : ℕ) (js : List Junction) → AllByRecursion (HasOwnEmitter project sound) js
      → AllZip (IsJunctionWithin (with_data project nodes) time) (map_from (known_junction project spread time) from js)
      (map (end_junction side) (map_from (known_junction project spread time) from js))
  junctions-within from [] own = tt
  junctions-within from (j ∷ js) own = (
    record {
      elevation = refl;
      demand = subst (Holds (known_junction project spread time from j).demand)
          (sym (end-demand project spread time side (known_junction project spread time from j)))
          (end-held (opposite side) (known_junction project spread time from j).demand (in-order from j));
      emitter = emitter-itself project sound (emitter_factors spread from) (is.emitters from) j.emitter
          own.0.ranged.emitter own.0.made;
    },
    junctions-within (suc from) js own.1,
  )

  heads-within : (from : ℕ) (rs : List Reservoir)
      → AllZip (HasHeadWithin (with_data project nodes) time) (map_from (known_head project spread time) from rs)
      (map (end_reservoir side) (map_from (known_head project spread time) from rs))
  heads-within from [] = tt
  heads-within from (r ∷ rs) = (
    end-held side (known_head project spread time from r)
        (let l = (is.heads from).low in let u = (is.heads from).high in omega (arith, ints, l, u)),
    heads-within (suc from) rs,
  )

  pub ends-within : IsWithin project spread time nodes
  ends-within = record {
    junctions = junctions-within 0 project.junctions.list (own-emitters project sound);
    reservoirs = heads-within 0 project.reservoirs.list;
  }

  -- ---- at the ends

  demands-taken : (known : List KnownJunction)
      → AllZip (λ (k : KnownJunction) (junction : Junction). demand_of (with_data project nodes) time junction
      ≡ outermost_demand side k) known (map (end_junction side) known)
  demands-taken [] = tt
  demands-taken (k ∷ known) = (end-demand project spread time side k, demands-taken known)

  heads-taken : (known : List Interval) → map (reservoir_head (with_data project nodes) time)
      (map (end_reservoir side) known) ≡ map (end_on side) known
  heads-taken [] = refl
  heads-taken (x ∷ known) = let rest = heads-taken known in λ i. end_on side x ∷ rest i

  pub ends-taken : TakesEnds project spread time side nodes
  ends-taken = record {
    demands = demands-taken (known_junctions project spread time);
    heads = heads-taken (known_heads project spread time);
  }

  -- ---- without emitters

  no-emitter : (factors : Factors) (own wide : Option Capacity) → own ≡ None → IsOutermostEmitter factors own wide
      → wide ≡ own
  no-emitter factors None None e w = refl
  no-emitter factors None (Some b) e w = absurd w
  no-emitter factors (Some a) wide e w = absurd (cc)

  junctions-of : (from : ℕ) (js : List Junction) (xs : List GridJunction)
      → AllByRecursion (λ (j : Junction). j.emitter ≡ None) js
      → AllZip (IsOutermostJunction project side) (map_from (known_junction project spread time) from js) xs
      → AllZip (IsJunctionOf (with_data project nodes) time)
      (map (end_junction side) (map_from (known_junction project spread time) from js)) xs
  junctions-of from [] [] without all = tt
  junctions-of from [] (x ∷ xs) without all = absurd all
  junctions-of from (j ∷ js) [] without all = absurd all
  junctions-of from (j ∷ js) (x ∷ xs) without all = (
    record {
      elevation = all.0.elevation;
      demand = subst (λ (z : ℤ). IsDemandLaw (with_data project nodes) z x.demand)
          (sym (end-demand project spread time side (known_junction project spread time from j)))
          (law-there project nodes (outermost_demand side (known_junction project spread time from j)) x.demand
          all.0.demand);
      emitter = no-emitter (emitter_factors spread from) j.emitter x.emitter without.0 all.0.emitter;
    },
    junctions-of (suc from) js xs without.1 all.1,
  )

  pub outermost-taken : All (λ (j : Junction). j.emitter ≡ None) project.junctions.list → (levels : List Interval)
      (tanks : List TankState) (links : List LinkState) (grid : Grid)
      → IsOutermostGrid project spread side time levels tanks links grid
      → IsGrid (with_data project nodes) time levels tanks links grid
  outermost-taken without levels tanks links grid outermost = record {
    junctions = junctions-of 0 project.junctions.list grid.junctions (recursion_from_All _ _ without)
        outermost.junctions;
    reservoirs = outermost.reservoirs ∙ sym (heads-taken (known_heads project spread time));
    tank_heads = outermost.tank_heads;
    links_are = outermost.links_are ∙ sym (links-alike project nodes tanks project.links.list links
        (count-within project spread time nodes ends-within));
  }
