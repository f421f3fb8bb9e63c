-- The outermost grids of a spread are an ordered pair.
use Rattle.std.proofs.Common.{ℕ, suc, ℤ, ◌≤ℤ◌, refl, sym, subst, ◌∙◌, arith, List, [], ◌∷◌, map}
use Rattle.std.specs.List.{AllZip, AllByRecursion}
use Rattle.std.proofs.lemmas.Int.{ints}
use Rattle.hyd_spec.specs.ProgramTypes.{Project, Junction, Reservoir}
use Rattle.hyd_spec.specs.Lists.{map_from}
use Rattle.hyd_spec.specs.DemandsHeadsAndPumpLifts.{demand_of}
use Rattle.hyd_spec_certificates.specs.declared.Side.TheVariants.{Upper, Lower}
use Rattle.hyd_spec_certificates.specs.Interval.{exactly}
use Rattle.hyd_spec_certificates.specs.PeriodNetwork.{GridJunction, end_on}
use Rattle.hyd_spec_certificates.specs.RecordAndStanding.{Standing}
use Rattle.hyd_spec_spread.specs.Spreads.{Spread, IsSpread, demand_factors}
use Rattle.hyd_spec_spread.specs.IntervalsOfData.{KnownJunction, known_junction, known_junctions, known_head}
use Rattle.hyd_spec_spread.specs.IntervalsOfData.{known_heads}
use Rattle.hyd_spec_spread.specs.OutermostGrids.{IsOutermostJunction}
use Rattle.hyd_spec_spread_runs.specs.OutermostPairs.{Pair}
use Rattle.hyd_spec_spread_runs.specs.RunsForSpreads.{ArePairAt}
use Rattle.hyd_theorems_on_spread.specs.GridsBeyondOthers.{TakesNoMore}
use Rattle.hyd_theorems_on_spread.proofs.ProductsInOrder.{products-hold}
use Rattle.hyd_theorems_on_spread.proofs.OutermostJunctions.{junction-inside}
use Rattle.hyd_spread_bounds.specs.BothSides.{IsOrderedPair, StandsNoLower}

-- ---- junctions

-- the least demand of a junction is at most the greatest one
abbrev IsDemandInOrder : KnownJunction → Type 0
IsDemandInOrder known = known.demand.lo ≤ℤ known.demand.hi

demands-in-order : (project : Project) (spread : Spread) → IsSpread project spread → (time from : ℕ)
    (js : List Junction) → AllByRecursion IsDemandInOrder (map_from (known_junction project spread time) from js)
demands-in-order project spread is time from [] = tt
demands-in-order project spread is time from (j ∷ js) = (
  (let h = products-hold (demand_factors spread from) (is.demands from) (demand_of project time j) in
      let l = h.low in let u = h.high in omega (arith, ints, l, u)),
  demands-in-order project spread is time (suc from) js,
)

-- what is known of a junction whose demand is the greatest one
abbrev greatest_alone : KnownJunction → KnownJunction
greatest_alone known = record known { demand = exactly known.demand.hi }

-- the junction of the LOWER side is the one of the UPPER side of the greatest demand alone
takes-no-more : (project : Project) (known : KnownJunction) (x y : GridJunction) → IsDemandInOrder known
    → IsOutermostJunction project Upper known x → IsOutermostJunction project Lower known y → TakesNoMore x y
takes-no-more project known x y order above below =
    junction-inside project Upper known x (greatest_alone known) y above
    (record {
      elevation = refl;
      demand = record { low = order; high = omega (arith, ints) };
      emitter = refl;
      factors = record { least = omega arith; greatest = omega arith };
    })
    (record { elevation = below.elevation; demand = below.demand; emitter = below.emitter })

all-take-no-more : (project : Project) (known : List KnownJunction) (xs ys : List GridJunction)
    → AllByRecursion IsDemandInOrder known → AllZip (IsOutermostJunction project Upper) known xs
    → AllZip (IsOutermostJunction project Lower) known ys → AllZip TakesNoMore xs ys
all-take-no-more project [] [] [] order above below = tt
all-take-no-more project [] [] (y ∷ ys) order above below = absurd below
all-take-no-more project [] (x ∷ xs) ys order above below = absurd above
all-take-no-more project (k ∷ known) [] ys order above below = absurd above
all-take-no-more project (k ∷ known) (x ∷ xs) [] order above below = absurd below
all-take-no-more project (k ∷ known) (x ∷ xs) (y ∷ ys) order above below =
    (takes-no-more project k x y order.0 above.0 below.0, all-take-no-more project known xs ys order.1 above.1 below.1)

-- ---- reservoirs

heads-in-order : (project : Project) (spread : Spread) → IsSpread project spread → (time from : ℕ)
    (rs : List Reservoir)
    → AllZip StandsNoLower (map (end_on Upper) (map_from (known_head project spread time) from rs))
    (map (end_on Lower) (map_from (known_head project spread time) from rs))
heads-in-order project spread is time from [] = tt
heads-in-order project spread is time from (r ∷ rs) = (
  (let l = (is.heads from).low in let u = (is.heads from).high in omega (arith, ints, l, u)),
  heads-in-order project spread is time (suc from) rs,
)

-- ---- both grids

pub ordered-pair : (project : Project) (spread : Spread) → IsSpread project spread → (standing : Standing)
    (pair : Pair) → ArePairAt project spread standing pair → IsOrderedPair pair
ordered-pair project spread is standing pair are =
    let above = are Upper in
    let below = are Lower in
    let known = known_heads project spread standing.time in
    record {
      junctions = all-take-no-more project (known_junctions project spread standing.time) pair.upper.junctions
          pair.lower.junctions (demands-in-order project spread is standing.time 0 project.junctions.list)
          above.junctions below.junctions;
      reservoirs = subst (λ (hs : List ℤ). AllZip StandsNoLower hs pair.lower.reservoirs) (sym above.reservoirs)
          (subst (λ (hs : List ℤ). AllZip StandsNoLower (map (end_on Upper) known) hs) (sym below.reservoirs)
          (heads-in-order project spread is standing.time 0 project.reservoirs.list));
      tanks = below.tank_heads ∙ sym above.tank_heads;
      links = below.links_are ∙ sym above.links_are;
    }
