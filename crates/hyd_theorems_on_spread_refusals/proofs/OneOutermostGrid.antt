-- A period has one outermost grid a side.
use Rattle.std.proofs.Common.{◌≡◌, ℕ, ◌^◌, ◌≤◌, ℤ, Bool, true, false, MatchBool, List, [], ◌∷◌, refl, sym, ap, subst}
use Rattle.std.proofs.Common.{◌∙◌}
use Rattle.std.specs.Prelude.{Option, Some, None, unsigned_abs}
use Rattle.std.specs.List.{AllZip}
use Rattle.std.specs.Coded.{le_prop}
use Rattle.hyd_spec.specs.ProgramTypes.{Project, Capacity, Decimal, Origin, Emitter, LinkState}
use Rattle.hyd_spec.specs.DemandsHeadsAndPumpLifts.{minimum_pressure, required_pressure}
use Rattle.hyd_spec.specs.Outflow.{is_pressure_driven}
use Rattle.hyd_spec.specs.declared.TankState.{TankState}
use Rattle.hyd_spec_certificates.specs.declared.Side.{Side}
use Rattle.hyd_spec_certificates.specs.declared.Side.TheVariants.{Upper, Lower}
use Rattle.hyd_spec_certificates.specs.EnclosingFunctions.{DemandLaw, Fixed, Driven}
use Rattle.hyd_spec_certificates.specs.PeriodNetwork.{Grid, GridJunction, IsDriven, IsDemandLaw}
use Rattle.hyd_spec_certificates.specs.Interval.{Interval}
use Rattle.hyd_spec_certificates.specs.RecordAndStanding.{Standing}
use Rattle.hyd_spec_certificates.specs.Decided.{links_at}
use Rattle.hyd_spec_spread.specs.Spreads.{Factors, Spread}
use Rattle.hyd_spec_spread.specs.IntervalsOfData.{KnownJunction, products, known_junctions}
use Rattle.hyd_spec_spread.specs.NetworksWithin.{coefficient_of, IsEmitterOf}
use Rattle.hyd_spec_spread.specs.OutermostGrids.{ReachesOver, IsOutermostEmitter, outermost_demand}
use Rattle.hyd_spec_spread.specs.OutermostGrids.{IsOutermostJunction, IsOutermostGrid}
use Rattle.hyd_spec_spread_runs.specs.OutermostPairs.{Pair}
use Rattle.hyd_spec_spread_runs.specs.RunsForSpreads.{ArePairAt}
use Rattle.hyd_lemmas.proofs.OneCapacity.{one_capacity, same-capacity}
use Rattle.hyd_theorems_on_spread.proofs.OutermostJunctions.{one-unit}

-- ---- emitters

-- a number of billionths has one decimal
same-decimal : (a b : Decimal) → a.nano ≡ b.nano → a ≡ b
same-decimal a b e =
    let ByNano : ℤ → Type 0 = λ n. (p : unsigned_abs n ≤ 10 ^ 21) → a ≡ record { nano = n; bounded = p } in
    let own : ByNano a.nano = λ p i. record { nano = a.nano; bounded = le_prop a.bounded p i } in
    subst ByNano e own b.bounded

-- a coefficient has one emitter in the unit of another one
one-emitter : (own : Origin) (nano : ℤ) (a b : Capacity) → IsEmitterOf own nano a → IsEmitterOf own nano b → a ≡ b
one-emitter own nano a b x y =
    let number = same-decimal x.coefficient y.coefficient (x.nano_is ∙ sym y.nano_is) in
    let unit = one-unit own x.own_coefficient y.own_coefficient x.unit y.unit x.own_is y.own_is in
    one_capacity a b (x.origin ∙ (λ i. Emitter (number i) (unit i)) ∙ sym y.origin) x.made y.made

one-reach : (factors : Factors) (own a b : Capacity) → ReachesOver factors own a → ReachesOver factors own b → a ≡ b
one-reach factors own a b x y =
    let ends = products factors (coefficient_of own.origin) in
    let least = one-emitter own.origin ends.lo x.least y.least x.is_least y.is_least in
    let greatest = one-emitter own.origin ends.hi x.greatest y.greatest x.is_greatest y.is_greatest in
    same-capacity a b (x.lower_end ∙ ap (λ (c : Capacity). c.lo) least ∙ sym y.lower_end)
    (x.upper_end ∙ ap (λ (c : Capacity). c.hi) greatest ∙ sym y.upper_end) (x.origin ∙ sym y.origin)

same-emitter : (factors : Factors) (own a b : Option Capacity) → IsOutermostEmitter factors own a
    → IsOutermostEmitter factors own b → a ≡ b
same-emitter factors None None None x y = refl
same-emitter factors None None (Some b) x y = absurd y
same-emitter factors None (Some a) b x y = absurd x
same-emitter factors (Some own) None b x y = absurd x
same-emitter factors (Some own) (Some a) None x y = absurd y
same-emitter factors (Some own) (Some a) (Some b) x y = ap Some (one-reach factors own a b x y)

module _ (project : Project) where
  -- ---- demands

  -- a demand has one law: the capacity of given numbers is one
  one-law : (demand : ℤ) (x y : DemandLaw) → IsDemandLaw project demand x → IsDemandLaw project demand y → x ≡ y
  one-law demand x y is other = by-case (is_pressure_driven project demand) is other
    where
      by-case : (driven : Bool) → MatchBool driven (IsDriven project demand x) (x ≡ Fixed demand)
          → MatchBool driven (IsDriven project demand y) (y ≡ Fixed demand) → x ≡ y
      by-case true p q =
          let same = one_capacity p.capacity q.capacity (p.origin ∙ sym q.origin) p.made q.made in
          p.is_law ∙ ap (λ (c : Capacity). Driven demand c (minimum_pressure project) (required_pressure project))
          same ∙ sym q.is_law
      by-case false p q = p ∙ sym q

  -- ---- junctions

  same-junction : (side : Side) (known : KnownJunction) (a b : GridJunction) → IsOutermostJunction project side known a
      → IsOutermostJunction project side known b → a ≡ b
  same-junction side known a b x y =
      let elevation = x.elevation ∙ sym y.elevation in
      let demand = one-law (outermost_demand side known) a.demand b.demand x.demand y.demand in
      let emitter = same-emitter known.factors known.emitter a.emitter b.emitter x.emitter y.emitter in
      λ i. record { elevation = elevation i; demand = demand i; emitter = emitter i }

  same-junctions : (side : Side) (known : List KnownJunction) (xs ys : List GridJunction)
      → AllZip (IsOutermostJunction project side) known xs
      → AllZip (IsOutermostJunction project side) known ys → xs ≡ ys
  same-junctions side [] [] [] x y = refl
  same-junctions side [] [] (b ∷ ys) x y = absurd y
  same-junctions side [] (a ∷ xs) ys x y = absurd x
  same-junctions side (k ∷ ks) [] ys x y = absurd x
  same-junctions side (k ∷ ks) (a ∷ xs) [] x y = absurd y
  same-junctions side (k ∷ ks) (a ∷ xs) (b ∷ ys) x y =
      let first = same-junction side k a b x.0 y.0 in let rest = same-junctions side ks xs ys x.1 y.1 in cc

  -- ---- grids

  pub one_outermost : (spread : Spread) (side : Side) (time : ℕ) (levels : List Interval) (tanks : List TankState)
      (links : List LinkState) (a b : Grid) → IsOutermostGrid project spread side time levels tanks links a
      → IsOutermostGrid project spread side time levels tanks links b → a ≡ b
  one_outermost spread side time levels tanks links a b x y =
      let junctions = same-junctions side (known_junctions project spread time) a.junctions b.junctions x.junctions
      y.junctions in
      let reservoirs = x.reservoirs ∙ sym y.reservoirs in
      let heads = x.tank_heads ∙ sym y.tank_heads in
      let ways = x.links_are ∙ sym y.links_are in
      λ i. record { junctions = junctions i; reservoirs = reservoirs i; tanks = heads i; links = ways i }

  -- the outermost grids of a standing are one pair
  pub one_pair : (spread : Spread) (standing : Standing) (a b : Pair) → ArePairAt project spread standing a
      → ArePairAt project spread standing b → a ≡ b
  one_pair spread standing a b x y =
      let upper = one_outermost spread Upper standing.time standing.levels standing.tanks (links_at project standing)
      a.upper b.upper (x Upper) (y Upper) in
      let lower = one_outermost spread Lower standing.time standing.levels standing.tanks (links_at project standing)
      a.lower b.lower (x Lower) (y Lower) in
      λ i. record { upper = upper i; lower = lower i }
