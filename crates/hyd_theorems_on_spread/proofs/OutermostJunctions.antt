-- The junctions of the outermost grid of a side against those of a network within a spread, and against those of the
-- outermost grid of a spread inside it.
use Rattle.std.proofs.Common.{◌≡◌, ℕ, ◌*◌, ◌≤◌, ℤ, ◌-ℤ◌, ◌≤ℤ◌, refl, sym, ap, subst, ◌∙◌, arith, Bool, true, false}
use Rattle.std.specs.Prelude.{Option, Some, None, MatchBool, ⊤}
use Rattle.std.proofs.lemmas.Int.{ints}
use Rattle.hyd_num.specs.BinaryNumbers.{numerator, denominator}
use Rattle.hyd_num.specs.declared.binary.Scaled.{Scaled}
use Rattle.hyd_spec.specs.ProgramTypes.{Project, Junction, Capacity, Origin, Emitter, FlowUnit, Decimal}
use Rattle.hyd_spec.specs.DemandsHeadsAndPumpLifts.{demand_of}
use Rattle.hyd_spec.specs.Outflow.{is_pressure_driven}
use Rattle.hyd_spec_certificates.specs.declared.Side.{Side}
use Rattle.hyd_spec_certificates.specs.declared.Side.TheVariants.{Upper, Lower}
use Rattle.hyd_spec_certificates.specs.EnclosingFunctions.{DemandLaw, Fixed, emitter_low, emitter_high}
use Rattle.hyd_spec_certificates.specs.PeriodNetwork.{GridJunction, IsDriven, IsDemandLaw, IsJunctionOf}
use Rattle.hyd_spec_spread.specs.Spreads.{Factors, IsNarrower, AreAmong}
use Rattle.hyd_spec_spread.specs.IntervalsOfData.{KnownJunction, products}
use Rattle.hyd_spec_spread.specs.NetworksWithin.{NodeData, with_data, coefficient_of, IsEmitterOf, IsEmitterWithin}
use Rattle.hyd_spec_spread.specs.NetworksWithin.{EmitterIsWithin, IsJunctionWithin}
use Rattle.hyd_spec_spread.specs.OutermostGrids.{ReachesOver, IsOutermostEmitter, IsOutermostJunction}
use Rattle.hyd_theorems_on_spread.specs.GridsBeyondOthers.{TakesNoMore, TakesNoLess}
use Rattle.hyd_theorems_on_spread.proofs.CapacitiesInOrder.{IsLesser, lesser-emitter}
use Rattle.hyd_theorems_on_spread.proofs.OutflowsInOrder.{Covers, covers-low, covers-high, AsksNoMore, asks-no-more}
use Rattle.hyd_theorems_on_spread.proofs.ProductsInOrder.{products-inside}

-- ---- emitters

unit_in : FlowUnit → Origin → FlowUnit
unit_in unit (Emitter coefficient own) = own
unit_in unit other = unit

pub one-unit : (own : Origin) (c d : Decimal) (u v : FlowUnit) → own ≡ Emitter c u → own ≡ Emitter d v → u ≡ v
unfolding unit_in
one-unit own c d u v e f = ap (unit_in u) (sym e ∙ f)

pub emitters-in-order : (own : Origin) (m n : ℤ) (a b : Capacity) → IsEmitterOf own m a → IsEmitterOf own n b → m ≤ℤ n
    → IsLesser a b
emitters-in-order own m n a b x y le =
    let same = one-unit own x.own_coefficient y.own_coefficient x.unit y.unit x.own_is y.own_is in
    lesser-emitter a b x.coefficient y.coefficient y.unit (x.origin ∙ ap (Emitter x.coefficient) same) y.origin x.made
    y.made (let e = x.nano_is in let f = y.nano_is in omega (arith, ints, e, f, le))

-- between a least and a greatest emitter
covers-between : (wide inner least greatest low high : Capacity) → wide.lo ≡ least.lo → wide.hi ≡ greatest.hi
    → inner.lo ≡ low.lo → inner.hi ≡ high.hi → IsLesser least low → IsLesser high greatest → Covers wide inner
covers-between wide inner least greatest low high wl wh il ih below above = record {
  low = subst (λ (s : Scaled). numerator s * denominator inner.lo ≤ numerator inner.lo * denominator s) (sym wl)
      (subst (λ (s : Scaled). numerator least.lo * denominator s ≤ numerator s * denominator least.lo) (sym il)
      below.low);
  high = subst (λ (s : Scaled). numerator inner.hi * denominator s ≤ numerator s * denominator inner.hi) (sym wh)
      (subst (λ (s : Scaled). numerator s * denominator greatest.hi ≤ numerator greatest.hi * denominator s) (sym ih)
      above.high);
}

pub reaches-covers : (factors : Factors) (own wide other : Capacity) → ReachesOver factors own wide
    → IsEmitterWithin factors own other → Covers wide other
reaches-covers factors own wide other r w =
    covers-between wide other r.least r.greatest other other r.lower_end r.upper_end refl refl
    (emitters-in-order own.origin (products factors (coefficient_of own.origin)).lo w.nano r.least other r.is_least
    w.is_emitter w.within.low)
    (emitters-in-order own.origin w.nano (products factors (coefficient_of own.origin)).hi other r.greatest
    w.is_emitter r.is_greatest w.within.high)

reaches-inside : (outer inner : Factors) (own wide narrow : Capacity) → AreAmong inner outer
    → ReachesOver outer own wide → ReachesOver inner own narrow → Covers wide narrow
reaches-inside outer inner own wide narrow among r s =
    let inside : IsNarrower (products inner (coefficient_of own.origin)) (products outer (coefficient_of own.origin)) =
    products-inside inner outer among (coefficient_of own.origin) in
    covers-between wide narrow r.least r.greatest s.least s.greatest r.lower_end r.upper_end s.lower_end s.upper_end
    (emitters-in-order own.origin (products outer (coefficient_of own.origin)).lo
    (products inner (coefficient_of own.origin)).lo r.least s.least r.is_least s.is_least inside.low)
    (emitters-in-order own.origin (products inner (coefficient_of own.origin)).hi
    (products outer (coefficient_of own.origin)).hi s.greatest r.greatest s.is_greatest r.is_greatest inside.high)

-- an emitter where there is one, which reaches further
unfoldable pub CoversAll : Option Capacity → Option Capacity → Type 0
CoversAll None None = ⊤
CoversAll None (Some b) = ⊥
CoversAll (Some a) None = ⊥
CoversAll (Some a) (Some b) = Covers a b

pub emitter-low-covers : (e f : Option Capacity) → CoversAll e f → (p : ℤ) → emitter_low e p ≤ℤ emitter_low f p
unfolding CoversAll
emitter-low-covers None None c p = omega (arith, ints)
emitter-low-covers None (Some b) c p = absurd c
emitter-low-covers (Some a) None c p = absurd c
emitter-low-covers (Some a) (Some b) c p = covers-low a b c p

pub emitter-high-covers : (e f : Option Capacity) → CoversAll e f → (p : ℤ) → emitter_high f p ≤ℤ emitter_high e p
unfolding CoversAll
emitter-high-covers None None c p = omega (arith, ints)
emitter-high-covers None (Some b) c p = absurd c
emitter-high-covers (Some a) None c p = absurd c
emitter-high-covers (Some a) (Some b) c p = covers-high a b c p

pub emitter-within : (factors : Factors) (own wide other : Option Capacity) → IsOutermostEmitter factors own wide
    → EmitterIsWithin factors own other → CoversAll wide other
unfolding CoversAll
emitter-within factors None None None w i = tt
emitter-within factors None None (Some b) w i = absurd i
emitter-within factors None (Some a) other w i = absurd w
emitter-within factors (Some own) None other w i = absurd w
emitter-within factors (Some own) (Some a) None w i = absurd i
emitter-within factors (Some own) (Some a) (Some b) w i = reaches-covers factors own a b w i

emitter-inside : (outer inner : Factors) (own wide narrow : Option Capacity) → AreAmong inner outer
    → IsOutermostEmitter outer own wide → IsOutermostEmitter inner own narrow → CoversAll wide narrow
unfolding CoversAll
emitter-inside outer inner None None None among w n = tt
emitter-inside outer inner None None (Some b) among w n = absurd n
emitter-inside outer inner None (Some a) narrow among w n = absurd w
emitter-inside outer inner (Some own) None narrow among w n = absurd w
emitter-inside outer inner (Some own) (Some a) None among w n = absurd n
emitter-inside outer inner (Some own) (Some a) (Some b) among w n = reaches-inside outer inner own a b among w n

-- ---- junctions

-- what is asked of two junctions on a side
abbrev pub TakesOn : Side → GridJunction → GridJunction → Type 0
TakesOn Upper outer inner = TakesNoMore outer inner
TakesOn Lower outer inner = TakesNoLess outer inner

takes-no-more : (x y : GridJunction) → x.elevation ≡ y.elevation → AsksNoMore x.demand y.demand
    → CoversAll x.emitter y.emitter → TakesNoMore x y
takes-no-more x y high asks covers = record {
  takes = λ h.
      let d = asks.low (h -ℤ y.elevation) in
      let e = emitter-low-covers x.emitter y.emitter covers (h -ℤ y.elevation) in
      rw high (omega (arith, ints, d, e));
}

takes-no-less : (x y : GridJunction) → x.elevation ≡ y.elevation → AsksNoMore y.demand x.demand
    → CoversAll x.emitter y.emitter → TakesNoLess x y
takes-no-less x y high asks covers = record {
  takes = λ h.
      let d = asks.high (h -ℤ y.elevation) in
      let e = emitter-high-covers x.emitter y.emitter covers (h -ℤ y.elevation) in
      rw high (omega (arith, ints, d, e));
}

-- ---- laws of demands are alike in networks that differ in their data alone

driven-alike : (project : Project) (nodes : NodeData) (demand : ℤ) (law : DemandLaw)
    → IsDriven (with_data project nodes) demand law → IsDriven project demand law
driven-alike project nodes demand law is =
    record { capacity = is.capacity; origin = is.origin; made = is.made; is_law = is.is_law }

pub law-alike : (project : Project) (nodes : NodeData) (demand : ℤ) (law : DemandLaw)
    → IsDemandLaw (with_data project nodes) demand law → IsDemandLaw project demand law
law-alike project nodes demand law is = by-case (is_pressure_driven project demand) is
  where
    by-case : (b : Bool) → MatchBool b (IsDriven (with_data project nodes) demand law) (law ≡ Fixed demand)
        → MatchBool b (IsDriven project demand law) (law ≡ Fixed demand)
    by-case true x = driven-alike project nodes demand law x
    by-case false x = x

driven-there : (project : Project) (nodes : NodeData) (demand : ℤ) (law : DemandLaw)
    → IsDriven project demand law → IsDriven (with_data project nodes) demand law
driven-there project nodes demand law is =
    record { capacity = is.capacity; origin = is.origin; made = is.made; is_law = is.is_law }

pub law-there : (project : Project) (nodes : NodeData) (demand : ℤ) (law : DemandLaw)
    → IsDemandLaw project demand law → IsDemandLaw (with_data project nodes) demand law
law-there project nodes demand law is = by-case (is_pressure_driven project demand) is
  where
    by-case : (b : Bool) → MatchBool b (IsDriven project demand law) (law ≡ Fixed demand)
        → MatchBool b (IsDriven (with_data project nodes) demand law) (law ≡ Fixed demand)
    by-case true x = driven-there project nodes demand law x
    by-case false x = x

-- ---- outermost junctions

-- against the junction of a network within
pub junction-beyond : (project : Project) (nodes : NodeData) (time : ℕ) (side : Side) (known : KnownJunction)
    (x : GridJunction) (junction : Junction) (y : GridJunction) → IsOutermostJunction project side known x
    → IsJunctionWithin (with_data project nodes) time known junction
    → IsJunctionOf (with_data project nodes) time junction y → TakesOn side x y
junction-beyond project nodes time Upper known x junction y o w i =
    takes-no-more x y (o.elevation ∙ sym w.elevation ∙ sym i.elevation)
    (asks-no-more project known.demand.lo (demand_of (with_data project nodes) time junction) w.demand.low x.demand
    y.demand o.demand (law-alike project nodes (demand_of (with_data project nodes) time junction) y.demand i.demand))
    (subst (λ (e : Option Capacity). CoversAll x.emitter e) (sym i.emitter)
    (emitter-within known.factors known.emitter x.emitter junction.emitter o.emitter w.emitter))
junction-beyond project nodes time Lower known x junction y o w i =
    takes-no-less x y (o.elevation ∙ sym w.elevation ∙ sym i.elevation)
    (asks-no-more project (demand_of (with_data project nodes) time junction) known.demand.hi w.demand.high y.demand
    x.demand (law-alike project nodes (demand_of (with_data project nodes) time junction) y.demand i.demand) o.demand)
    (subst (λ (e : Option Capacity). CoversAll x.emitter e) (sym i.emitter)
    (emitter-within known.factors known.emitter x.emitter junction.emitter o.emitter w.emitter))

-- what two spreads leave of one junction, the second less open
pub record IsNarrowerJunction (outer inner : KnownJunction) : Type 0 where
  pub elevation : inner.elevation ≡ outer.elevation
  pub demand : IsNarrower inner.demand outer.demand
  pub emitter : inner.emitter ≡ outer.emitter
  pub factors : AreAmong inner.factors outer.factors

pub junction-inside : (project : Project) (side : Side) (outer : KnownJunction) (x : GridJunction)
    (inner : KnownJunction) (y : GridJunction) → IsOutermostJunction project side outer x
    → IsNarrowerJunction outer inner → IsOutermostJunction project side inner y → TakesOn side x y
junction-inside project Upper outer x inner y o n i =
    takes-no-more x y (o.elevation ∙ sym n.elevation ∙ sym i.elevation)
    (asks-no-more project outer.demand.lo inner.demand.lo n.demand.low x.demand y.demand o.demand i.demand)
    (emitter-inside outer.factors inner.factors outer.emitter x.emitter y.emitter n.factors o.emitter
    (subst (λ (e : Option Capacity). IsOutermostEmitter inner.factors e y.emitter) n.emitter i.emitter))
junction-inside project Lower outer x inner y o n i =
    takes-no-less x y (o.elevation ∙ sym n.elevation ∙ sym i.elevation)
    (asks-no-more project inner.demand.hi outer.demand.hi n.demand.high y.demand x.demand i.demand o.demand)
    (emitter-inside outer.factors inner.factors outer.emitter x.emitter y.emitter n.factors o.emitter
    (subst (λ (e : Option Capacity). IsOutermostEmitter inner.factors e y.emitter) n.emitter i.emitter))
