-- Laws, capacities and grids that the comparison of heads can use: losses and flows that rise, enclosures that hold,
-- knots and intervals in order.
use Rattle.std.specs.Prelude.{Some, slice_get, ℕ, ◌<◌, ◌≤◌, ℤ, ◌-ℤ◌, ◌≤ℤ◌, unsigned_abs, ⊤, List, All, AllPairs, ◌≡◌}
use Rattle.std.specs.Prelude.{pos}
use Rattle.std.specs.List.{AllByRecursion}
use Rattle.std.specs.Option.{IfSome}
use Rattle.hyd_num.specs.FileQuantity.{billionths}
use Rattle.hyd_num.specs.CapacityPairs.{IsMade}
use Rattle.hyd_spec_power_laws.specs.PowerCapacities.{IsMade as IsPowerMade}
use Rattle.hyd_net.specs.Curves.{Knot}
use Rattle.hyd_net.specs.NetworkRanges.{HasSizes}
use Rattle.hyd_net.specs.RoundedFileNumbers.{IsKindMade, IsStateMade}
use Rattle.hyd_spec.specs.ProgramTypes.{Project, LinkState, Origin, Pipe, Valve, Pump, Emitter, PressureDemand}
use Rattle.hyd_spec.specs.ProgramTypes.{Capacity, HazenWilliamsPipe}
use Rattle.hyd_spec_certificates.specs.Interval.{Interval}
use Rattle.hyd_spec_certificates.specs.PeriodNetwork.{Grid}
use Rattle.hyd_spec.specs.Scale.{at_scale}
use Rattle.hyd_spec_certificates.specs.EnclosingFunctions.{DemandLaw, Fixed, Driven}
use Rattle.hyd_spec.specs.CapacityEnclosure.{IsEnclosure}
use Rattle.hyd_spec.specs.Law.{Relation, Loss, Law, Shut, QuadraticLaw, LinearLaw, Lifted, ForwardOnly, ReverseOnly}
use Rattle.hyd_spec.specs.Law.{PowerLaw, Capped, Bent, Held}

-- A loss: a lesser flow loses no more, a greater one no less; a flow that loses at most some head is at most one that
-- loses at least that head; and each flow loses at least 0.
pub record IsLossLaw (at_most at_least : Loss) : Type 0 where
  pub falls : (S p q y : ℕ) → 0 < S → p ≤ q → at_most S q y → at_most S p y
  pub rises : (S p q y : ℕ) → 0 < S → p ≤ q → at_least S p y → at_least S q y
  pub consistent : (S p q y : ℕ) → 0 < S → at_most S p y → at_least S q y → p ≤ q
  pub without_head : (S q : ℕ) → 0 < S → at_least S q 0

-- The numbers behind a capacity that have to be above 0 for that.
abbrev pub HasPositiveNumbers : Origin → Type 0
HasPositiveNumbers (Pipe us length diameter roughness minor) =
    (0 < billionths length) × ((0 < billionths diameter) × (0 < billionths roughness))
HasPositiveNumbers (Valve diameter k us) = (0 < billionths diameter) × (0 < billionths k)
HasPositiveNumbers (Pump flow drop thirds unit) = 0 < unsigned_abs drop.nano
HasPositiveNumbers (Emitter coefficient unit) = ⊤
HasPositiveNumbers (PressureDemand demand minimum required us) = 0 < unsigned_abs (required.nano -ℤ minimum.nano)

-- The numbers of a pipe with Hazen-Williams losses that have to be above 0 for that.
abbrev pub HasPositivePipe : HazenWilliamsPipe → Type 0
HasPositivePipe pipe = (0 < billionths pipe.length) × (0 < billionths pipe.diameter)

-- A capacity that encloses the loss of such numbers.
pub record IsSoundCapacity (capacity : Capacity) : Type 0 where
  pub enclosure : IsEnclosure capacity
  pub numbers : HasPositiveNumbers capacity.origin

-- An exact law, as its two relations, with its enclosing functions. Neither function falls; at a head difference of at
-- least d ticks the exact flow is at least the low flow at d, at one of at most d ticks at most the high flow at d;
-- what the exact flow is at least is at most what it is at most, and both relations go on, the one downward, the other
-- upward.
pub record IsLaw (at_least at_most : Relation) (low high : ℤ → ℤ) : Type 0 where
  pub low_rises : (c d : ℤ) → c ≤ℤ d → low c ≤ℤ low d
  pub high_rises : (c d : ℤ) → c ≤ℤ d → high c ≤ℤ high d
  pub ordered : (d : ℤ) → low d ≤ℤ high d
  pub encloses_below : (S : ℕ) (d x : ℤ) → 0 < S → at_scale S d ≤ℤ x → at_least S x (at_scale S (low d))
  pub encloses_above : (S : ℕ) (d x : ℤ) → 0 < S → x ≤ℤ at_scale S d → at_most S x (at_scale S (high d))
  pub consistent : (S : ℕ) (x a b : ℤ) → 0 < S → at_least S x a → at_most S x b → a ≤ℤ b
  pub downward : (S : ℕ) (x a b : ℤ) → 0 < S → b ≤ℤ a → at_least S x a → at_least S x b
  pub upward : (S : ℕ) (x a b : ℤ) → 0 < S → a ≤ℤ b → at_most S x a → at_most S x b

-- Knots in order: neither their places nor their values fall.
abbrev pub AreInOrder : List Knot → Type 0
AreInOrder knots = AllPairs (λ (a b : Knot). (a.place ≤ℤ b.place) × (a.value ≤ℤ b.value)) knots

-- Each capacity in a law is sound, or made of its pipe's numbers where it is one by powers, each lift has a denominator
-- above 0, the knots of straight lines are in order, and a least flow is at most the greatest one.
abbrev pub IsSoundLaw : Law → Type 0
IsSoundLaw Shut = ⊤
IsSoundLaw (QuadraticLaw capacity) = IsSoundCapacity capacity
IsSoundLaw (PowerLaw capacity) = IsPowerMade capacity
IsSoundLaw LinearLaw = ⊤
IsSoundLaw (Lifted lift law) = (0 < lift.den) × IsSoundLaw law
IsSoundLaw (ForwardOnly law) = IsSoundLaw law
IsSoundLaw (ReverseOnly law) = IsSoundLaw law
IsSoundLaw (Capped setting law) = IsSoundLaw law
IsSoundLaw (Bent knots) = AreInOrder knots
IsSoundLaw (Held least greatest law) = (least ≤ℤ greatest) × IsSoundLaw law

-- Each law of a link is sound, and so is the capacity of each emitter.
pub record IsSoundGrid (grid : Grid) : Type 0 where
  pub links : AllByRecursion (λ link. IsSoundLaw link.law) grid.links
  pub emitters : AllByRecursion (λ junction. IfSome junction.emitter IsSoundCapacity) grid.junctions

-- The capacities of emitters, of links and of the states that links are in are made of the file's numbers, and the
-- quantities of links are in range, the points of their curves among them.
pub record AreCapacitiesMade (project : Project) (links : List LinkState) : Type 0 where
  pub emitters : All (λ j. IfSome j.emitter IsMade) project.junctions.list
  pub kinds : All (λ l. IsKindMade project.options.unit l.kind) project.links.list
  pub sizes : All (λ l. HasSizes project.options.unit project.patterns.list project.bends.list l.kind)
      project.links.list
  pub states : All (IsStateMade project.options.unit) links

-- The enclosing functions of an outflow: neither falls as the pressure rises, and the lower is at most the higher.
pub record AreRising (low high : ℤ → ℤ) : Type 0 where
  pub low_rises : (c d : ℤ) → c ≤ℤ d → low c ≤ℤ low d
  pub high_rises : (c d : ℤ) → c ≤ℤ d → high c ≤ℤ high d
  pub ordered : (d : ℤ) → low d ≤ℤ high d

-- A demand that is driven by pressure is at least 0, and its pressures have denominators above 0.
abbrev pub IsSoundDemand : DemandLaw → Type 0
IsSoundDemand (Fixed demand) = ⊤
IsSoundDemand (Driven demand capacity minimum required) = (pos 0 ≤ℤ demand) × ((0 < minimum.den) × (0 < required.den))

-- A grid of which every law is sound: of links, emitters and demands. Sweeps ask for no more.
pub record IsSteady (grid : Grid) : Type 0 where
  pub sound : IsSoundGrid grid
  pub demands : AllByRecursion (λ junction. IsSoundDemand junction.demand) grid.junctions

-- Each tank's interval is in order.
abbrev pub TanksInOrder : Grid → Type 0
TanksInOrder grid = (k : ℕ) (x : Interval) → slice_get grid.tanks k ≡ Some x → x.lo ≤ℤ x.hi
