-- At the node where one vector of heads exceeds another by most, more flows out under it.
use Rattle.std.proofs.Common.{◌≡◌, ℕ, zero, suc, ℤ, ◌-ℤ◌, ◌≤ℤ◌, subst, arith, Bool, true, false, ◌==◌, List}
use Rattle.std.proofs.Common.{[], ◌∷◌}
use Rattle.std.specs.Prelude.{Some, slice_get}
use Rattle.std.specs.List.{AllByRecursion}
use Rattle.std.proofs.lemmas.Int.{ints}
use Rattle.hyd_spec.specs.Law.{Law}
use Rattle.hyd_spec.specs.Assignment.{head_at, where_so}
use Rattle.hyd_spec_certificates.specs.EnclosingFunctions.{low, high}
use Rattle.hyd_spec_certificates.specs.PeriodNetwork.{GridLink, GridJunction}
use Rattle.hyd_spec_certificates.specs.NetOutflow.{net, outflow_low, outflow_high}
use Rattle.hyd_theorems_on_definitions.specs.SoundLawsAndGrids.{IsSoundLaw, IsSoundDemand}
use Rattle.hyd_lemmas.proofs.ListsOptionsAndResults.{same_item}
use Rattle.hyd_theorems_on_definitions.proofs.EachLaw.{IsLaw-each}
use Rattle.hyd_theorems_on_definitions.proofs.OutflowsRise.{AreRising-demand, AreRising-emitter}

-- ---- flows of links

-- a function of a law and a head difference that never falls as the difference rises
abbrev pub Rises : (Law → ℤ → ℤ) → Type 0
Rises f = (law : Law) → IsSoundLaw law → (c d : ℤ) → c ≤ℤ d → f law c ≤ℤ f law d

pub low-rises : Rises low
low-rises law sound = (IsLaw-each law sound).low_rises

pub high-rises : Rises high
high-rises law sound = (IsLaw-each law sound).high_rises

-- v exceeds u at no node by more than at node i
abbrev pub IsTop : List ℤ → List ℤ → ℕ → Type 0
IsTop v u i = (m : ℕ) → (head_at v m -ℤ head_at u m) ≤ℤ (head_at v i -ℤ head_at u i)

abbrev pub SoundLinks : List GridLink → Type 0
SoundLinks links = AllByRecursion (λ (link : GridLink). IsSoundLaw link.law) links

where-ordered : (b : Bool) (p q : ℤ) → p ≤ℤ q → where_so b p ≤ℤ where_so b q
where-ordered true p q le = le
where-ordered false p q le = omega (arith, ints)

-- at such a node more flows out under v
pub net-rises : (out into : Law → ℤ → ℤ) → Rises out → Rises into → (u v : List ℤ) (i : ℕ) → IsTop v u i
    → (links : List GridLink) → SoundLinks links → net out into u i links ≤ℤ net out into v i links
net-rises out into leaves enters u v i top [] sound = omega (arith, ints)
net-rises out into leaves enters u v i top (link ∷ links) sound =
    let a = where-ordered (link.from == i) (out link.law (head_at u i -ℤ head_at u link.to))
    (out link.law (head_at v i -ℤ head_at v link.to))
    (leaves link.law sound.0 (head_at u i -ℤ head_at u link.to) (head_at v i -ℤ head_at v link.to)
    (let t = top link.to in omega (arith, ints, t))) in
    let b = where-ordered (link.to == i) (into link.law (head_at v link.from -ℤ head_at v i))
    (into link.law (head_at u link.from -ℤ head_at u i))
    (enters link.law sound.0 (head_at v link.from -ℤ head_at v i) (head_at u link.from -ℤ head_at u i)
    (let t = top link.from in omega (arith, ints, t))) in
    let r = net-rises out into leaves enters u v i top links sound.1 in
    omega (arith, ints, a, b, r)

-- under one vector the low flows out less the high flows in are at most the high ones less the low ones
pub net-ordered : (u : List ℤ) (i : ℕ) (links : List GridLink) → SoundLinks links
    → net low high u i links ≤ℤ net high low u i links
net-ordered u i [] sound = omega (arith, ints)
net-ordered u i (link ∷ links) sound =
    let law = IsLaw-each link.law sound.0 in
    let a = where-ordered (link.from == i) (low link.law (head_at u i -ℤ head_at u link.to))
    (high link.law (head_at u i -ℤ head_at u link.to)) (law.ordered (head_at u i -ℤ head_at u link.to)) in
    let b = where-ordered (link.to == i) (low link.law (head_at u link.from -ℤ head_at u i))
    (high link.law (head_at u link.from -ℤ head_at u i)) (law.ordered (head_at u link.from -ℤ head_at u i)) in
    let r = net-ordered u i links sound.1 in
    omega (arith, ints, a, b, r)

-- ---- outflows

pub outflow-low-rises : (here : GridJunction) (h k : ℤ) → IsSoundDemand here.demand → h ≤ℤ k
    → outflow_low here h ≤ℤ outflow_low here k
outflow-low-rises here h k sound le =
    let a = (AreRising-demand here.demand sound).low_rises (h -ℤ here.elevation) (k -ℤ here.elevation)
    (omega (arith, ints, le)) in
    let b = (AreRising-emitter here.emitter).low_rises (h -ℤ here.elevation) (k -ℤ here.elevation)
    (omega (arith, ints, le)) in
    omega (arith, ints, a, b)

pub outflow-high-rises : (here : GridJunction) (h k : ℤ) → IsSoundDemand here.demand → h ≤ℤ k
    → outflow_high here h ≤ℤ outflow_high here k
outflow-high-rises here h k sound le =
    let a = (AreRising-demand here.demand sound).high_rises (h -ℤ here.elevation) (k -ℤ here.elevation)
    (omega (arith, ints, le)) in
    let b = (AreRising-emitter here.emitter).high_rises (h -ℤ here.elevation) (k -ℤ here.elevation)
    (omega (arith, ints, le)) in
    omega (arith, ints, a, b)

pub outflow-rises : (here : GridJunction) (h k : ℤ) → IsSoundDemand here.demand → h ≤ℤ k
    → outflow_low here h ≤ℤ outflow_high here k
outflow-rises here h k sound le =
    let a = outflow-low-rises here h k sound le in
    let b = (AreRising-demand here.demand sound).ordered (k -ℤ here.elevation) in
    let c = (AreRising-emitter here.emitter).ordered (k -ℤ here.elevation) in
    omega (arith, ints, a, b, c)

-- ---- an item of a list

pub demand-at : (js : List GridJunction) (i : ℕ) (here : GridJunction)
    → AllByRecursion (λ (j : GridJunction). IsSoundDemand j.demand) js → slice_get js i ≡ Some here
    → IsSoundDemand here.demand
demand-at [] i here all e = absurd (cc)
demand-at (j ∷ js) zero here all e = subst (λ (k : GridJunction). IsSoundDemand k.demand)
    (same_item GridJunction j here e) all.0
demand-at (j ∷ js) (suc i) here all e = demand-at js i here all.1 e
