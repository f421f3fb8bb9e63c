-- The outermost grid of a side lies beyond the grid of each network within, and beyond the outermost grid of each
-- spread inside.
use Rattle.std.proofs.Common.{ℕ, zero, suc, ℤ, ◌≤ℤ◌, refl, sym, ◌∙◌, arith, List, [], ◌∷◌, ◌++◌}
use Rattle.std.specs.Prelude.{map}
use Rattle.std.specs.List.{AllZip}
use Rattle.std.proofs.lemmas.Int.{ints}
use Rattle.hyd_spec.specs.ProgramTypes.{Project, Junction, Reservoir, Tank, LinkState}
use Rattle.hyd_spec.specs.declared.TankState.{TankState}
use Rattle.hyd_spec.specs.Assignment.{head_at}
use Rattle.hyd_spec.specs.Lists.{map_from}
use Rattle.hyd_spec.specs.DemandsHeadsAndPumpLifts.{demand_of, reservoir_head}
use Rattle.hyd_spec_certificates.specs.declared.Problem.{Problem}
use Rattle.hyd_spec_certificates.specs.declared.Problem.TheVariants.{Main}
use Rattle.hyd_spec_certificates.specs.declared.Side.{Side}
use Rattle.hyd_spec_certificates.specs.declared.Side.TheVariants.{Upper, Lower}
use Rattle.hyd_spec_certificates.specs.Interval.{Interval}
use Rattle.hyd_spec_certificates.specs.PeriodNetwork.{Grid, IsGrid, IsJunctionOf}
use Rattle.hyd_spec_certificates.specs.PeriodNetwork.{tank_intervals, end_on, tank_side}
use Rattle.hyd_spec_spread.specs.Spreads.{Spread, IsInside, demand_factors}
use Rattle.hyd_spec_spread.specs.IntervalsOfData.{known_junction, known_junctions, known_head, known_heads}
use Rattle.hyd_spec_spread.specs.NetworksWithin.{NodeData, with_data, IsJunctionWithin, HasHeadWithin, IsWithin}
use Rattle.hyd_spec_spread.specs.OutermostGrids.{IsOutermostJunction, IsOutermostGrid}
use Rattle.hyd_theorems_on_spread.specs.GridsBeyondOthers.{TakesNoMore, TakesNoLess, IsBeyondGrid, AreNarrower}
use Rattle.hyd_theorems_on_spread.proofs.LinksWithin.{links-alike, count-within}
use Rattle.hyd_theorems_on_spread.proofs.ProductsInOrder.{products-inside}
use Rattle.hyd_theorems_on_spread.proofs.OutermostJunctions.{junction-beyond, IsNarrowerJunction}
use Rattle.hyd_theorems_on_spread.proofs.OutermostJunctions.{junction-inside}
use Rattle.hyd_theorems_on_spread.proofs.ZippedLists.{zip-through}

-- ---- fixed heads

heads-above : (known : List Interval) (hs ps rs : List ℤ) → AllZip (λ (x : Interval) (h : ℤ). h ≤ℤ x.hi) known hs
    → ((m : ℕ) → head_at ps m ≤ℤ head_at rs m) → (m : ℕ)
    → head_at (hs ++ ps) m ≤ℤ head_at (map (end_on Upper) known ++ rs) m
heads-above [] [] ps rs all rest m = rest m
heads-above [] (h ∷ hs) ps rs all rest m = absurd all
heads-above (x ∷ known) [] ps rs all rest m = absurd all
heads-above (x ∷ known) (h ∷ hs) ps rs all rest zero = all.0
heads-above (x ∷ known) (h ∷ hs) ps rs all rest (suc m) = heads-above known hs ps rs all.1 rest m

heads-below : (known : List Interval) (hs ps rs : List ℤ) → AllZip (λ (x : Interval) (h : ℤ). x.lo ≤ℤ h) known hs
    → ((m : ℕ) → head_at rs m ≤ℤ head_at ps m) → (m : ℕ)
    → head_at (map (end_on Lower) known ++ rs) m ≤ℤ head_at (hs ++ ps) m
heads-below [] [] ps rs all rest m = rest m
heads-below [] (h ∷ hs) ps rs all rest m = absurd all
heads-below (x ∷ known) [] ps rs all rest m = absurd all
heads-below (x ∷ known) (h ∷ hs) ps rs all rest zero = all.0
heads-below (x ∷ known) (h ∷ hs) ps rs all rest (suc m) = heads-below known hs ps rs all.1 rest m

pub within-high : (network : Project) (time : ℕ) (known : List Interval) (rs : List Reservoir)
    → AllZip (HasHeadWithin network time) known rs
    → AllZip (λ (x : Interval) (h : ℤ). h ≤ℤ x.hi) known (map (reservoir_head network time) rs)
within-high network time [] [] all = tt
within-high network time [] (r ∷ rs) all = absurd all
within-high network time (x ∷ known) [] all = absurd all
within-high network time (x ∷ known) (r ∷ rs) all = (all.0.high, within-high network time known rs all.1)

pub within-low : (network : Project) (time : ℕ) (known : List Interval) (rs : List Reservoir)
    → AllZip (HasHeadWithin network time) known rs
    → AllZip (λ (x : Interval) (h : ℤ). x.lo ≤ℤ h) known (map (reservoir_head network time) rs)
within-low network time [] [] all = tt
within-low network time [] (r ∷ rs) all = absurd all
within-low network time (x ∷ known) [] all = absurd all
within-low network time (x ∷ known) (r ∷ rs) all = (all.0.low, within-low network time known rs all.1)

itself : (xs : List ℤ) (m : ℕ) → head_at xs m ≤ℤ head_at xs m
itself xs m = omega (arith, ints)

-- ---- the grid of a network within

pub beyond-network : (project : Project) (spread : Spread) (time : ℕ) (levels : List Interval) (tanks : List TankState)
    (links : List LinkState) (problem : Problem) (side : Side) (nodes : NodeData) (outer inner : Grid)
    → IsOutermostGrid project spread side time levels tanks links outer → IsWithin project spread time nodes
    → IsGrid (with_data project nodes) time levels tanks links inner → IsBeyondGrid side problem outer inner
beyond-network project spread time levels tanks links problem Upper nodes outer inner o w i = record {
  junctions = zip-through (IsOutermostJunction project Upper) (IsJunctionWithin (with_data project nodes) time)
      (IsJunctionOf (with_data project nodes) time) TakesNoMore
      (λ k x j y. junction-beyond project nodes time Upper k x j y) (known_junctions project spread time)
      outer.junctions nodes.junctions.list inner.junctions o.junctions w.junctions i.junctions;
  links = i.links_are ∙ links-alike project nodes tanks project.links.list links
      (count-within project spread time nodes w)
      ∙ sym o.links_are;
  fixed = λ m. rw (o.reservoirs, i.reservoirs, o.tank_heads, i.tank_heads)
      (heads-above (known_heads project spread time)
      (map (reservoir_head (with_data project nodes) time) nodes.reservoirs.list) _ _
      (within-high (with_data project nodes) time (known_heads project spread time) nodes.reservoirs.list w.reservoirs)
      (itself _) m);
}
beyond-network project spread time levels tanks links problem Lower nodes outer inner o w i = record {
  junctions = zip-through (IsOutermostJunction project Lower) (IsJunctionWithin (with_data project nodes) time)
      (IsJunctionOf (with_data project nodes) time) TakesNoLess
      (λ k x j y. junction-beyond project nodes time Lower k x j y) (known_junctions project spread time)
      outer.junctions nodes.junctions.list inner.junctions o.junctions w.junctions i.junctions;
  links = i.links_are ∙ links-alike project nodes tanks project.links.list links
      (count-within project spread time nodes w)
      ∙ sym o.links_are;
  fixed = λ m. rw (o.reservoirs, i.reservoirs, o.tank_heads, i.tank_heads)
      (heads-below (known_heads project spread time)
      (map (reservoir_head (with_data project nodes) time) nodes.reservoirs.list) _ _
      (within-low (with_data project nodes) time (known_heads project spread time) nodes.reservoirs.list w.reservoirs)
      (itself _) m);
}

-- ---- a spread inside

junctions-inside : (project : Project) (inner outer : Spread) (time : ℕ) → IsInside project inner outer → (from : ℕ)
    (js : List Junction) → AllZip IsNarrowerJunction (map_from (known_junction project outer time) from js)
    (map_from (known_junction project inner time) from js)
junctions-inside project inner outer time inside from [] = tt
junctions-inside project inner outer time inside from (j ∷ js) = (
  record {
    elevation = refl;
    demand = products-inside (demand_factors inner from) (demand_factors outer from) (inside.demands from)
        (demand_of project time j);
    emitter = refl;
    factors = inside.emitters from;
  },
  junctions-inside project inner outer time inside (suc from) js,
)

heads-inside-high : (project : Project) (inner outer : Spread) (time : ℕ) → IsInside project inner outer → (from : ℕ)
    (rs : List Reservoir) → AllZip (λ (x : Interval) (h : ℤ). h ≤ℤ x.hi) (map_from (known_head project outer time) from
    rs) (map (end_on Upper) (map_from (known_head project inner time) from rs))
heads-inside-high project inner outer time inside from [] = tt
heads-inside-high project inner outer time inside from (r ∷ rs) = (
  (let l = (inside.heads from).high in omega (arith, ints, l)),
  heads-inside-high project inner outer time inside (suc from) rs,
)

heads-inside-low : (project : Project) (inner outer : Spread) (time : ℕ) → IsInside project inner outer → (from : ℕ)
    (rs : List Reservoir) → AllZip (λ (x : Interval) (h : ℤ). x.lo ≤ℤ h) (map_from (known_head project outer time) from
    rs) (map (end_on Lower) (map_from (known_head project inner time) from rs))
heads-inside-low project inner outer time inside from [] = tt
heads-inside-low project inner outer time inside from (r ∷ rs) = (
  (let l = (inside.heads from).low in omega (arith, ints, l)),
  heads-inside-low project inner outer time inside (suc from) rs,
)

-- with the same levels, in each problem
pub beyond-spread : (project : Project) (inner outer : Spread) (time : ℕ) (levels : List Interval)
    (tanks : List TankState) (links : List LinkState) (problem : Problem) (side : Side) (far near : Grid)
    → IsInside project inner outer → IsOutermostGrid project outer side time levels tanks links far
    → IsOutermostGrid project inner side time levels tanks links near → IsBeyondGrid side problem far near
beyond-spread project inner outer time levels tanks links problem Upper far near inside o i = record {
  junctions = zip-through (IsOutermostJunction project Upper) IsNarrowerJunction (IsOutermostJunction project Upper)
      TakesNoMore (λ k x l y. junction-inside project Upper k x l y) (known_junctions project outer time)
      far.junctions (known_junctions project inner time) near.junctions o.junctions
      (junctions-inside project inner outer time inside 0 project.junctions.list) i.junctions;
  links = i.links_are ∙ sym o.links_are;
  fixed = λ m. rw (o.reservoirs, i.reservoirs, o.tank_heads, i.tank_heads)
      (heads-above (known_heads project outer time) (map (end_on Upper) (known_heads project inner time)) _ _
      (heads-inside-high project inner outer time inside 0 project.reservoirs.list) (itself _) m);
}
beyond-spread project inner outer time levels tanks links problem Lower far near inside o i = record {
  junctions = zip-through (IsOutermostJunction project Lower) IsNarrowerJunction (IsOutermostJunction project Lower)
      TakesNoLess (λ k x l y. junction-inside project Lower k x l y) (known_junctions project outer time)
      far.junctions (known_junctions project inner time) near.junctions o.junctions
      (junctions-inside project inner outer time inside 0 project.junctions.list) i.junctions;
  links = i.links_are ∙ sym o.links_are;
  fixed = λ m. rw (o.reservoirs, i.reservoirs, o.tank_heads, i.tank_heads)
      (heads-below (known_heads project outer time) (map (end_on Lower) (known_heads project inner time)) _ _
      (heads-inside-low project inner outer time inside 0 project.reservoirs.list) (itself _) m);
}

-- ---- narrower levels, all tanks alike

tanks-high : (from : ℕ) (tanks : List Tank) (outer inner : List Interval) → AreNarrower outer inner → (m : ℕ)
    → head_at (map_from (λ k tank. end_on (tank_side Main Upper k) tank) from (tank_intervals tanks inner)) m
    ≤ℤ head_at (map_from (λ k tank. end_on (tank_side Main Upper k) tank) from (tank_intervals tanks outer)) m
tanks-high from [] outer inner all m = omega (arith, ints)
tanks-high from (tank ∷ tanks) [] [] all m = omega (arith, ints)
tanks-high from (tank ∷ tanks) [] (y ∷ inner) all m = absurd all
tanks-high from (tank ∷ tanks) (x ∷ outer) [] all m = absurd all
tanks-high from (tank ∷ tanks) (x ∷ outer) (y ∷ inner) all zero = let l = all.0.high in omega (arith, ints, l)
tanks-high from (tank ∷ tanks) (x ∷ outer) (y ∷ inner) all (suc m) =
    tanks-high (suc from) tanks outer inner all.1 m

tanks-low : (from : ℕ) (tanks : List Tank) (outer inner : List Interval) → AreNarrower outer inner → (m : ℕ)
    → head_at (map_from (λ k tank. end_on (tank_side Main Lower k) tank) from (tank_intervals tanks outer)) m
    ≤ℤ head_at (map_from (λ k tank. end_on (tank_side Main Lower k) tank) from (tank_intervals tanks inner)) m
tanks-low from [] outer inner all m = omega (arith, ints)
tanks-low from (tank ∷ tanks) [] [] all m = omega (arith, ints)
tanks-low from (tank ∷ tanks) [] (y ∷ inner) all m = absurd all
tanks-low from (tank ∷ tanks) (x ∷ outer) [] all m = absurd all
tanks-low from (tank ∷ tanks) (x ∷ outer) (y ∷ inner) all zero = let l = all.0.low in omega (arith, ints, l)
tanks-low from (tank ∷ tanks) (x ∷ outer) (y ∷ inner) all (suc m) =
    tanks-low (suc from) tanks outer inner all.1 m

pub beyond-levels : (project : Project) (inner outer : Spread) (time : ℕ) (wide narrow : List Interval)
    (tanks : List TankState) (links : List LinkState) (side : Side) (far near : Grid)
    → IsInside project inner outer → AreNarrower wide narrow
    → IsOutermostGrid project outer side time wide tanks links far
    → IsOutermostGrid project inner side time narrow tanks links near → IsBeyondGrid side Main far near
beyond-levels project inner outer time wide narrow tanks links Upper far near inside less o i = record {
  junctions = zip-through (IsOutermostJunction project Upper) IsNarrowerJunction (IsOutermostJunction project Upper)
      TakesNoMore (λ k x l y. junction-inside project Upper k x l y) (known_junctions project outer time)
      far.junctions (known_junctions project inner time) near.junctions o.junctions
      (junctions-inside project inner outer time inside 0 project.junctions.list) i.junctions;
  links = i.links_are ∙ sym o.links_are;
  fixed = λ m. rw (o.reservoirs, i.reservoirs, o.tank_heads, i.tank_heads)
      (heads-above (known_heads project outer time) (map (end_on Upper) (known_heads project inner time)) _ _
      (heads-inside-high project inner outer time inside 0 project.reservoirs.list)
      (tanks-high 0 project.tanks.list wide narrow less) m);
}
beyond-levels project inner outer time wide narrow tanks links Lower far near inside less o i = record {
  junctions = zip-through (IsOutermostJunction project Lower) IsNarrowerJunction (IsOutermostJunction project Lower)
      TakesNoLess (λ k x l y. junction-inside project Lower k x l y) (known_junctions project outer time)
      far.junctions (known_junctions project inner time) near.junctions o.junctions
      (junctions-inside project inner outer time inside 0 project.junctions.list) i.junctions;
  links = i.links_are ∙ sym o.links_are;
  fixed = λ m. rw (o.reservoirs, i.reservoirs, o.tank_heads, i.tank_heads)
      (heads-below (known_heads project outer time) (map (end_on Lower) (known_heads project inner time)) _ _
      (heads-inside-low project inner outer time inside 0 project.reservoirs.list)
      (tanks-low 0 project.tanks.list wide narrow less) m);
}
