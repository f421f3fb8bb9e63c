-- Links have the same laws in each network within a spread, and these are sound.
use Rattle.std.proofs.Common.{◌≡◌, ℕ, suc, pos, refl, sym, ◌∙◌, subst, arith, List, [], ◌∷◌, length}
use Rattle.std.specs.Prelude.{None, map}
use Rattle.std.specs.List.{AllZip, AllByRecursion}
use Rattle.std.specs.Option.{IfSome}
use Rattle.std.proofs.lemmas.List.Elements.{All-from_recursion}
use Rattle.hyd_num.specs.CapacityPairs.{IsMade}
use Rattle.hyd_net.specs.ListView.{listed}
use Rattle.hyd_spec.specs.ProgramTypes.{Project, Junction, Link, LinkState}
use Rattle.hyd_spec.specs.declared.TankState.{TankState}
use Rattle.hyd_spec.specs.Lists.{map_from}
use Rattle.hyd_spec.specs.LinkLaw.{law_of}
use Rattle.hyd_spec.specs.NodeNumbers.{nodes_before_tanks}
use Rattle.hyd_spec.specs.DemandsHeadsAndPumpLifts.{reservoir_head}
use Rattle.hyd_spec_certificates.specs.Interval.{Interval}
use Rattle.hyd_spec_certificates.specs.EnclosingFunctions.{Fixed}
use Rattle.hyd_spec_certificates.specs.declared.Side.{Side}
use Rattle.hyd_spec_certificates.specs.PeriodNetwork.{GridLink, GridJunction, Grid, IsGrid, IsJunctionOf, grid_links}
use Rattle.hyd_spec_certificates.specs.PeriodNetwork.{tank_intervals}
use Rattle.hyd_spec_spread.specs.Spreads.{Spread}
use Rattle.hyd_spec_spread.specs.IntervalsOfData.{known_junction, known_junctions, known_head, known_heads}
use Rattle.hyd_spec_spread.specs.NetworksWithin.{NodeData, with_data, IsWithin, IsJunctionWithin, HasHeadWithin}
use Rattle.hyd_spec_spread.specs.OutermostGrids.{IsOutermostGrid}
use Rattle.hyd_theorems_on_definitions.specs.SoundLawsAndGrids.{AreCapacitiesMade}
use Rattle.hyd_theorems_on_definitions.proofs.NetOutflowsRise.{SoundLinks}
use Rattle.hyd_theorems_on_definitions.proofs.LawsOfGrids.{IsSoundGrid-made}
use Rattle.hyd_theorems_on_spread.proofs.ZippedLists.{zip-long}

-- ---- the same numbers of nodes

map-long : {X Y : Type 0} (f : X → Y) (xs : List X) → length (map f xs) ≡ length xs
map-long f [] = refl
map-long f (x ∷ xs) = let e = map-long f xs in omega (arith, e)

numbered-long : {X Y : Type 0} (f : ℕ → X → Y) (from : ℕ) (xs : List X) → length (map_from f from xs) ≡ length xs
numbered-long f from [] = refl
numbered-long f from (x ∷ xs) = let e = numbered-long f (suc from) xs in omega (arith, e)

-- two networks number their tanks alike
abbrev pub NumbersAlike : Project → NodeData → Type 0
NumbersAlike project nodes = nodes_before_tanks (with_data project nodes) ≡ nodes_before_tanks project

pub count-within : (project : Project) (spread : Spread) (time : ℕ) (nodes : NodeData)
    → IsWithin project spread time nodes → NumbersAlike project nodes
count-within project spread time nodes w =
    let a = zip-long (IsJunctionWithin (with_data project nodes) time) (known_junctions project spread time)
    nodes.junctions.list w.junctions in
    let b = numbered-long (known_junction project spread time) 0 project.junctions.list in
    let c = zip-long (HasHeadWithin (with_data project nodes) time) (known_heads project spread time)
    nodes.reservoirs.list w.reservoirs in
    let d = numbered-long (known_head project spread time) 0 project.reservoirs.list in
    omega (arith, a, b, c, d)

-- ---- the same laws

pub law-alike : (project : Project) (nodes : NodeData) (tanks : List TankState) (link : Link) (state : LinkState)
    → NumbersAlike project nodes → law_of (with_data project nodes) tanks link state ≡ law_of project tanks link state
law-alike project nodes tanks link state same = rw same refl

pub links-alike : (project : Project) (nodes : NodeData) (tanks : List TankState) (links : List Link)
    (states : List LinkState) → NumbersAlike project nodes
    → grid_links (with_data project nodes) tanks links states ≡ grid_links project tanks links states
links-alike project nodes tanks [] states same = refl
links-alike project nodes tanks (link ∷ links) [] same = refl
links-alike project nodes tanks (link ∷ links) (state ∷ states) same =
    let law = law-alike project nodes tanks link state same in
    let rest = links-alike project nodes tanks links states same in
    λ i. record { from = link.from; to = link.to; law = law i } ∷ rest i

-- ---- sound laws

-- the network without demands and emitters
abbrev bare_junction : Junction → Junction
bare_junction j = record { elevation = j.elevation; demands = listed []; emitter = None }

abbrev bare : Project → NodeData
bare project = record {
  junctions = listed (map bare_junction project.junctions.list);
  reservoirs = project.reservoirs;
  multiplier = project.options.multiplier;
  default_pattern = project.options.default_pattern;
}

abbrev bare_here : Junction → GridJunction
bare_here j = record { elevation = j.elevation; demand = Fixed (pos 0); emitter = None }

bare-junctions : (project : Project) (nodes : NodeData) (js : List Junction)
    → AllZip (IsJunctionOf (with_data project nodes) 0) (map bare_junction js) (map bare_here js)
bare-junctions project nodes [] = tt
bare-junctions project nodes (j ∷ js) =
    (record { elevation = refl; demand = refl; emitter = refl }, bare-junctions project nodes js)

bare-emitters : (js : List Junction) → AllByRecursion (λ (j : Junction). IfSome j.emitter IsMade)
    (map bare_junction js)
bare-emitters [] = tt
bare-emitters (j ∷ js) = (tt, bare-emitters js)

-- the laws of a network's links are sound, whatever stands at its nodes
pub links-sound : (project : Project) (tanks : List TankState) (links : List LinkState)
    → AreCapacitiesMade project links → SoundLinks (grid_links project tanks project.links.list links)
links-sound project tanks links made =
    let counts = map-long bare_junction project.junctions.list in
    subst (λ (ls : List GridLink). SoundLinks ls)
    (links-alike project (bare project) tanks project.links.list links (omega (arith, counts)))
    (IsSoundGrid-made (with_data project (bare project)) 0 [] tanks links (record {
      junctions = map bare_here project.junctions.list;
      reservoirs = map (reservoir_head (with_data project (bare project)) 0) project.reservoirs.list;
      tanks = tank_intervals project.tanks.list [];
      links = grid_links (with_data project (bare project)) tanks project.links.list links;
    }) (record {
      junctions = bare-junctions project (bare project) project.junctions.list;
      reservoirs = refl;
      tank_heads = refl;
      links_are = refl;
    }) (record {
      emitters = All-from_recursion _ _ (bare-emitters project.junctions.list);
      kinds = made.kinds;
      sizes = made.sizes;
      states = made.states;
    })).links

-- and so are those of each outermost grid
pub outermost-sound : (project : Project) (spread : Spread) (side : Side) (time : ℕ) (levels : List Interval)
    (tanks : List TankState) (links : List LinkState) (grid : Grid) → AreCapacitiesMade project links
    → IsOutermostGrid project spread side time levels tanks links grid → SoundLinks grid.links
outermost-sound project spread side time levels tanks links grid made is =
    subst (λ (ls : List GridLink). SoundLinks ls) (sym is.links_are) (links-sound project tanks links made)

-- and of the grid of each network within
pub network-sound : (project : Project) (spread : Spread) (nodes : NodeData) (time : ℕ) (levels : List Interval)
    (tanks : List TankState) (links : List LinkState) (grid : Grid) → AreCapacitiesMade project links
    → IsWithin project spread time nodes → IsGrid (with_data project nodes) time levels tanks links grid
    → SoundLinks grid.links
network-sound project spread nodes time levels tanks links grid made within is =
    subst (λ (ls : List GridLink). SoundLinks ls)
    (sym (is.links_are ∙ links-alike project nodes tanks project.links.list links
    (count-within project spread time nodes within))) (links-sound project tanks links made)
