-- The grid that a net is: contracts see a net as the network of the definitions.
use Rattle.std.specs.Prelude.{ℕ, ◌+◌, List, [], ◌∷◌, map, length}
use Rattle.std.specs.Option.{option_map}
use Rattle.hyd_spec.specs.ProgramTypes.{LinkState, Capacity}
use Rattle.hyd_spec.specs.Law.{Law}
use Rattle.hyd_spec_certificates.specs.SpansAsIntervals.{levels_of}
use Rattle.hyd_spec_certificates.specs.PeriodNetwork.{Grid, GridLink, GridJunction}
use Rattle.hyd_law.specs.declared.law_kinds.Quad.{Quad}
use Rattle.hyd_law.specs.declared.link_law_kinds.LinkLaw.{LinkLaw}
use Rattle.hyd_law.specs.declared.demand_law_kinds.OutLaw.{OutLaw}
use Rattle.hyd_period_network.specs.declared.junctions_ends_and_settings.NetJunction.{NetJunction}
use Rattle.hyd_period_network.specs.declared.junctions_ends_and_settings.Ends.{Ends}
use Rattle.hyd_period_network.specs.declared.junctions_ends_and_settings.Setting.{Setting}
use Rattle.hyd_period_network.specs.NetView.{NetView}
use Rattle.hyd_period_network.specs.Demands.{demand_of_law}
use Rattle.hyd_period_network.specs.ExactLaw.{exact_law}
use Rattle.hyd_period_network.specs.LawsInSettings.{restricted}

-- ---- junctions

-- the capacity of an emitter's law
abbrev pub capacity_of : Quad → Capacity
capacity_of law = law.cap

-- a junction with the law of its demand
abbrev pub junction_of : NetJunction → OutLaw → GridJunction
junction_of junction demand =
    record {
      elevation = junction.elevation;
      demand = demand_of_law demand;
      emitter = option_map capacity_of junction.emitter;
    }

-- the junctions with the laws of their demands
abbrev pub junctions_of : List NetJunction → List OutLaw → List GridJunction
junctions_of [] demands = []
junctions_of (junction ∷ junctions) [] = []
junctions_of (junction ∷ junctions) (demand ∷ demands) = junction_of junction demand ∷ junctions_of junctions demands

-- ---- links

-- a link in its setting, with its own law
abbrev pub link_of : Ends → Setting → LinkLaw → GridLink
link_of ends setting own =
    record { from = ends.from; to = ends.to; law = restricted setting.no_forward setting.no_reverse (exact_law own) }

-- the links in their settings
abbrev pub links_of : List Ends → List Setting → List LinkLaw → List GridLink
links_of [] settings own = []
links_of (ends ∷ rest) [] own = []
links_of (ends ∷ rest) (setting ∷ settings) [] = []
links_of (ends ∷ rest) (setting ∷ settings) (law ∷ own) = link_of ends setting law ∷ links_of rest settings own

-- ---- all of it

-- the grid that a net is
abbrev pub grid_of : NetView → Grid
grid_of net = record {
  junctions = junctions_of net.junctions net.demands;
  reservoirs = net.reservoirs;
  tanks = map levels_of net.tanks;
  links = links_of net.ends net.settings net.own;
}

-- the state of a setting
abbrev pub state_of : Setting → LinkState
state_of setting = setting.state

-- the states that the links are in
abbrev pub states_of : NetView → List LinkState
states_of net = map state_of net.settings

-- the laws of the links, whatever the tanks at their ends allow
abbrev pub own_laws : NetView → List Law
own_laws net = map exact_law net.own

-- the number of nodes: junctions, reservoirs and tanks together
abbrev pub node_count : NetView → ℕ
node_count net = length net.junctions + length net.reservoirs + length net.tanks
