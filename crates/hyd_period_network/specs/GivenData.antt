-- Nets of which data are given one by one in place of the network's own: the emitters for good, demands and heads of
-- reservoirs for a period.
use Rattle.std.specs.Prelude.{◌≡◌, ℤ, List, [], ◌∷◌, length, map, Option}
use Rattle.std.specs.List.{AllZip}
use Rattle.std.specs.Option.{option_map}
use Rattle.hyd_spec.specs.ProgramTypes.{Project, Junction, LinkState, Capacity}
use Rattle.hyd_spec.specs.declared.TankState.{TankState}
use Rattle.hyd_spec_certificates.specs.SpansAsIntervals.{levels_of}
use Rattle.hyd_spec_certificates.specs.PeriodNetwork.{grid_links, tank_intervals}
use Rattle.hyd_spec_certificates.specs.declared.LevelSpan.{LevelSpan}
use Rattle.hyd_law.specs.declared.law_kinds.Quad.{Quad}
use Rattle.hyd_period_network.specs.declared.junctions_ends_and_settings.NetJunction.{NetJunction}
use Rattle.hyd_period_network.specs.NetView.{NetView}
use Rattle.hyd_period_network.specs.NetAsPeriodNetwork.{grid_of}
use Rattle.hyd_period_network.specs.Demands.{IsOutLawOf, AreHeld}
use Rattle.hyd_period_network.specs.LawsInSettings.{AreLaws}
use Rattle.hyd_period_network.specs.NetsSetToPeriods.{ends_of}

-- ---- emitters

-- the law of an emitter of a capacity
abbrev pub law_with : Capacity → Quad
law_with capacity = record { cap = capacity }

-- a junction with a given emitter, or without one
abbrev pub with_emitter : NetJunction → Option Capacity → NetJunction
with_emitter junction emitter = record junction { emitter = option_map law_with emitter }

-- the junctions with given emitters, one for each
abbrev pub with_emitters : List NetJunction → List (Option Capacity) → List NetJunction
with_emitters [] emitters = []
with_emitters (junction ∷ junctions) [] = []
with_emitters (junction ∷ junctions) (emitter ∷ emitters) =
    with_emitter junction emitter ∷ with_emitters junctions emitters

-- a junction of a net has its elevation; its emitter may be another one
pub record HasElevation (junction : Junction) (here : NetJunction) : Type 0 where
  pub elevation : here.elevation ≡ junction.elevation

-- a net of a network but for its emitters: its junctions have the elevations of the network's, its links are the
-- network's, it has a head for each reservoir and each tank, each demand that it holds has its law, and the two laws of
-- each link are those of its setting
pub record IsNetButEmitters (project : Project) (net : NetView) : Type 0 where
  pub ends : net.ends ≡ map ends_of project.links.list
  pub junctions : AllZip HasElevation project.junctions.list net.junctions
  pub each_demand : length net.demands ≡ length project.junctions.list
  pub each_reservoir : length net.reservoirs ≡ length project.reservoirs.list
  pub each_tank : length net.tanks ≡ length project.tanks.list
  pub each_setting : length net.settings ≡ length project.links.list
  pub each_own : length net.own ≡ length project.links.list
  pub each_law : length net.laws ≡ length project.links.list
  pub demands : AreHeld project net.demands
  pub laws : AreLaws project project.links.list net.settings net.own net.laws

-- ---- demands and heads of reservoirs

-- a net was put into a period in which these are the demands and the heads of reservoirs: each demand has its law, each
-- reservoir its head, tanks have the heads of their levels, and links are in these states, between tanks in theirs
pub record IsPutWith (project : Project) (given heads : List ℤ) (levels : List LevelSpan) (tanks : List TankState)
    (links : List LinkState) (net : NetView) : Type 0 where
  pub demands : AllZip (IsOutLawOf project) given net.demands
  pub reservoirs : net.reservoirs ≡ heads
  pub tank_heads : map levels_of net.tanks ≡ tank_intervals project.tanks.list (map levels_of levels)
  pub links_are : (grid_of net).links ≡ grid_links project tanks project.links.list links
