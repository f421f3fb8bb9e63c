-- The two nets of a run for a spread, one a side, and what they are between and in periods.
use Rattle.std.specs.Prelude.{◌≡◌, ℕ, List, Option}
use Rattle.std.specs.List.{AllZip}
use Rattle.std.specs.Option.{option_map}
use Rattle.hyd_spec.specs.ProgramTypes.{Project, Junction, Capacity, LinkState}
use Rattle.hyd_spec.specs.Lists.{Each, map_from}
use Rattle.hyd_spec.specs.declared.TankState.{TankState}
use Rattle.hyd_spec_certificates.specs.declared.Side.{Side}
use Rattle.hyd_spec_certificates.specs.declared.Side.TheVariants.{Upper, Lower}
use Rattle.hyd_spec_certificates.specs.Interval.{Interval}
use Rattle.hyd_spec_certificates.specs.RecordAndStanding.{Standing}
use Rattle.hyd_spec_certificates.specs.Decided.{links_at}
use Rattle.hyd_spec_spread.specs.Spreads.{Factors, Spread, emitter_factors}
use Rattle.hyd_spec_spread.specs.OutermostGrids.{IsOutermostEmitter}
use Rattle.hyd_spec_spread_runs.specs.OutermostPairs.{Pair}
use Rattle.hyd_period_network.specs.NetView.{NetView}
use Rattle.hyd_period_network.specs.NetAsPeriodNetwork.{grid_of, capacity_of}
use Rattle.hyd_period_network.specs.GivenData.{IsNetButEmitters}
use Rattle.hyd_period_network.specs.declared.junctions_ends_and_settings.NetJunction.{NetJunction}
use Rattle.hyd_spread_networks.specs.HeadsBySpreads.{HeadsStay}

-- what contracts see: the spread, and the nets of both sides
pub record SpreadNetsView : Type 0 where
  pub spread : Spread
  pub upper : NetView
  pub lower : NetView

-- the net of a side
abbrev pub net_on : Side → SpreadNetsView → NetView
net_on Upper nets = nets.upper
net_on Lower nets = nets.lower

-- the grids that they are
abbrev pub pair_of : SpreadNetsView → Pair
pair_of nets = record { upper = grid_of nets.upper; lower = grid_of nets.lower }

-- ---- emitters

-- what is known of a junction's emitter: the file's, and the factors of its coefficient
pub record KnownEmitter : Type 0 where
  pub own : Option Capacity
  pub factors : Factors

abbrev pub known_emitter : Spread → ℕ → Junction → KnownEmitter
known_emitter spread j junction = record { own = junction.emitter; factors = emitter_factors spread j }

-- of all junctions, in order
abbrev pub known_emitters : Project → Spread → List KnownEmitter
known_emitters project spread = map_from (known_emitter spread) 0 project.junctions.list

-- a capacity, or none, is that of an outermost emitter
abbrev pub IsOutermost : KnownEmitter → Option Capacity → Type 0
IsOutermost known emitter = IsOutermostEmitter known.factors known.own emitter

-- a junction of a net has it
abbrev pub HasOutermost : KnownEmitter → NetJunction → Type 0
HasOutermost known junction = IsOutermost known (option_map capacity_of junction.emitter)

-- ---- between periods

-- the nets of a network for a spread: each is the network's but for the emitters, which are the outermost ones, and no
-- head of a reservoir leaves its range, however far off it is
pub record AreNetsOf (project : Project) (nets : SpreadNetsView) : Type 0 where
  pub each : (side : Side) → IsNetButEmitters project (net_on side nets)
  pub emitters : (side : Side) → AllZip HasOutermost (known_emitters project nets.spread) (net_on side nets).junctions
  pub heads : Each project.reservoirs.list (HeadsStay project nets.spread)

-- ---- in a period

-- a standing at which a period begins with these states of links, levels and states of tanks
pub record IsStandingOf (project : Project) (time : ℕ) (links : List LinkState) (levels : List Interval)
    (tanks : List TankState) (standing : Standing) : Type 0 where
  pub time_is : standing.time ≡ time
  pub links_are : links_at project standing ≡ links
  pub levels_are : standing.levels ≡ levels
  pub tanks_are : standing.tanks ≡ tanks
