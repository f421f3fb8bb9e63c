-- Networks that take the ends of what a spread leaves open.
-- Source: this program's.
use Rattle.std.specs.Prelude.{◌≡◌, ℕ, map}
use Rattle.std.specs.List.{AllZip}
use Rattle.hyd_spec.specs.ProgramTypes.{Project, Junction}
use Rattle.hyd_spec.specs.DemandsHeadsAndPumpLifts.{demand_of, reservoir_head}
use Rattle.hyd_spec_certificates.specs.declared.Side.{Side}
use Rattle.hyd_spec_certificates.specs.PeriodNetwork.{end_on}
use Rattle.hyd_spec_spread.specs.Spreads.{Spread}
use Rattle.hyd_spec_spread.specs.IntervalsOfData.{KnownJunction, known_junctions, known_heads}
use Rattle.hyd_spec_spread.specs.NetworksWithin.{NodeData, with_data}
use Rattle.hyd_spec_spread.specs.OutermostGrids.{outermost_demand}

-- At a time each demand of the network with these data is the outermost one for a side, and each reservoir stands at
-- the end of its interval on that side.
pub record TakesEnds (project : Project) (spread : Spread) (time : ℕ) (side : Side) (nodes : NodeData) : Type 0 where
  pub demands : AllZip (λ (known : KnownJunction) (junction : Junction).
      demand_of (with_data project nodes) time junction ≡ outermost_demand side known)
      (known_junctions project spread time) nodes.junctions.list
  pub heads : map (reservoir_head (with_data project nodes) time) nodes.reservoirs.list
      ≡ map (end_on side) (known_heads project spread time)
