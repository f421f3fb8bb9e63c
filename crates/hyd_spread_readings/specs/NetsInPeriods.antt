-- The nets of both sides in a period.
use Rattle.hyd_spec.specs.ProgramTypes.{Project}
use Rattle.hyd_period_network.specs.NetView.{NetView}
use Rattle.hyd_period_network.specs.GivenData.{IsNetButEmitters}
use Rattle.hyd_period_network.specs.NetAsPeriodNetwork.{grid_of}
use Rattle.hyd_theorems_on_definitions.specs.SoundLawsAndGrids.{TanksInOrder}
use Rattle.hyd_spread_bounds.specs.BothSides.{pair_of, IsOrderedPair}

-- Two nets are those of both sides of a period: each is the network's but for its emitters, the UPPER one stands no
-- lower than the LOWER one, and the ends of each tank's levels are in order.
pub record AreInPeriod (project : Project) (upper lower : NetView) : Type 0 where
  pub upper_of : IsNetButEmitters project upper
  pub lower_of : IsNetButEmitters project lower
  pub pair : IsOrderedPair (pair_of upper lower)
  pub levels : TanksInOrder (grid_of lower)
