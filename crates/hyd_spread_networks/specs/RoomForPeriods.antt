-- The room that the nets of both sides have for the data of a period.
use Rattle.std.specs.Prelude.{◌≡◌, ℤ, List, length}
use Rattle.hyd_period_network.specs.NetView.{NetView}
use Rattle.hyd_spread_rows.specs.declared.resolved.SpreadRows.{SpreadRows}
use Rattle.hyd_spread_rows.specs.SpreadsRead.{AreInRange}

-- the numbers of the spread are in range, and there is a place for the least and the greatest demand of each junction,
-- and for the least and the greatest head of each reservoir
pub record HasRoom (rows : SpreadRows) (net : NetView) (least greatest lowest highest : List ℤ) : Type 0 where
  pub range : AreInRange rows
  pub least_demands : length least ≡ length net.demands
  pub greatest_demands : length greatest ≡ length net.demands
  pub least_heads : length lowest ≡ length net.reservoirs
  pub greatest_heads : length highest ≡ length net.reservoirs
