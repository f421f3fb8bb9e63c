-- The laws of pumps with curves of one point or three.
use Rattle.std.specs.Prelude.{◌≡◌, true, false, List}
use Rattle.hyd_num.specs.FileQuantity.{is_us_unit}
use Rattle.hyd_num.specs.declared.flow_units.FlowUnit.{FlowUnit}
use Rattle.hyd_net.specs.RoundedFileNumbers.{IsShutoffMade}
use Rattle.hyd_spec_input.specs.CapacitiesOutOfRange.{IsRefusedPump}
use Rattle.hyd_spec_input.specs.Curves.{drop_of, is_bent, is_pump_curve, are_flows, has_shutoff}
use Rattle.hyd_spec_input.specs.Project.{IsPumpOf, IsShutoffOf}
use Rattle.hyd_spec_input.specs.SectionsAndTables.{Point}
use Rattle.hyd_build_links_controls_and_rules.specs.declared.pump_laws.PumpLaw.{PumpLaw}

-- the points of a curve of one point or three that a pump can have
pub record ArePumpPoints (unit : FlowUnit) (points : List Point) : Type 0 where
  pub straight : is_bent points ≡ false
  pub curve : is_pump_curve points ≡ true
  pub flows : are_flows unit points ≡ true
  pub shutoff : has_shutoff (is_us_unit unit) points ≡ true
  pub free : IsRefusedPump (drop_of points) unit → ⊥

pub record IsPumpLaw (unit : FlowUnit) (points : List Point) (law : PumpLaw) : Type 0 where
  pub capacity : IsPumpOf (drop_of points) unit law.cap
  pub head : IsShutoffOf points law.head
  pub shutoff : IsShutoffMade unit law.head law.shutoff
