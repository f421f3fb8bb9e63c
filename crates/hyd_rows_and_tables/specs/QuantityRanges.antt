-- Quantities out of range, in a unit of flows.
use Rattle.std.specs.Prelude.{Option, ℤ}
use Rattle.hyd_num.specs.FileQuantity.{is_us_unit, head_ticks}
use Rattle.hyd_num.specs.declared.flow_units.FlowUnit.{FlowUnit}
use Rattle.hyd_spec_input.specs.Columns.{or_else, unless}
use Rattle.hyd_spec_input.specs.Curves.{is_head, is_flow}
use Rattle.hyd_net.specs.declared.refusal_cause.Cause.{Cause}
use Rattle.hyd_net.specs.declared.refusal_cause.Cause.TheVariants.{Range}

abbrev pub head_fault : FlowUnit → ℤ → Option Cause
head_fault unit nano = unless (is_head (head_ticks (is_us_unit unit) nano)) Range

abbrev pub flow_fault : FlowUnit → ℤ → Option Cause
flow_fault unit nano = unless (is_flow unit nano) Range

-- an elevation and a demand
abbrev pub junction_ranges : FlowUnit → ℤ → ℤ → Option Cause
junction_ranges unit elevation demand = or_else (head_fault unit elevation) (flow_fault unit demand)
