-- Junctions with what belongs to them.
use Rattle.std.specs.Prelude.{◌≡◌, ℕ, List, Option}
use Rattle.hyd_num.specs.FileQuantity.{is_us_unit, head_ticks}
use Rattle.hyd_num.specs.declared.link_capacities.Capacity.{Capacity}
use Rattle.hyd_num.specs.declared.flow_units.FlowUnit.{FlowUnit}
use Rattle.hyd_spec_lines.specs.WordsOfLines.{text_of}
use Rattle.hyd_spec_lines.specs.Lines.{Row}
use Rattle.hyd_net.specs.declared.nodes.Demand.{Demand}
use Rattle.hyd_net.specs.declared.nodes.Junction.{Junction}
use Rattle.hyd_network_rows.specs.declared.junctions_and_reservoirs.JunctionRow.{JunctionRow}
use Rattle.hyd_spec_input.specs.OptionsAndTimesInForce as force
use Rattle.hyd_spec_input.specs.MeaningsAcrossRows.{pattern_ids, or_own}
use Rattle.hyd_spec_input.specs.SectionsAndTables.{node_rows}
use Rattle.hyd_rows_and_tables.specs.IdTables.{IsTable}
use Rattle.hyd_build_nodes_patterns_and_options.specs.DemandsAndEmitters.{demand_by, each, AreDemands, AreEmitters}
use Rattle.hyd_build_nodes_patterns_and_options.specs.declared.junctions.Parts.{Parts}

-- the junction of what a row says, with the demands of the rows that name it and its emitter
pub record IsJunctionBy (unit : FlowUnit) (patterns : List (List ℕ)) (row : JunctionRow) (demands : List Demand)
    (emitter : Option Capacity) (j : Junction) : Type 0 where
  pub elevation : j.elevation ≡ head_ticks (is_us_unit unit) row.elevation.nano
  pub demands_are : j.demands.list ≡ or_own (demand_by unit patterns row.base.nano (text_of row.pattern)) demands
  pub emitter_is : j.emitter ≡ emitter

-- the parts of all junctions, by the first rows of a file
pub record AreParts (text : List ℕ) (rows : List Row) (k : ℕ) (parts : Parts) : Type 0 where
  pub nodes : IsTable text (node_rows rows) parts.nodes.now
  pub demands : AreDemands rows k parts.nodes.now.names (each parts.demands.now)
  pub emitters : AreEmitters rows k parts.nodes.now.names parts.emitters.now
  pub patterns : parts.patterns.now ≡ pattern_ids rows
  pub unit_is : parts.unit ≡ force.unit rows
