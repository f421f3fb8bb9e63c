-- What belongs to junctions, by the numbers that their names have in a table.
use Rattle.std.specs.Prelude.{◌≡◌, ℕ, List, [], map, length, take, Option, Some, None, slice_index_or, ℤ}
use Rattle.hyd_num.specs.FileQuantity.{flow_ticks}
use Rattle.hyd_num.specs.declared.link_capacities.Capacity.{Capacity}
use Rattle.hyd_num.specs.declared.flow_units.FlowUnit.{FlowUnit}
use Rattle.hyd_spec_lines.specs.Lines.{Row}
use Rattle.hyd_spec_lines.specs.declared.section.Section.TheVariants.{Demands, Emitters}
use Rattle.hyd_net.specs.ListView.{ListView}
use Rattle.hyd_net.specs.declared.nodes.Demand.{Demand}
use Rattle.hyd_spec_input.specs.OptionsAndTimesInForce as force
use Rattle.hyd_spec_input.specs.MeaningsAcrossRows.{number_in, demand_of_row, last_naming, coefficient}
use Rattle.hyd_spec_input.specs.Project.{IsEmitter}
use Rattle.hyd_spec_input.specs.SectionsAndTables.{rows_of, rows_with}
use Rattle.hyd_build_nodes_patterns_and_options.specs.ReservoirsAndTanks.{number_of}

-- a demand of a base and a pattern's name
abbrev pub demand_by : FlowUnit → List (List ℕ) → ℤ → Option (List ℕ) → Demand
demand_by unit patterns base pattern = record { base = flow_ticks unit base; pattern = number_of patterns pattern }

-- the demands of each list
abbrev pub each : List (ListView Demand) → List (List Demand)
each lists = map (λ (list : ListView Demand). list.list) lists

-- one value is another, the others are as before
pub record IsSetAt {A : Type 0} (default : A) (before after : List A) (number : ℕ) (value : A) : Type 0 where
  pub even : length after ≡ length before
  pub here : slice_index_or after number default ≡ value
  pub others : (k : ℕ) → (k ≡ number → ⊥) → slice_index_or after k default ≡ slice_index_or before k default

-- the value of a number, where there is one
abbrev pub value_of : {A : Type 0} → A → List A → Option ℕ → A
value_of default values None = default
value_of default values (Some number) = slice_index_or values number default

-- for each name, the list of its number has the demands of the rows that name it, among the first
pub record AreDemands (rows : List Row) (k : ℕ) (names : List (List ℕ)) (lists : List (List Demand)) : Type 0 where
  pub even : length lists ≡ length names
  pub named : (name : List ℕ) → value_of [] lists (number_in names name)
      ≡ map (demand_of_row rows) (rows_with name (rows_of Demands (take k rows)))

-- for each name, the emitter of its number is that of the last row that names it, among the first
pub record AreEmitters (rows : List Row) (k : ℕ) (names : List (List ℕ)) (emitters : List
    (Option Capacity)) : Type 0 where
  pub even : length emitters ≡ length names
  pub named : (name : List ℕ) → IsEmitter (force.unit rows) (coefficient (last_naming name (rows_of Emitters
      (take k rows))))
      (value_of None emitters (number_in names name))
