-- The nodes among the first rows of a file.
use Rattle.std.specs.Prelude.{◌≡◌, ℕ, ◌+◌, ◌≤◌, Bool, List, length, take, Option, None}
use Rattle.hyd_num.specs.declared.flow_units.FlowUnit.{FlowUnit}
use Rattle.hyd_spec_lines.specs.Lines.{Row}
use Rattle.hyd_spec_lines.specs.declared.section.Section.{Section}
use Rattle.hyd_spec_lines.specs.declared.section.Section.TheVariants.{Junctions, Reservoirs, Tanks, Curves}
use Rattle.hyd_spec_input.specs.Faults.{IsWrongWithOthers}
use Rattle.hyd_spec_input.specs.OptionsAndTimesInForce as force
use Rattle.hyd_spec_input.specs.NodeAndLinkRows as alone
use Rattle.hyd_spec_input.specs.SectionsAndTables.{is_node, rows_of, node_rows}
use Rattle.hyd_net.specs.declared.refusal_cause.Cause.{Cause}
use Rattle.hyd_rows_and_tables.specs.FirstWrongRow.{HasFound, IsWrongAmong}
use Rattle.hyd_rows_and_tables.specs.IdTables.{IsTable, IsEven}
use Rattle.hyd_judge_nodes_curves_and_options.specs.NodeFaults.{junction_fault, reservoir_fault, tank_fault}
use Rattle.hyd_judge_nodes_curves_and_options.specs.Patterns.{ArePatterns}
use Rattle.hyd_curves.specs.Points.{ArePoints}
use Rattle.hyd_judge_nodes_curves_and_options.specs.declared.judged_against.NodeTables.{NodeTables}
use Rattle.hyd_judge_nodes_curves_and_options.specs.declared.nodes.Counts.{Counts}
use Rattle.hyd_judge_nodes_curves_and_options.specs.declared.nodes.Nodes.{Nodes}

-- a row of nodes is wrong with the others
abbrev pub IsWrongNode : List Row → ℕ → Cause → Type 0
IsWrongNode rows = IsWrongAmong is_node (IsWrongWithOthers rows) rows

-- ---- tables

-- each table has a line for each ID
pub record AreEven (tables : NodeTables) : Type 0 where
  pub patterns : IsEven tables.patterns.now.table
  pub curves : IsEven tables.curves.now

-- the tables and the unit of a file
pub record AreTables (text : List ℕ) (rows : List Row) (tables : NodeTables) : Type 0 where
  pub patterns : ArePatterns text rows tables.patterns.now
  pub curves : IsTable text (rows_of Curves rows) tables.curves.now
  pub points : ArePoints rows tables.curves.now.names tables.points.now
  pub unit_is : tables.unit ≡ force.unit rows

-- ---- nodes by section

-- one more of a section
abbrev pub counted : Section → Counts → Counts
counted Junctions c = record { junctions = c.junctions + 1; reservoirs = c.reservoirs; tanks = c.tanks }
counted Reservoirs c = record { junctions = c.junctions; reservoirs = c.reservoirs + 1; tanks = c.tanks }
counted Tanks c = record { junctions = c.junctions; reservoirs = c.reservoirs; tanks = c.tanks + 1 }
counted _ c = c

-- what a node is asked by itself
abbrev pub node_alone : Section → List (List ℕ) → Option Cause
node_alone Junctions words = alone.junction words
node_alone Reservoirs words = alone.reservoir words
node_alone Tanks words = alone.tank words
node_alone _ words = None

-- what a node is asked among all rows
abbrev pub fault_among : Section → List Row → FlowUnit → Counts → Bool → List (List ℕ) → Option Cause
fault_among Junctions rows unit counts new words = junction_fault rows unit counts.junctions new words
fault_among Reservoirs rows unit counts new words = reservoir_fault rows unit counts.reservoirs new words
fault_among Tanks rows unit counts new words = tank_fault rows unit counts.tanks new words
fault_among _ rows unit counts new words = None

-- ---- one row after another

-- how many nodes of each kind there are among the first rows
pub record AreCounts (rows : List Row) (k : ℕ) (counts : Counts) : Type 0 where
  pub junctions : counts.junctions ≡ length (rows_of Junctions (take k rows))
  pub reservoirs : counts.reservoirs ≡ length (rows_of Reservoirs (take k rows))
  pub tanks : counts.tanks ≡ length (rows_of Tanks (take k rows))
  pub few_junctions : counts.junctions ≤ k
  pub few_reservoirs : counts.reservoirs ≤ k
  pub few_tanks : counts.tanks ≤ k

pub record AreNodes (text : List ℕ) (rows : List Row) (k : ℕ) (nodes : Nodes) : Type 0 where
  pub counts : AreCounts rows k nodes.counts
  pub table : IsTable text (node_rows (take k rows)) nodes.table
  pub few : length nodes.table.names ≤ k
  pub found : HasFound rows (IsWrongNode rows) k nodes.found
