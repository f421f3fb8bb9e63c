-- The tables of a file.
use Rattle.std.specs.Prelude.{ℕ, List}
use Rattle.hyd_spec_lines.specs.Lines.{Row}
use Rattle.hyd_spec_lines.specs.declared.section.Section.TheVariants.{Curves}
use Rattle.hyd_spec_input.specs.SectionsAndTables.{node_rows, link_rows, rows_of}
use Rattle.hyd_rows_and_tables.specs.IdTables.{IsTable}
use Rattle.hyd_curves.specs.Points.{ArePoints}
use Rattle.hyd_inp.specs.declared.tables.Tables.{Tables}

-- the IDs of nodes, links and curves, and the points of curves
pub record AreTables (text : List ℕ) (rows : List Row) (tables : Tables) : Type 0 where
  pub nodes : IsTable text (node_rows rows) tables.nodes
  pub links : IsTable text (link_rows rows) tables.links
  pub curves : IsTable text (rows_of Curves rows) tables.curves
  pub points : ArePoints rows tables.curves.names tables.points
