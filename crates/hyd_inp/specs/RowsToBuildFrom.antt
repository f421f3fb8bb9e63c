-- A file without a fault, and what its parts are built from.
use Rattle.std.specs.Prelude.{◌≡◌, ℕ, ◌≤◌, ◌^◌, List, length}
use Rattle.std.specs.List.{All}
use Rattle.hyd_spec_lines.specs.Lines.{Row, LiesIn}
use Rattle.hyd_spec_lines.specs.declared.section.Section.TheVariants.{Curves}
use Rattle.hyd_curves.specs.Points.{ArePoints}
use Rattle.hyd_spec_input.specs.SingleRows.{IsWrongByItself}
use Rattle.hyd_spec_input.specs.Faults.{NoneIs, IsWrongWithOthers}
use Rattle.hyd_spec_input.specs.OptionsAndTimesInForce as force
use Rattle.hyd_spec_input.specs.SectionsAndTables.{node_rows, link_rows, rows_of}
use Rattle.hyd_rows_and_tables.specs.RowsOfLines.{rows_at}
use Rattle.hyd_rows_and_tables.specs.IdTables.{IsTable}
use Rattle.hyd_inp.specs.Parts.{AreNumbers}
use Rattle.hyd_inp.specs.declared.rows_to_build_from.RowsForNetwork.{RowsForNetwork}

-- the rows that are given
abbrev pub rows_from : List ℕ → RowsForNetwork → List Row
rows_from text given = rows_at text given.lines.now

-- none of the rows is wrong, and what is given besides is theirs
pub record AreRowsForNetwork (text : List ℕ) (given : RowsForNetwork) : Type 0 where
  pub few : length given.lines.now ≤ 2 ^ 26
  pub lie : All (LiesIn text) given.lines.now
  pub by_itself : NoneIs (IsWrongByItself (rows_from text given))
  pub with_others : NoneIs (IsWrongWithOthers (rows_from text given))
  pub numbers : AreNumbers (rows_from text given) given.numbers
  pub nodes : IsTable text (node_rows (rows_from text given)) given.nodes.now
  pub links : IsTable text (link_rows (rows_from text given)) given.links.now
  pub curves : IsTable text (rows_of Curves (rows_from text given)) given.curves.now
  pub points : ArePoints (rows_from text given) given.curves.now.names given.points.now
  pub unit_is : given.unit ≡ force.unit (rows_from text given)
