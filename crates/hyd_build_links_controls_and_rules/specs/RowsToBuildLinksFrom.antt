-- A file whose rows are right, and the numbers of what its links name.
use Rattle.std.specs.Prelude.{◌≡◌, ℕ, Bool, true, List, Some, slice_get}
use Rattle.std.specs.List.{All}
use Rattle.hyd_spec_lines.specs.Lines.{Row, LiesIn, row_of}
use Rattle.hyd_spec_lines.specs.declared.line.Line.{Line}
use Rattle.hyd_spec_input.specs.SingleRows.{IsWrongByItself}
use Rattle.hyd_spec_input.specs.Faults.{NoneIs, IsWrongWithOthers}
use Rattle.hyd_spec_input.specs.OptionsAndTimesInForce as force
use Rattle.hyd_spec_input.specs.MeaningsAcrossRows.{number_in, node_ids, pattern_ids, bend_names}
use Rattle.hyd_spec_input.specs.SectionsAndTables.{link_rows}
use Rattle.hyd_rows_and_tables.specs.RowsOfLines.{rows_at}
use Rattle.hyd_rows_and_tables.specs.IdTables.{IsTable}
use Rattle.hyd_curves.specs.Points.{ArePoints}
use Rattle.hyd_build_links_controls_and_rules.specs.declared.rows_to_build_links_from.RowsForLinks.{RowsForLinks}

-- the rows that are given
abbrev pub rows_from : List ℕ → RowsForLinks → List Row
rows_from text given = rows_at text given.lines.now

-- the rows are right in both phases, and what is given besides is theirs
pub record AreRightRowsForLinks (text : List ℕ) (given : RowsForLinks) : Type 0 where
  pub lie : All (LiesIn text) given.lines.now
  pub by_itself : NoneIs (IsWrongByItself (rows_from text given))
  pub with_others : NoneIs (IsWrongWithOthers (rows_from text given))
  pub nodes : given.nodes.now ≡ node_ids (rows_from text given)
  pub links : IsTable text (link_rows (rows_from text given)) given.links.now
  pub patterns : given.patterns.now ≡ pattern_ids (rows_from text given)
  pub points : ArePoints (rows_from text given) given.curves.now.names given.points.now
  pub bends : given.bends.now ≡ bend_names (rows_from text given)
  pub unit_is : given.unit ≡ force.unit (rows_from text given)
  pub by_power_is : given.by_power ≡ force.has_hazen_williams (rows_from text given)

-- a row stands among others
pub record IsAmong (rows : List Row) (row : Row) : Type 0 where
  pub place : ℕ
  pub is : slice_get rows place ≡ Some row

-- a name has a number
pub record HasNumber (names : List (List ℕ)) (name : List ℕ) : Type 0 where
  pub number : ℕ
  pub is : number_in names name ≡ Some number

-- a line of right rows, whose row passes a test
pub record IsRowOf (passes : Row → Bool) (text : List ℕ) (given : RowsForLinks) (line : Line) : Type 0 where
  pub lies : LiesIn text line
  pub right : AreRightRowsForLinks text given
  pub among : IsAmong (rows_from text given) (row_of text line)
  pub of : passes (row_of text line) ≡ true
