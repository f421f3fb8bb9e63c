-- Tables of IDs, and tables and lists with nothing in them.
use Rattle.std.specs.Prelude.{◌≡◌, ℕ, List, map, length, Option, None, []}
use Rattle.std.specs.List.{All}
use Rattle.hyd_spec_lines.specs.Lines.{Row, LiesIn}
use Rattle.hyd_spec_lines.specs.declared.line.Line.{Line}
use Rattle.hyd_spec_input.specs.SectionsAndTables.{own_id, row_with}
use Rattle.hyd_rows_and_tables.specs.RowsOfLines.{rows_at}
use Rattle.hyd_rows_and_tables.specs.declared.id_table.Table.{Table}
use Rattle.hyd_net.specs.ListView.{ListView}

-- IDs, and for each the line of the first row that has it; a name is found among these lines as among all rows
pub record AreFirsts (text : List ℕ) (rows : List Row) (names : List (List ℕ)) (firsts : List Line) : Type 0 where
  pub aligned : names ≡ map own_id (rows_at text firsts)
  pub same : (name : List ℕ) → row_with name (rows_at text firsts) ≡ row_with name rows
  pub lie : All (LiesIn text) firsts

-- the table of the IDs of rows
abbrev pub IsTable : List ℕ → List Row → Table → Type 0
IsTable text rows table = AreFirsts text rows table.names table.firsts.items

-- a table has a line for each ID
abbrev pub IsEven : Table → Type 0
IsEven table = length table.names ≡ length table.firsts.items

-- ---- lists by the numbers of IDs, before the first row

-- so many, all without an item
pub record AreNone {T : Type 0} (items : List (Option T)) (count : ℕ) : Type 0 where
  pub count_is : length items ≡ count
  pub none : All (λ (item : Option T). item ≡ None) items

-- so many, all lists without items
pub record AreEmpty {T : Type 0} (lists : List (ListView T)) (count : ℕ) : Type 0 where
  pub count_is : length lists ≡ count
  pub none : All (λ (list : ListView T). list.list ≡ []) lists
