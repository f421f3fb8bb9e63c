-- The tables of a factor: each number in one names a place that is there in the table it points into.
use Rattle.std.specs.Prelude.{◌<◌, ◌≤◌, ℕ}
use Rattle.hyd_sparse.specs.declared.tables.Span.{Span}
use Rattle.hyd_sparse.specs.declared.tables.Column.{Column}
use Rattle.hyd_sparse.specs.declared.tables.Update.{Update}
use Rattle.hyd_sparse.specs.declared.tables.Term.{Term}

-- A stretch of a table with so many places.
pub record IsSpan (places : ℕ) (span : Span) : Type 0 where
  pub ordered : span.from ≤ span.to
  pub inside : span.to ≤ places

-- A column among so many, and one of so many entries.
pub record IsUpdate (columns entries : ℕ) (update : Update) : Type 0 where
  pub column : update.column < columns
  pub entry : update.from < entries

-- A row among so many, and a link among so many.
pub record IsTerm (rows links : ℕ) (term : Term) : Type 0 where
  pub row : term.row < rows
  pub link : term.link < links

-- A node among so many, and stretches of the tables of entries, updates and terms.
pub record IsColumn (nodes entries updates terms : ℕ) (column : Column) : Type 0 where
  pub node : column.node < nodes
  pub entries_inside : IsSpan entries column.entries
  pub updates_inside : IsSpan updates column.updates
  pub terms_inside : IsSpan terms column.terms
