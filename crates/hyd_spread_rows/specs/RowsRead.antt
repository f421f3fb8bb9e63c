-- What the reader makes of a row.
use Rattle.std.specs.Prelude.{◌≡◌, ◌≢◌, ℕ, true, List, [], Option, Some, None, if◌then◌else◌}
use Rattle.hyd_spec.specs.ProgramTypes.{Project}
use Rattle.hyd_spec_input.specs.Columns.{word}
use Rattle.hyd_spec_spread_rows.specs.RowsOfSpreads.{subject_of, is_all, is_known, node_named, ends_of}
use Rattle.hyd_spread_rows.specs.declared.rows.Row.{Row}

-- the node that a name means alone
abbrev pub node_meant : Project → List ℕ → Option ℕ
node_meant project name = if is_all name then None else node_named project name

-- a row that has no fault, and what it says: its subject, the node that it names alone, and its ends
pub record IsRow (project : Project) (words : List (List ℕ)) (row : Row) : Type 0 where
  pub subject : subject_of words ≡ Some row.subject
  pub known : is_known project row.subject (word 1 words) ≡ true
  pub node : row.node ≡ node_meant project (word 1 words)
  pub ends : row.ends ≡ ends_of project row.subject words

-- what a line without a fault gives: a row where it has words
abbrev pub IsRead : Project → List (List ℕ) → Option Row → Type 0
IsRead project words None = words ≡ []
IsRead project words (Some row) = (words ≢ []) × IsRow project words row
