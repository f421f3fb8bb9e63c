-- Links and nodes that commands name.
use Rattle.std.specs.Prelude.{◌≡◌, ℕ, List, Some}
use Rattle.hyd_spec_lines.specs.Lines.{Row, LiesIn, row_of}
use Rattle.hyd_spec_lines.specs.declared.line.Line.{Line}
use Rattle.hyd_spec_input.specs.SectionsAndTables.{node_named, link_named}
use Rattle.hyd_judge_links_controls_and_rules.specs.AskedStatesOfLinks.{IsRightLink}

-- the line of the link of a name
pub record IsNamedLink (text : List ℕ) (rows : List Row) (name : List ℕ) (line : Line) : Type 0 where
  pub named : link_named rows name ≡ Some (row_of text line)
  pub lies : LiesIn text line
  pub right : IsRightLink (row_of text line)

-- the line of the node of a name
pub record IsNamedNode (text : List ℕ) (rows : List Row) (name : List ℕ) (line : Line) : Type 0 where
  pub named : node_named rows name ≡ Some (row_of text line)
  pub lies : LiesIn text line
