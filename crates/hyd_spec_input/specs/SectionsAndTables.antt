-- The rows of each section, and the tables of a file: what its IDs name.
-- Source: EPANET 2.2 User Manual, appendix C.
use Rattle.std.specs.Prelude.{ℕ, ◌+◌, Bool, true, false, ◌==◌, ◌||◌, List, [], ◌∷◌, ◌++◌, map, filter, Option, Some}
use Rattle.std.specs.Prelude.{None, ℤ, if◌then◌else◌}
use Rattle.std.specs.List.{flat_map}
use Rattle.std.specs.Str.{bytes_eq}
use Rattle.hyd_spec_lines.specs.Lines.{Row}
use Rattle.hyd_spec_lines.specs.declared.section.Section.{Section}
use Rattle.hyd_spec_lines.specs.declared.section.Section.TheVariants.{Junctions, Reservoirs, Tanks, Pipes, Pumps}
use Rattle.hyd_spec_lines.specs.declared.section.Section.TheVariants.{Valves, Demands, Emitters, Curves, Patterns}
use Rattle.hyd_spec_lines.specs.declared.section.Section.TheVariants.{Status, Controls, Rules, Options, Times}
use Rattle.hyd_spec_input.specs.Columns.{word, amount}
use Rattle.hyd_spec_input.specs.declared.NodeWord.{NodeWord}
use Rattle.hyd_spec_input.specs.declared.NodeWord.TheVariants.{Node, Junction, Tank, Reservoir}
use Rattle.hyd_spec_input.specs.declared.LinkWord.{LinkWord}
use Rattle.hyd_spec_input.specs.declared.LinkWord.TheVariants.{Link, Pipe, Pump, Valve}
use Rattle.hyd_spec_input.specs.DemandEmitterCurvePatternAndStatusRows.{multipliers}

-- ---- rows by section

-- the place of a section in the list of them all
abbrev pub place : Section → ℕ
place Junctions = 0
place Reservoirs = 1
place Tanks = 2
place Pipes = 3
place Pumps = 4
place Valves = 5
place Demands = 6
place Emitters = 7
place Curves = 8
place Patterns = 9
place Status = 10
place Controls = 11
place Rules = 12
place Options = 13
place Times = 14

abbrev pub is_of : Section → Row → Bool
is_of section row = place row.section == place section

-- the rows of a section, in order
abbrev pub rows_of : Section → List Row → List Row
rows_of section rows = filter (is_of section) rows

abbrev pub words_of_row : Row → List (List ℕ)
words_of_row row = row.words

-- the words of the rows of a section
abbrev pub words_of : Section → List Row → List (List (List ℕ))
words_of section rows = map words_of_row (rows_of section rows)

-- ---- IDs

-- a row's own ID, or what its first word names
abbrev pub own_id : Row → List ℕ
own_id row = word 0 row.words

abbrev pub is_node : Row → Bool
is_node row = is_of Junctions row || (is_of Reservoirs row || is_of Tanks row)

abbrev pub is_link : Row → Bool
is_link row = is_of Pipes row || (is_of Pumps row || is_of Valves row)

-- junctions, reservoirs and tanks share one table of IDs, pipes, pumps and valves another
abbrev pub node_rows : List Row → List Row
node_rows rows = filter is_node rows

abbrev pub link_rows : List Row → List Row
link_rows rows = filter is_link rows

-- the first row with this ID
abbrev pub row_with : List ℕ → List Row → Option Row
row_with name [] = None
row_with name (row ∷ rows) = if bytes_eq name (own_id row) then Some row else row_with name rows

-- an ID stands in a row
abbrev pub has_id : List ℕ → List Row → Bool
has_id name [] = false
has_id name (row ∷ rows) = bytes_eq name (own_id row) || has_id name rows

-- the node, link of a name
abbrev pub node_named : List Row → List ℕ → Option Row
node_named rows name = row_with name (node_rows rows)

abbrev pub link_named : List Row → List ℕ → Option Row
link_named rows name = row_with name (link_rows rows)

-- a row's ID is no earlier one's: one more
abbrev pub one_if_new : List Row → Row → ℕ
one_if_new earlier row = if has_id (own_id row) earlier then 0 else 1

-- how many IDs stand in rows and in no earlier ones
abbrev pub distinct_after : List Row → List Row → ℕ
distinct_after earlier [] = 0
distinct_after earlier (row ∷ rows) = one_if_new earlier row + distinct_after (earlier ++ row ∷ []) rows

-- how many IDs stand in rows
abbrev pub distinct : List Row → ℕ
distinct rows = distinct_after [] rows

-- the word before a node's ID allows the node: it is NODE or the node's own kind
abbrev pub allows_node : Option NodeWord → Row → Bool
allows_node None row = false
allows_node (Some Node) row = true
allows_node (Some Junction) row = is_of Junctions row
allows_node (Some Tank) row = is_of Tanks row
allows_node (Some Reservoir) row = is_of Reservoirs row

-- the word before a link's ID allows the link: it is LINK or the link's own kind
abbrev pub allows_link : Option LinkWord → Row → Bool
allows_link None row = false
allows_link (Some Link) row = true
allows_link (Some Pipe) row = is_of Pipes row
allows_link (Some Pump) row = is_of Pumps row
allows_link (Some Valve) row = is_of Valves row

-- ---- patterns and curves, whose rows go on

abbrev pub rows_with : List ℕ → List Row → List Row
rows_with name rows = filter (λ row. bytes_eq name (own_id row)) rows

abbrev pub row_multipliers : Row → List ℤ
row_multipliers row = multipliers row.words

-- the multipliers of a pattern, in billionths
abbrev pub pattern_named : List Row → List ℕ → List ℤ
pattern_named rows name = flat_map row_multipliers (rows_with name (rows_of Patterns rows))

-- a point of a curve: x and y, in billionths
pub record Point : Type 0 where
  pub x : ℤ
  pub y : ℤ

abbrev pub point_of : Row → Point
point_of row = record { x = amount 1 row.words; y = amount 2 row.words }

abbrev pub curve_named : List Row → List ℕ → List Point
curve_named rows name = map point_of (rows_with name (rows_of Curves rows))
