-- Families of sections whose rows are judged one after another.
use Rattle.std.specs.Prelude.{Bool, ◌||◌, List, ℕ}
use Rattle.hyd_spec_lines.specs.Lines.{Row}
use Rattle.hyd_spec_lines.specs.declared.section.Section.TheVariants.{Demands, Emitters, Curves, Patterns, Status}
use Rattle.hyd_spec_lines.specs.declared.section.Section.TheVariants.{Controls, Rules, Options}
use Rattle.hyd_net.specs.declared.refusal_cause.Cause.{Cause}
use Rattle.hyd_spec_input.specs.Faults.{IsWrongWithOthers}
use Rattle.hyd_spec_input.specs.SectionsAndTables.{is_of, is_node, is_link}
use Rattle.hyd_rows_and_tables.specs.FirstWrongRow.{IsWrongAmong}

-- rows of one family or another
abbrev pub Both : (Row → Bool) → (Row → Bool) → Row → Bool
Both f g row = f row || g row

abbrev pub commands : Row → Bool
commands = Both (is_of Status) (Both (is_of Controls) (is_of Rules))

abbrev pub from_links : Row → Bool
from_links = Both is_link commands

-- all but nodes and what nodes are judged against
abbrev pub behind_nodes : Row → Bool
behind_nodes = Both (is_of Demands) (Both (is_of Emitters) from_links)

abbrev pub from_nodes : Row → Bool
from_nodes = Both is_node behind_nodes

abbrev pub from_curves : Row → Bool
from_curves = Both (is_of Curves) from_nodes

-- the sections of which a row can be wrong with the others: all but times
abbrev pub is_judged : Row → Bool
is_judged = Both (is_of Options) (Both (is_of Patterns) from_curves)

-- a row of a family is wrong with the others
abbrev pub IsWrongOf : (Row → Bool) → List Row → ℕ → Cause → Type 0
IsWrongOf family rows = IsWrongAmong family (IsWrongWithOthers rows) rows
