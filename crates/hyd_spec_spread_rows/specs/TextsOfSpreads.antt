-- The text of a spread: its rows by line, the first fault of a text, and the spread that a text without a fault gives.
-- Lines and words are those of an input file; there are no headings. A text without rows is no spread.
-- Source: this program's.
use Rattle.std.specs.Prelude.{◌≡◌, ℕ, suc, ◌+◌, ◌^◌, ◌<◌, ◌≤◌, Bool, true, false, ◌&&◌, not, ◌⊎◌, List, [], ◌∷◌, length}
use Rattle.std.specs.Prelude.{map, Option, Some, None, slice_get, slice_index_or, if◌then◌else◌, nat_le}
use Rattle.std.specs.Prelude.{ℤ, pos, unsigned_abs}
use Rattle.std.specs.List.{list_all}
use Rattle.std.specs.Option.{option_map}
use Rattle.std.specs.Str.{bytes_eq}
use Rattle.hyd_spec.specs.ProgramTypes.{Project, Junction, Reservoir, Tank}
use Rattle.hyd_spec.specs.Lists.{map_from}
use Rattle.hyd_spec.specs.NodeNumbers.{junction_count, tank_node}
use Rattle.hyd_spec_certificates.specs.Interval.{Interval}
use Rattle.hyd_spec_lines.specs.WordsOfLines.{text_lines, body, words_in, is_plain}
use Rattle.hyd_spec_lines.specs.Headings.{either}
use Rattle.hyd_spec_input.specs.Columns.{word, units}
use Rattle.hyd_spec_spread.specs.Spreads.{Factors, Spread}
use Rattle.hyd_net.specs.declared.refusal_cause.Cause.{Cause}
use Rattle.hyd_net.specs.declared.refusal_cause.Cause.TheVariants.{Syntax, Limit}
use Rattle.hyd_spec_spread_rows.specs.declared.Subject.{Subject}
use Rattle.hyd_spec_spread_rows.specs.declared.Subject.TheVariants.{Demand, Emitter, Head, Level}
use Rattle.hyd_spec_spread_rows.specs.declared.Ends.{Ends}
use Rattle.hyd_spec_spread_rows.specs.RowsOfSpreads.{subject_of, is_all, row_fault, ends_of}

-- ---- faults

-- a line by its words; it has to be plain where it has some
abbrev pub words_fault : Project → List ℕ → List (List ℕ) → Option Cause
words_fault project text [] = None
words_fault project text (first ∷ more) =
    if list_all is_plain text then row_fault project (first ∷ more) else Some Syntax

-- what is wrong with a line
abbrev pub line_fault : Project → List ℕ → Option Cause
line_fault project line =
    if nat_le (length line) 1024 then words_fault project (body line) (words_in (body line)) else Some (Limit 2)

-- the first line with a fault has this number, counted from 1, and this cause
pub record IsLineFault (project : Project) (text : List ℕ) (number : ℕ) (cause : Cause) : Type 0 where
  pub place : ℕ
  pub number_is : number ≡ suc place
  pub line : List ℕ
  pub is_line : slice_get (text_lines text) place ≡ Some line
  pub is_fault : line_fault project line ≡ Some cause
  pub earlier : (k : ℕ) (before : List ℕ) → k < place → slice_get (text_lines text) k ≡ Some before
      → line_fault project before ≡ None

-- a text of more than 64 MiB isn't read
abbrev pub IsFault : Project → List ℕ → ℕ → Cause → Type 0
IsFault project text number cause =
    ((2 ^ 26 < length text) × (number ≡ 0) × (cause ≡ Limit 1))
    ⊎ ((length text ≤ 2 ^ 26) × IsLineFault project text number cause)

-- a text without a fault
pub record HasNoFault (project : Project) (text : List ℕ) : Type 0 where
  pub short : length text ≤ 2 ^ 26
  pub lines : (k : ℕ) (line : List ℕ) → slice_get (text_lines text) k ≡ Some line → line_fault project line ≡ None

-- ---- what the rows say

-- the words of each line
abbrev pub rows_of : List (List ℕ) → List (List (List ℕ))
rows_of lines = map (λ line. words_in (body line)) lines

-- the last row that a test picks
abbrev pub last_of : (List (List ℕ) → Bool) → List (List (List ℕ)) → Option (List (List ℕ))
last_of test [] = None
last_of test (row ∷ rows) = either (last_of test rows) (if test row then Some row else None)

-- a row is about a subject
abbrev pub is_subject : Option Subject → Subject → Bool
is_subject (Some Demand) Demand = true
is_subject (Some Emitter) Emitter = true
is_subject (Some Head) Head = true
is_subject (Some Level) Level = true
is_subject other subject = false

-- a row names a node by its ID, or all
abbrev pub names : Subject → List ℕ → List (List ℕ) → Bool
names subject id row = is_subject (subject_of row) subject && (not (is_all (word 1 row)) && bytes_eq id (word 1 row))

abbrev pub names_all : Subject → List (List ℕ) → Bool
names_all subject row = is_subject (subject_of row) subject && is_all (word 1 row)

-- what counts for a node: the last row that names it, else the last one for all
abbrev pub row_for : Project → Subject → List (List (List ℕ)) → ℕ → Option (List (List ℕ))
row_for project subject rows node =
    either (last_of (names subject (slice_index_or project.node_ids node [])) rows) (last_of (names_all subject) rows)

abbrev pub ends_or : Ends → Option Ends → Ends
ends_or own None = own
ends_or own (Some ends) = ends

-- the ends for a node, its own where no row speaks of it
abbrev pub ends_for : Project → Subject → List (List (List ℕ)) → Ends → ℕ → Ends
ends_for project subject rows own node =
    ends_or own (option_map (ends_of project subject) (row_for project subject rows node))

abbrev pub at_both : ℤ → Ends
at_both z = record { low = z; high = z }

-- ---- the spread

-- the ends for all junctions, emitters, reservoirs and tanks; of a junction without an emitter no row speaks but those
-- for all, which mean nothing there
abbrev pub demand_ends : Project → List (List (List ℕ)) → List Ends
demand_ends project rows =
    map_from (λ j (junction : Junction). ends_for project Demand rows (at_both (units 1)) j) 0 project.junctions.list

abbrev pub emitter_ends : Project → List (List (List ℕ)) → List Ends
emitter_ends project rows =
    map_from (λ j (junction : Junction). ends_for project Emitter rows (at_both (units 1)) j) 0 project.junctions.list

abbrev pub head_ends : Project → List (List (List ℕ)) → List Ends
head_ends project rows =
    map_from (λ r (reservoir : Reservoir). ends_for project Head rows (at_both (pos 0)) (junction_count project + r)) 0
    project.reservoirs.list

abbrev pub level_ends : Project → List (List (List ℕ)) → List Ends
level_ends project rows =
    map_from (λ k (tank : Tank). ends_for project Level rows (at_both tank.initial) (tank_node project k)) 0
    project.tanks.list

abbrev pub factors_from : Ends → Factors
factors_from ends = record { least = unsigned_abs ends.low; greatest = unsigned_abs ends.high }

abbrev pub interval_from : Ends → Interval
interval_from ends = record { lo = ends.low; hi = ends.high }

-- the spread that a text gives
abbrev pub spread_in : Project → List ℕ → Spread
spread_in project text =
    let rows = rows_of (text_lines text) in
    record {
      demands = map factors_from (demand_ends project rows);
      emitters = map factors_from (emitter_ends project rows);
      heads = map interval_from (head_ends project rows);
      levels = map interval_from (level_ends project rows);
    }
