-- The rows of a file: for each line of a section that is read and that has a word, its number, section and words; and
-- the lines that break a rule of lines, the first of which ends what is read.
-- Source: EPANET 2.2 User Manual, appendix C; that a line has at most 1,024 bytes is this program's.
use Rattle.std.specs.Prelude.{ℕ, Bool, true, false, ◌≡◌, ◌⊎◌, ◌+◌, ◌-◌, ◌==◌, filter, take, slice_get, nat_le, List, []}
use Rattle.std.specs.Prelude.{◌∷◌, ◌++◌, length, Option, Some, None, Result, Ok, Err, if◌then◌else◌, slice_index}
use Rattle.std.specs.Prelude.{slice_range, ◌≤◌}
use Rattle.std.specs.List.{list_all, before_first}
use Rattle.hyd_spec_lines.specs.WordsOfLines.{text_lines, body, words_in, is_plain, is_line_feed}
use Rattle.hyd_spec_lines.specs.Headings.{heading_kind}
use Rattle.hyd_spec_lines.specs.declared.section.Section.{Section}
use Rattle.hyd_spec_lines.specs.declared.section.Region.{Region}
use Rattle.hyd_spec_lines.specs.declared.section.Region.TheVariants.{BeforeHeadings, Read, PassedOver, Ended}
use Rattle.hyd_spec_lines.specs.declared.fault.LexCause.TheVariants.{LongLine, UnknownSection, NotAscii, NoSection}
use Rattle.hyd_spec_lines.specs.declared.fault.LexFault.{LexFault}
use Rattle.hyd_spec_lines.specs.declared.section.Kind.{Kind}
use Rattle.hyd_spec_lines.specs.declared.section.Kind.TheVariants.{Nothing, Wrong, Row as RowOf, Opens}
use Rattle.hyd_spec_lines.specs.declared.line.Line.{Line}

-- ---- one line

-- a heading is the only word of its line
abbrev pub only_kind : List ℕ → List (List ℕ) → Kind
only_kind word [] = heading_kind word
only_kind word (second ∷ more) = Wrong UnknownSection

-- a line of words that isn't a heading is a row where its section is read; it has to be plain there
abbrev pub row_kind : Region → List ℕ → Kind
row_kind BeforeHeadings body = Wrong NoSection
row_kind (Read section) body = if list_all is_plain body then RowOf section else Wrong NotAscii
row_kind PassedOver body = Nothing
row_kind Ended body = Nothing

-- a line's body by its words
abbrev pub body_kind : Region → List ℕ → List (List ℕ) → Kind
body_kind region body [] = Nothing
body_kind region body (word ∷ words) =
    if slice_index word 0 == 91 then (if list_all is_plain body then only_kind word words else Wrong NotAscii)
    else row_kind region body

abbrev pub line_kind : Region → List ℕ → Kind
line_kind region line = if nat_le (length line) 1024 then body_kind region (body line) (words_in (body line))
    else Wrong LongLine

-- what a line is in a region; after the last section nothing is looked at
unfoldable pub kind_of : Region → List ℕ → Kind
kind_of Ended line = Nothing
kind_of region line = line_kind region line

-- ---- rows

-- a row
pub record Row : Type 0 where
  pub number : ℕ
  pub section : Section
  pub words : List (List ℕ)

-- what a line gives: a row, a fault, or nothing
abbrev pub given : Kind → ℕ → List ℕ → List (Result Row LexFault)
given Nothing number line = []
given (Wrong cause) number line = Err (record { line = number; cause = cause }) ∷ []
given (RowOf section) number line = Ok (record { number = number; section = section; words = words_in (body line) })
    ∷ []
given (Opens region) number line = []

-- ---- sections

-- a line is a heading: its first word begins with a bracket
abbrev pub begin_heading : List (List ℕ) → Bool
begin_heading [] = false
begin_heading (word ∷ words) = slice_index word 0 == 91

abbrev pub is_heading : List ℕ → Bool
is_heading line = begin_heading (words_in (body line))

-- what a heading is, wherever it stands: right or wrong
abbrev pub heading : List ℕ → Kind
heading line = kind_of BeforeHeadings line

-- a line is the heading [END]
abbrev pub ends_region : Region → Bool
ends_region BeforeHeadings = false
ends_region (Read section) = false
ends_region PassedOver = false
ends_region Ended = true

abbrev pub ends_text : Kind → Bool
ends_text Nothing = false
ends_text (Wrong cause) = false
ends_text (RowOf section) = false
ends_text (Opens region) = ends_region region

abbrev pub is_end : List ℕ → Bool
is_end line = ends_text (heading line)

-- what each of these lines gives, which stand under one heading, or under none; the first has this number
abbrev pub given_under : Region → ℕ → List (List ℕ) → List (Result Row LexFault)
given_under region number [] = []
given_under region number (line ∷ lines) =
    given (kind_of region line) number line ++ given_under region (number + 1) lines

-- A section: its heading, of this number, and the lines behind it up to the next heading, which are passed over where
-- the heading is wrong.
abbrev pub section_of : Kind → ℕ → List ℕ → List (List ℕ) → List (Result Row LexFault)
section_of Nothing number line lines = []
section_of (Wrong cause) number line lines =
    given (Wrong cause) number line ++ given_under PassedOver (number + 1) (before_first is_heading lines)
section_of (RowOf section) number line lines = []
section_of (Opens region) number line lines = given_under region (number + 1) (before_first is_heading lines)

-- the sections of these lines, one for each heading among them; the first line has this number
abbrev pub sections_of : ℕ → List (List ℕ) → List (Result Row LexFault)
sections_of number [] = []
sections_of number (line ∷ lines) =
    (if is_heading line then section_of (heading line) number line lines else []) ++ sections_of (number + 1) lines

-- ---- a text

-- the lines of a text that are looked at: those before its heading [END]
abbrev pub lines_before_end : List ℕ → List (List ℕ)
lines_before_end text = before_first is_end (text_lines text)

-- what these lines give: those before the first heading, then the sections
abbrev pub given_by : List (List ℕ) → List (Result Row LexFault)
given_by lines = given_under BeforeHeadings 1 (before_first is_heading lines) ++ sections_of 1 lines

-- the rows of a text, and the lines that break a rule of lines, in order
unfoldable pub items_of : List ℕ → List (Result Row LexFault)
items_of text = given_by (lines_before_end text)

-- the rows of a text up to its first fault
abbrev pub rows_in : List (Result Row LexFault) → List Row
rows_in [] = []
rows_in (Ok row ∷ items) = row ∷ rows_in items
rows_in (Err fault ∷ items) = []

-- all rows of a text, also those behind a fault
abbrev pub all_rows_in : List (Result Row LexFault) → List Row
all_rows_in [] = []
all_rows_in (Ok row ∷ items) = row ∷ all_rows_in items
all_rows_in (Err fault ∷ items) = all_rows_in items

-- the fault of a text's lines
abbrev pub fault_in : List (Result Row LexFault) → Option LexFault
fault_in [] = None
fault_in (Ok row ∷ items) = fault_in items
fault_in (Err fault ∷ items) = Some fault

-- ---- what the reader shows of them

-- the row of a line of the reader
abbrev pub row_of : List ℕ → Line → Row
row_of text line = record {
  number = line.number;
  section = line.section;
  words =
      words_in (slice_range text line.from line.to);
}

-- a line that the reader gave
abbrev pub item_of : List ℕ → Result Line LexFault → Result Row LexFault
item_of text (Ok line) = Ok (row_of text line)
item_of text (Err fault) = Err fault

-- a line lies in the text
pub record LiesIn (text : List ℕ) (line : Line) : Type 0 where
  pub order : line.from ≤ line.to
  pub end : line.to ≤ length text

-- A line begins at this place, behind this number of lines: so many line feeds stand before the place, the last of them
-- directly, or it's the start.
pub record LineBegins (text : List ℕ) (place lines : ℕ) : Type 0 where
  pub feeds : length (filter is_line_feed (take place text)) ≡ lines
  pub behind : (place ≡ 0) ⊎ (is_line_feed (slice_index text (place - 1)) ≡ true)

-- A line of the reader is the text's line of its number: it begins where that begins, and its bytes are those of that
-- up to a comment.
pub record IsLineOf (text : List ℕ) (line : Line) : Type 0 where
  pub from : LineBegins text line.from (line.number - 1)
  pub whole : List ℕ
  pub whole_is : slice_get (text_lines text) (line.number - 1) ≡ Some whole
  pub to : line.to ≡ line.from + length (body whole)
  pub bytes : slice_range text line.from line.to ≡ body whole

-- a text, and what is still to be read of it
pub record Reading : Type 0 where
  pub text : List ℕ
  pub rest : List (Result Row LexFault)
