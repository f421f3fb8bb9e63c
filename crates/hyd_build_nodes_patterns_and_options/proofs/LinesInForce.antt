-- Lines of options and times in force, of rows of which none is wrong: their numbers and times are right.
use Rattle.std.proofs.Common.{◌≡◌, ℕ, Bool, true, List, [], ◌∷◌, Option, Some, None, refl, sym, arith}
use Rattle.std.specs.Prelude.{slice_get, nat_le, codes, IfSome, ◌^◌, pos, if◌then◌else◌, ℤ}
use Rattle.std.proofs.lemmas.Bool.{and_parts, le-leb}
use lib.Signed.{le_z}
use Rattle.hyd_spec_lines.specs.WordsOfLines.{is_keyword}
use Rattle.hyd_spec_lines.specs.Lines.{Row, row_of}
use Rattle.hyd_spec_lines.specs.declared.line.Line.{Line}
use Rattle.hyd_spec_lines.specs.declared.section.Section.{Section}
use Rattle.hyd_spec_lines.specs.declared.section.Section.TheVariants.{Options as OptionsSection, Times as TimesSection}
use Rattle.hyd_spec_input.specs.Columns.{Column, or_else, needed, number, ends, one_of, optional, up_to, word, word_is}
use Rattle.hyd_spec_input.specs.OptionsAndTimesInForce.{begins, begins_both, last_where}
use Rattle.hyd_spec_input.specs.Keywords.{time_word}
use Rattle.hyd_spec_input.specs.declared.OptionWord.TheVariants as at
use Rattle.hyd_spec_input.specs.declared.TimeWord.TheVariants as moment
use Rattle.hyd_spec_input.specs.TimesAndClockTimes.{moment_word, unit_word, time_nano, time_range, time, clock}
use Rattle.hyd_spec_input.specs.TimesAndClockTimes.{whole_seconds}
use Rattle.hyd_spec_input.specs.OptionAndTimeRows.{demand_words, demand_value, demand_line, step_line}
use Rattle.hyd_spec_input.specs.OptionAndTimeRows.{step_or_start_line}
use Rattle.hyd_spec_input.specs.OptionAndTimeRows.{start_line}
use Rattle.hyd_spec_input.specs.SectionsAndTables.{rows_of}
use Rattle.hyd_rows_and_tables.specs.RowsOfLines.{rows_at, row_in}
use Rattle.hyd_theorems_on_input.proofs.RowsWithoutFault.{AreRight, right_alone, or_none, all_none, unless_none}
use Rattle.hyd_theorems_on_input.proofs.RowsWithoutFault.{needed_none}
use Rattle.hyd_theorems_on_input.proofs.OptionsAndTimesInForce.{IsInForce, in_force}
use Rattle.hyd_build_nodes_patterns_and_options.specs.LinesInForce.{GivesTime}
use Rattle.hyd_theorems_on_input.proofs.OptionRanges.{minimum_is, required_is, about, bound_number, demand_is}
use Rattle.hyd_theorems_on_input.proofs.TimesAndClockTimes.{about_time}

-- what each row in force has, a line in force has it
pub of_line : (text : List ℕ) (lines : List Line) (section : Section) (p : Row → Bool) (C : List (List ℕ) → Type 0)
    (line : Option Line) → row_in text line ≡ last_where p (rows_of section (rows_at text lines))
    → ((row : Row) → IsInForce (rows_at text lines) section p row → C row.words)
    → IfSome line (λ l. C (row_of text l).words)
of_line text lines section p C None e each = tt
of_line text lines section p C (Some l) e each =
    each (row_of text l) (in_force (rows_at text lines) section p (row_of text l) (sym e))

-- ---- options

-- a word that is there and right
right_word : (column : Column) (k : ℕ) (words : List (List ℕ)) → slice_get words k ≡ Some (word k words)
    → column (word k words) ≡ None → needed column k words ≡ None
right_word column k words there right = rw there right

-- a number in a range is a number
number_in : (test : Column) (words : List (List ℕ)) → needed (λ w. or_else (number w) (test w)) 2 words ≡ None
    → needed number 2 words ≡ None
number_in test words e =
    let found = needed_none (λ w. or_else (number w) (test w)) 2 words e in
    right_word number 2 words found.is (or_none (number (word 2 words)) (test (word 2 words)) found.right).0

multiplier_number : (words : List (List ℕ)) → word_is 1 (codes "MULTIPLIER") words ≡ true → demand_line words ≡ None
    → needed number 2 words ≡ None
multiplier_number words is line =
    let each = all_none (needed (one_of demand_words) 1 words ∷ needed (demand_value words) 2 words ∷ ends 3 words
    ∷ []) line in
    let value : needed (up_to (10 ^ 6)) 2 words ≡ None = rw is at each.1.0 in
    number_in _ words value

pub minimum_right : (rows : List Row) (row : Row) → AreRight rows
    → IsInForce rows OptionsSection (begins (codes "MINIMUM")) row → needed number 2 row.words ≡ None
minimum_right rows row right found =
    bound_number row.words (about row.words (codes "MINIMUM") at.Minimum
    (right_alone rows OptionsSection found.place row right found.is found.of) found.passes minimum_is)

pub required_right : (rows : List Row) (row : Row) → AreRight rows
    → IsInForce rows OptionsSection (begins (codes "REQUIRED")) row → needed number 2 row.words ≡ None
required_right rows row right found =
    bound_number row.words (about row.words (codes "REQUIRED") at.Required
    (right_alone rows OptionsSection found.place row right found.is found.of) found.passes required_is)

pub multiplier_right : (rows : List Row) (row : Row) → AreRight rows
    → IsInForce rows OptionsSection (begins_both (codes "DEMAND") (codes "MULTIPLIER")) row
    → needed number 2 row.words ≡ None
multiplier_right rows row right found =
    let both = and_parts (word_is 0 (codes "DEMAND") row.words) (word_is 1 (codes "MULTIPLIER") row.words)
    found.passes in
    multiplier_number row.words both.1 (about row.words (codes "DEMAND") at.Demand
    (right_alone rows OptionsSection found.place row right found.is found.of) both.0 demand_is)

-- ---- times

hydraulic_is : time_word (codes "HYDRAULIC") ≡ Some moment.Hydraulic
unfolding time_word is_keyword
hydraulic_is = refl

pattern_is : time_word (codes "PATTERN") ≡ Some moment.Pattern
unfolding time_word is_keyword
pattern_is = refl

report_is : time_word (codes "REPORT") ≡ Some moment.Report
unfolding time_word is_keyword
report_is = refl

rule_is : time_word (codes "RULE") ≡ Some moment.Rule
unfolding time_word is_keyword
rule_is = refl

duration_is : time_word (codes "DURATION") ≡ Some moment.Duration
unfolding time_word is_keyword
duration_is = refl

start_is : time_word (codes "START") ≡ Some moment.Start
unfolding time_word is_keyword
start_is = refl

-- a time of at least so many seconds is a time
range_any : (least : ℕ) (nano : ℤ) → time_range least nano ≡ None → time_range 0 nano ≡ None
range_any least nano e =
    let both = and_parts (le_z (pos 0) nano) _ (unless_none _ _ e) in
    let bounds = and_parts (nat_le least (whole_seconds nano)) (nat_le (whole_seconds nano) (10 ^ 8)) both.1 in
    rw (both.0, le-leb 0 (whole_seconds nano) (omega arith), bounds.1) refl

any_time : (least : ℕ) (words : List (List ℕ)) → time least 2 words ≡ None → time 0 2 words ≡ None
any_time least words e =
    let each = all_none (needed moment_word 2 words ∷ optional (unit_word (word 2 words)) 3 words
    ∷ time_range least (time_nano 2 words) ∷ ends 4 words ∷ []) e in
    rw (each.0, each.1.0, range_any least (time_nano 2 words) each.1.1.0, each.1.1.1.0) refl

step_time : (words : List (List ℕ)) → step_line words ≡ None → time 0 2 words ≡ None
step_time words e = any_time 1 words (or_none (needed (one_of (codes "TIMESTEP" ∷ [])) 1 words) (time 1 2 words) e).1

either_time : (words : List (List ℕ)) → step_or_start_line words ≡ None → time 0 2 words ≡ None
either_time words e = any_time (if word_is 1 (codes "TIMESTEP") words then 1 else 0) words
    (or_none (needed (one_of (codes "TIMESTEP" ∷ codes "START" ∷ [])) 1 words)
    (time (if word_is 1 (codes "TIMESTEP") words then 1 else 0) 2 words) e).1

pub hydraulic_gives : (second : List ℕ) → GivesTime (codes "HYDRAULIC") second
hydraulic_gives second words line begun _ =
    step_time words (about_time words (codes "HYDRAULIC") moment.Hydraulic line begun hydraulic_is)

pub pattern_gives : (second : List ℕ) → GivesTime (codes "PATTERN") second
pattern_gives second words line begun _ =
    either_time words (about_time words (codes "PATTERN") moment.Pattern line begun pattern_is)

pub report_gives : (second : List ℕ) → GivesTime (codes "REPORT") second
report_gives second words line begun _ =
    either_time words (about_time words (codes "REPORT") moment.Report line begun report_is)

pub rule_gives : (second : List ℕ) → GivesTime (codes "RULE") second
rule_gives second words line begun _ =
    step_time words (about_time words (codes "RULE") moment.Rule line begun rule_is)

pub duration_right : (rows : List Row) (row : Row) → AreRight rows
    → IsInForce rows TimesSection (begins (codes "DURATION")) row → time 0 1 row.words ≡ None
duration_right rows row right found = about_time row.words (codes "DURATION") moment.Duration
    (right_alone rows TimesSection found.place row right found.is found.of) found.passes duration_is

pub seconds_right : (rows : List Row) (key second : List ℕ) (row : Row) → AreRight rows → GivesTime key second
    → IsInForce rows TimesSection (begins_both key second) row → time 0 2 row.words ≡ None
seconds_right rows key second row right gives found =
    let both = and_parts (word_is 0 key row.words) (word_is 1 second row.words) found.passes in
    gives row.words (right_alone rows TimesSection found.place row right found.is found.of) both.0 both.1

pub start_right : (rows : List Row) (row : Row) → AreRight rows
    → IsInForce rows TimesSection (begins_both (codes "START") (codes "CLOCKTIME")) row → clock 2 row.words ≡ None
start_right rows row right found =
    let both = and_parts (word_is 0 (codes "START") row.words) (word_is 1 (codes "CLOCKTIME") row.words)
    found.passes in
    let line : start_line row.words ≡ None =
    about_time row.words (codes "START") moment.Start
    (right_alone rows TimesSection found.place row right found.is found.of) both.0 start_is in
    (or_none (needed (one_of (codes "CLOCKTIME" ∷ [])) 1 row.words) (clock 2 row.words) line).1
